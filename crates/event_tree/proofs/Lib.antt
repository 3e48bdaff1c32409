mod Adding
mod Linking
mod Listing
mod Newest
mod Searching
