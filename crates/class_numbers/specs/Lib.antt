pub mod Numbers
pub mod Told
pub mod Books
pub mod Laws
