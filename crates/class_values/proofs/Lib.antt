mod Markup
mod Leaving
mod Worked
