pub mod Books
pub mod Turns
pub mod Walks
pub mod Words
pub mod LastNodes
