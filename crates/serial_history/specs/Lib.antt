pub mod Reading
pub mod Serial
pub mod Laws
