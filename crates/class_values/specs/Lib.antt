pub mod Labels
pub mod Totals
pub mod Expected
pub mod Class
pub mod Page
pub mod Laws
