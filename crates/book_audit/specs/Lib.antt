pub mod Audit
pub mod Compared
pub mod Grounds
pub mod Findings
pub mod Pieces
