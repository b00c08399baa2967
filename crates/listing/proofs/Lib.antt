pub mod Putting
pub mod Theorem
pub mod Examples
