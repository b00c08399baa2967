pub mod Sums
pub mod Limits
pub mod Fit
pub mod Examples
pub mod Theorem
