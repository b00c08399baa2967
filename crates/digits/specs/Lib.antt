pub mod Digits
pub mod Theorem
