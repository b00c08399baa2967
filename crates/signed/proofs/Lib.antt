pub mod Signs
pub mod Theorem
