pub mod Quotient
pub mod Parts
pub mod Word
pub mod Singles
pub mod Theorem
