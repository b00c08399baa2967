pub mod Remainder
pub mod Digit
pub mod Arithmetic
pub mod Two
pub mod Reversed
pub mod Theorem
pub mod Examples
