pub mod FlipBits
pub mod None
pub mod Turn
pub mod Tree
pub mod Scrambled
pub mod Loading
pub mod Theorem
