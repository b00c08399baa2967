pub mod Flips
pub mod Scramble
pub mod Load
pub mod Tree
pub mod Theorem
