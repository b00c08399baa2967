pub mod Elimination
pub mod Basis
