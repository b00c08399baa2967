pub mod Pivots
pub mod Transposed
pub mod Scanned
