pub mod Ascii
pub mod Decimal
pub mod Columns
pub mod Put
pub mod Pieces
pub mod Theorem
