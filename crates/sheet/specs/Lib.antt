pub mod Sheet
pub mod ReadBack
pub mod Cursor
pub mod Lines
pub mod Theorem
