pub mod Listing
pub mod Cursor
pub mod Lines
pub mod Theorem
