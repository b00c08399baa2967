pub mod Loading
pub mod Copies
