pub mod Transfer
pub mod Ending
