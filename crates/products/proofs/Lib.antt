pub mod Consecutive
pub mod Within
