pub mod Range
pub mod Pair
pub mod Calls
pub mod Fill
pub mod Walk
pub mod Lists
pub mod Theorem
