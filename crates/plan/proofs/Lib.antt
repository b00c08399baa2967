pub mod Laws
pub mod Level
pub mod Loading
pub mod Filling
pub mod Lists
pub mod Theorem
