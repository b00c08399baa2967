pub mod Words
pub mod FileWalks
