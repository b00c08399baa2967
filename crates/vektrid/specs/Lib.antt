pub mod Regions
pub mod Interface
