pub mod Visits
pub mod Base
pub mod FileWalk
pub mod Stepping
pub mod Theorem
