pub mod Coming
pub mod Steps
pub mod FileVisits
pub mod Inside
pub mod Base
pub mod Theorem
