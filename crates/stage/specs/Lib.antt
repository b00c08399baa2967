pub mod Position
pub mod Field
pub mod Region
pub mod Base
pub mod Theorem
