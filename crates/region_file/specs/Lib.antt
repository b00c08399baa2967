pub mod Records
pub mod Chain
pub mod Judge
pub mod Base
pub mod Theorem
