pub mod Reduction
pub mod Refinement
pub mod Outcomes
pub mod Shapes
