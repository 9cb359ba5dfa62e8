pub mod Outcomes
pub mod Tolls
pub mod Sizes
