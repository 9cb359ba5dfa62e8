pub mod Refusals
pub mod Shapes
pub mod Steps
pub mod Stores
