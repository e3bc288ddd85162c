pub mod Weights
pub mod Naming
pub mod Needed
pub mod Rows
pub mod Steps
pub mod Filling
