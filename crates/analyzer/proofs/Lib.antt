mod Declares
pub mod Fills
mod Paths
mod Walks
mod Bridge
mod Counts
mod Readings
