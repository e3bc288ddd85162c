pub mod Frames
pub mod Moves
pub mod Lifts
pub mod Turns
mod Titles
mod Joins
