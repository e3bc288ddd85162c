pub mod Cuts
pub mod Reading
pub mod Names
pub mod Passing
pub mod ReadBack
pub mod Shrinking
mod Going
