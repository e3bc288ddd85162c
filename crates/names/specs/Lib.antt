pub mod Sinks
pub mod NameWalks
