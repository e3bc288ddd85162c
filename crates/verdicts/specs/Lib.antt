pub mod Grounds
pub mod Shaking
