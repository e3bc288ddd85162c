pub mod Accepts
pub mod Outline
