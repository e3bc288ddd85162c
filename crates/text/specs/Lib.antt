pub mod Gives
pub mod Split
pub mod Numbers
pub mod Keywords
pub mod Lines
pub mod Reader
pub mod Place
