pub mod Sizes
pub mod Fuel
pub mod Sounds
pub mod Reading
pub mod SameNames
pub mod Leading
pub mod Declared
pub mod Outcomes
