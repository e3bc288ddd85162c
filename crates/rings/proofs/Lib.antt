pub mod Taking
pub mod Naming
pub mod Ruling
pub mod Marked
pub mod Quieting
pub mod Joined
pub mod Spent
pub mod Refusing
