pub mod Ringed
pub mod Closing
pub mod Joining
pub mod Marking
pub mod Walking
pub mod Spending
