pub mod Declaring
pub mod CountFaults
pub mod Scopes
pub mod Walk
pub mod Visits
pub mod Readings
pub mod Uses
