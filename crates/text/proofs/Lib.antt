pub mod Cuts
pub mod Readings
pub mod Runs
