pub mod Commands
pub mod Shown
