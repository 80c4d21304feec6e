pub mod Keys
pub mod Lists
pub mod Maps
pub mod Calls
pub mod Questions
