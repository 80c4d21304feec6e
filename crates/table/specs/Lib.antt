pub mod Slots
pub mod Index
pub mod Content
pub mod Searches
pub mod Tables
