pub mod Stages
pub mod Seats
pub mod Looks
pub mod Heads
