pub mod Tests
pub mod Positions
pub mod Tallies
pub mod Ends
