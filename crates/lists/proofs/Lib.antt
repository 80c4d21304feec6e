pub mod Latest
pub mod Chains
pub mod Swap
pub mod Positions
