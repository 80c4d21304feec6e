pub mod Order
pub mod Kinds
pub mod Refusals
pub mod Nodes
pub mod Hashes
pub mod Weights
pub mod Laws
