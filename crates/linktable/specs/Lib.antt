pub mod Links
pub mod Room
