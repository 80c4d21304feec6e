pub mod Rings
pub mod Links
pub mod HalfEdges
pub mod Walks
