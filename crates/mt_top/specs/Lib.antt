pub mod Asked
pub mod Begun
pub mod Clusters
pub mod Compared
pub mod Denials
pub mod Isolated
pub mod Runs
pub mod Serving
