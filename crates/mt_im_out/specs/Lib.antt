pub mod Chunks
pub mod Fronts
pub mod Greedy
pub mod Messages
pub mod Packing
