pub mod Denials
pub mod SeenRows
