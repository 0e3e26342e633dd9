pub mod Denials
pub mod Keeping
pub mod Merging
pub mod Rising
pub mod Sizes
pub mod Standing
