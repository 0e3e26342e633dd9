pub mod Causes
pub mod Refusal
pub mod Silence
