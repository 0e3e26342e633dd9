pub mod Decoding
pub mod Facts
pub mod Fields
pub mod Grammar
pub mod Keys
pub mod Values
