pub mod OneByOne
pub mod Onward
pub mod Over
pub mod Short
pub mod Totals
