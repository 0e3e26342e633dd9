pub mod Bodies
pub mod Ends
pub mod Greedy
pub mod Lengths
pub mod Only
pub mod Puts
pub mod Splits
pub mod Tails
