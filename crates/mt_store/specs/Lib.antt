pub mod Leading
pub mod States
