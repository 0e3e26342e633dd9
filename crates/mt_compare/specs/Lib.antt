pub mod Found
pub mod Passing
pub mod Sides
pub mod Text
pub mod mt_machine
pub mod mt_marks
pub mod mt_play
pub mod mt_runs
