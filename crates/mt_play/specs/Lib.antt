pub mod Courses
pub mod Journal
pub mod Plays
pub mod Remembers
pub mod mt_machine
pub mod mt_marks
pub mod mt_runs
pub mod mt_whole
