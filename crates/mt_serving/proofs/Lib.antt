pub mod Causes
pub mod Complete
pub mod Courses
pub mod Ends
pub mod Readings
pub mod Records
