pub mod Askings
pub mod Ends
pub mod Readings
pub mod Recordings
pub mod Showings
pub mod Tests
