pub mod Crew
