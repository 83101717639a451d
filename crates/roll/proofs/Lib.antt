pub mod Standings
pub mod Changes
pub mod Verdicts
pub mod Entries
