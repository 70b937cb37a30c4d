pub mod Tally
pub mod Refusals
pub mod Matches
pub mod Answers
pub mod Turns
pub mod Racks
pub mod Texts
