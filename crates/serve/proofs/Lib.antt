pub mod Keeps
pub mod KeepsWrite
pub mod Turned
pub mod Refused
pub mod Pushed
