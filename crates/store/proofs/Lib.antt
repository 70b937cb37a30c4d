pub mod Gets
pub mod TableRows
pub mod Afters
pub mod Nexts
