pub mod States
pub mod Fillings
pub mod Calls
pub mod Opens
pub mod Additions
