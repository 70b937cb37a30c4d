pub mod First
pub mod Same
