pub mod Records
pub mod Lines
