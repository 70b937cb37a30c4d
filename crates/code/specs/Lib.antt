pub mod Marks
pub mod Sizes
pub mod Places
pub mod Rules
pub mod Rebuilt
pub mod Examples
