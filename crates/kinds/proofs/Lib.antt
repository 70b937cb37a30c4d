mod Digits
mod Made
pub mod Parts
