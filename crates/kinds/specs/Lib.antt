pub mod Group
pub mod Bytes
pub mod Bits
pub mod Texts
pub mod Parts
