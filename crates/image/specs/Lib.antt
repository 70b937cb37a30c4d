pub mod Headers
pub mod Images
