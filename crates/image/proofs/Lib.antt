pub mod ImageBytes
pub mod ImageWrites
