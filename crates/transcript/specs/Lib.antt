pub mod Replaces
pub mod Replies
pub mod Performs
pub mod Sessions
pub mod Reads
