pub mod Books
pub mod Tickets
