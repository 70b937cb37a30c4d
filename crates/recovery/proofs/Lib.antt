mod Alone
pub mod Assembled
pub mod Counted
pub mod Impulses
pub mod Laid
pub mod Picked
pub mod Twos
