pub mod Absents
pub mod Datas
pub mod Fillings
pub mod Cleared
pub mod Addings
pub mod Spreads
pub mod Writings
