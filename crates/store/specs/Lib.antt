pub mod Meaning
pub mod Standing
pub mod Tables
pub mod Rolls
pub mod TableMeanings
