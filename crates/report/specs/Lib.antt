pub mod Pairs
pub mod Reports
