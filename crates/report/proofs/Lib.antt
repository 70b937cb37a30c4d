mod Says
mod Joins
mod Hexes
