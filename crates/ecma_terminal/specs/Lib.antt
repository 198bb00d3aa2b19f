pub mod Cells
pub mod Grids
pub mod Colors
pub mod Readings
pub mod Terminals
