pub mod MenuRuns
pub mod SearchRuns
pub mod Rows
pub mod MeasuredRows
pub mod RowCells
pub mod LineRuns
pub mod SettledCursors
