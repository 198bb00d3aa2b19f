pub mod MenuRunLemmas
pub mod SearchRunLemmas
pub mod RowTexts
pub mod ColumnLemmas
pub mod MeasuredRowLemmas
pub mod CellLemmas
pub mod LineRunLemmas
pub mod SettledCursorLemmas
mod WorkedRows
mod WorkedRowRuns
mod WorkedRowScenes
