pub mod ColumnHost
pub mod ResolvingHost
