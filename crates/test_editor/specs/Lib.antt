pub mod AskedHost
pub mod PiecesHost
pub mod StrayHost
