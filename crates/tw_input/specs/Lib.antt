pub mod Equality
pub mod EventView
pub mod Modifiers
