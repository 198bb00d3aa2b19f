pub mod PieceLaws
pub mod Sieve
pub mod SieveLaws
pub mod Typed
