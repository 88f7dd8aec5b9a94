pub mod Skipped
pub mod Nesting
pub mod Laws
