pub use Rattle.toml.specs.Data
pub use Rattle.manifest_schema.specs.Kinds
pub mod Numbers
pub mod Encoded
pub mod Decoded
pub mod Held
pub mod Read
pub mod Laws
