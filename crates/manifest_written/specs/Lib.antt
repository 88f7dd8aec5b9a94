pub use Rattle.manifest_schema.specs.Prelude
pub mod Written
