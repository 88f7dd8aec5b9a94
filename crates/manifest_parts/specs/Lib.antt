pub use Rattle.manifest_schema.specs.Contents
pub use Rattle.manifest_schema.specs.Choices
pub use Rattle.manifest_schema.specs.PartForms
pub mod Refusals
pub mod Parts
pub mod Records
pub mod Queries
