pub use Rattle.manifest_schema.specs.Paths
pub use Rattle.manifest_schema.specs.PathTexts
pub mod Faults
pub mod Refusals
pub mod Placed
pub mod Found
