-- The laws of rows and of forms, and those of each form.
pub mod Built
pub mod RowsWritten
pub mod FormLaws
pub mod RowLaws
pub mod PartLaws
pub mod ManifestLaws
pub mod CopyLaws
