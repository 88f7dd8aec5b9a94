pub mod NoTag
