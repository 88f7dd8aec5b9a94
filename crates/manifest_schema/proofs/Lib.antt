pub mod Tables
pub mod Values
pub mod Forms
pub mod Findings
pub mod Meaning
