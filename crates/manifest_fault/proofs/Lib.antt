pub mod Under
pub mod TextLemmas
pub mod FindingTrees
