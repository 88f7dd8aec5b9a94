-- What is found: that it is each fault, once, and what is ignored or unused.
pub mod Faultless
pub mod Diverging
pub mod FoundLaws
pub mod UnusedLaws
pub mod FoundOnce
pub mod Pinned
pub mod IgnoredLaws
pub mod FaultPlaces
