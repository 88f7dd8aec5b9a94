pub mod ChangeLemmas
pub mod Kept
pub mod KeyLemmas
pub mod LineLemmas
pub mod LocatedLemmas
pub mod Numbers
pub mod RestoringLemmas
pub mod There
mod FindingLemmas
pub mod PlanLemmas
