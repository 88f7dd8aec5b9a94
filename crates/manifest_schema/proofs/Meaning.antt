-- What a whole table means, and what is written of it.
pub mod MeaningLaws
pub mod WrittenLaws
pub mod OldLaws
pub mod FormerLaws
