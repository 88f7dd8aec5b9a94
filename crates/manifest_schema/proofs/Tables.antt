-- Tables: their order, and what is left out of them.
pub mod TableLaws
pub mod LeftOutLaws
