-- The laws of kinds and of needs.
pub mod KindLaws
pub mod NeedLaws
pub mod ChoiceLaws
pub mod ScalarLaws
pub mod OneFaultLaws
pub mod DateLaws
pub mod GoodLaws
