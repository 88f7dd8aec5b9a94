pub mod NumberLemmas
pub mod TagLemmas
pub mod ItemLemmas
pub mod MemberLemmas
pub mod ValueLemmas
pub mod DecodedLemmas
pub mod FloatLemmas
