pub mod WrittenLemmas
pub mod PutLemmas
