pub mod ImageLemmas
pub mod ReadLemmas
pub mod WaitLemmas
