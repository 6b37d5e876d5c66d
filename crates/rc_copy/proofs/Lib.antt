pub mod CopyLemmas
pub mod CopyableLemmas
pub mod ItemLemmas
pub mod NodeLemmas
pub mod PlaceLemmas
pub mod SyncLemmas
pub mod WantLemmas
