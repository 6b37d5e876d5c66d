pub mod OutcomeLemmas
pub mod PassLemmas
pub mod ReleaseLemmas
pub mod RunLemmas
pub mod StillLemmas
pub mod WaitLemmas
pub mod WordLemmas
