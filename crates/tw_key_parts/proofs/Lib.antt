pub mod StepLemmas
pub mod RingLemmas
pub mod UndoLemmas
pub mod EditedLineLemmas
