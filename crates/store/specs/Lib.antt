pub mod Plan
pub mod SlotBytes
pub mod Readable
pub mod EditPromises
pub mod Edits
pub mod Planner
pub mod Fill
pub mod Whole
