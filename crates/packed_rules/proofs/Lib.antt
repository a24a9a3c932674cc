pub mod BitRows
pub mod PackedPasses
mod PickedTexts
