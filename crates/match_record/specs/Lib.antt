pub use Rattle.record_reading.specs.RecordTree
pub use Rattle.record_reading.specs.LawfulRecord
pub use Rattle.record_reading.specs.RecordParts
pub mod Internal
