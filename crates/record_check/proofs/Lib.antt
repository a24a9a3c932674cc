mod RecordedMoves
mod Replays
mod RecordEnds
mod LawfulRecords
mod CheckedRecords
