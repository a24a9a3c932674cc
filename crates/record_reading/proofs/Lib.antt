mod ErrorWords
mod JsonData
mod JsonTurns
mod KeptMembers
mod KeptReading
mod KeptTrees
mod KeyTable
mod TakenKeys
pub mod LawfulParts
mod OneRecord
mod ReadRecords
mod RoleNumbers
mod RecordShapes
