pub mod Ascii
pub mod RecordLists
pub mod WrittenRecords
