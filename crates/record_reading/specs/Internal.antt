pub mod JsonValues
pub mod KeptTree
pub mod KeyReading
pub mod Shown
