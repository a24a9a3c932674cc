mod Counted
mod Numbering
mod Placed
mod Sitting
mod Waiting
mod WrittenLines
