pub mod ShownTexts
pub mod LogLines
pub mod LogMessages
pub mod WaitingLines
pub mod LoggedPlayers
