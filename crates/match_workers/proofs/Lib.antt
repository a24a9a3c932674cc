mod NewLines
mod HeldGames
mod LineParts
mod OneMatch
mod OwedMessages
mod RefereeFaults
mod Sent
