pub mod Managers
pub mod MatchSlots
pub mod OpenTests
pub mod LawfulSteps
pub mod NewMatches
pub mod FollowedMatches
pub mod FollowedHistories
pub mod Replies
