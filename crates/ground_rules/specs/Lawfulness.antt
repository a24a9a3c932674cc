-- Why a loaded game is lawful: the tests that its tables pass, and the law that follows from them. Packed games use the same tests.
pub mod Bools
pub mod Names
pub mod TableTests
pub mod TermTexts
pub mod LoadedGameLaws
