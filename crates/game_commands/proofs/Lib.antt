mod AnsweredLines
mod CheckedLines
mod OpenMatches
mod ReadAccounts
mod Records
