mod AnsweredRows
mod Sent
mod ServedLines
mod Written
