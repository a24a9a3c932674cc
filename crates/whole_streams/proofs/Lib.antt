mod LineLemmas
mod LinesTaken
mod Ranges
