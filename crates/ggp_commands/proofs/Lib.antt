mod LargestNumbers
mod LoadedGames
mod SeasonEnds
mod TaskEnds
