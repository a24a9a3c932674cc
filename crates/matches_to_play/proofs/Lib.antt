mod DoneLines
mod DoneNames
mod NotedNames
