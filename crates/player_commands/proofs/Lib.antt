mod ToldPlayers
mod Places
mod TableRows
mod PlayedRoles
mod RoleTables
