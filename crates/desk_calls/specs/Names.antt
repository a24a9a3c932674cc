-- Lawful ids, names of players, clocks and setups.
use Rattle.std.specs.Prelude.{◌≡◌, ℕ, Bool, true, ◌&&◌, ◌||◌, ◌==◌, nat_le, List, length}
use Rattle.std.specs.List.{list_all}
use Rattle.desk_calls.specs.declared.setup.Setup.{Setup}

abbrev pub hyphen : ℕ
hyphen = 45

abbrev pub full_stop : ℕ
full_stop = 46

abbrev pub underscore : ℕ
underscore = 95

-- the largest number of bytes of a name
abbrev pub max_name : ℕ
max_name = 64

-- the largest number of seconds on a clock: a day
abbrev pub max_clock : ℕ
max_clock = 86400

abbrev pub is_between : ℕ → ℕ → ℕ → Bool
is_between low high n = nat_le low n && nat_le n high

-- `A` to `Z`, `a` to `z`
abbrev pub is_letter : ℕ → Bool
is_letter b = is_between 65 90 b || is_between 97 122 b

abbrev pub is_digit : ℕ → Bool
is_digit b = is_between 48 57 b

abbrev pub is_name_byte : ℕ → Bool
is_name_byte b = is_letter b || is_digit b || b == hyphen || b == underscore || b == full_stop

-- a lawful id, or a lawful name of a player
abbrev pub is_name : List ℕ → Bool
is_name text = is_between 1 max_name (length text) && list_all is_name_byte text

-- a lawful clock, in seconds
abbrev pub is_clock : ℕ → Bool
is_clock seconds = is_between 1 max_clock seconds

-- the largest lawful value of `strikes`, the number of replaced moves in a row that retire a role
abbrev pub max_strikes : ℕ
max_strikes = 255

-- a lawful value of `strikes`, the number of replaced moves in a row that retire a role; 0 means never
abbrev pub is_strikes : ℕ → Bool
is_strikes n = nat_le n max_strikes

-- the id, the names, the clocks and the number of strikes are lawful
pub record IsLawfulSetup (setup : Setup) : Type 0 where
  pub id : is_name setup.id ≡ true
  pub players : list_all is_name setup.players ≡ true
  pub start : is_clock setup.start ≡ true
  pub play : is_clock setup.play ≡ true
  pub strikes : is_strikes setup.strikes ≡ true
