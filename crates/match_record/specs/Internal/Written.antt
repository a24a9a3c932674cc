-- The written part of a record, token by token.
use Rattle.std.specs.Prelude.{◌≡◌, List, [], ◌∷◌, ◌++◌}
use Rattle.json.specs.Token.{Token, begin_array, begin_object, key}
use Rattle.json.specs.Tree.{json_tokens}
use Rattle.json.specs.Written.{Written}
use Rattle.serde_json.specs.Data.{Data}
use Rattle.serde_json.specs.Written.{outline}
use Rattle.record_reading.specs.RecordTree.{key_text, key_tree}
use Rattle.record_reading.specs.declared.record_parts.Key.{Key}
use Rattle.record_reading.specs.declared.record_parts.RecordParts.{RecordParts}

-- exactly these tokens were written
pub record HasAdded (old new : Written) (ts : List Token) : Type 0 where
  pub before : new.before ≡ old.before
  pub tokens : new.tokens ≡ old.tokens ++ ts

abbrev pub tokens_of : Data → List Token
tokens_of d = json_tokens (outline d)

-- exactly this value was written
abbrev pub IsWritten : Written → Written → Data → Type 0
IsWritten old new d = HasAdded old new (tokens_of d)

-- the tokens of these values
abbrev pub each_tokens : List Data → List Token
each_tokens [] = []
each_tokens (d ∷ ds) = tokens_of d ++ each_tokens ds

-- a list was begun, and these are its members so far
abbrev pub HasBegun : Written → Written → List Data → Type 0
HasBegun old new ds = HasAdded old new (begin_array ∷ each_tokens ds)

abbrev pub member_tokens : List Key → RecordParts → List Token
member_tokens [] p = []
member_tokens (at ∷ more) p = key (key_text at) ∷ (tokens_of (key_tree at p) ++ member_tokens more p)

-- an object was begun, and has the values of these parts at these keys
abbrev pub HasMembers : Written → Written → List Key → RecordParts → Type 0
HasMembers old new keys p = HasAdded old new (begin_object ∷ member_tokens keys p)
