-- The value that a text or a JSON value shows: the value that is written as this text or JSON value.
use Rattle.std.specs.Prelude.{◌≡◌, ⊤, Option, Some, None}

-- `found` shows x if x has the shape and is written as `found`. It shows no value if no value of the shape is written as `found`.
abbrev pub Shows : {A D : Type 0} → (A → D) → (A → Type 0) → Option D → Option A → Type 0
Shows written IsOfShape found (Some x) = (found ≡ Some (written x)) × IsOfShape x
Shows {A} {D} written IsOfShape found None = (x : A) → found ≡ Some (written x) → IsOfShape x → ⊥

abbrev pub AnyShape : {A : Type 0} → A → Type 0
AnyShape x = ⊤
