-- Reads and writes that are tried again after the stream would have blocked.
use Rattle.std.proofs.Common.{◌≡◌, ◌∙◌, ◌++◌, ℕ, List, Option, None, Some, subst, sym, take}
use Rattle.std.proofs.KnownBytes.{Keeps-refl, Keeps-trans}
use Rattle.std.specs.Prelude.{Result, Ok, Err}
use Rattle.std.specs.Io.KnownBytes.{Appends, Consumes, Keeps, ReadConsumes, WriteAppends}

pub kept_at_first : (a : Option (List ℕ)) → Keeps a a
kept_at_first a = Keeps-refl a

pub kept_again : {E : Type 0} (a b c : Option (List ℕ)) (e : E) (buf : List ℕ) → Keeps a b → WriteAppends b c (Err e) buf → Keeps a c
kept_again a b c e buf kept failed = Keeps-trans a b c kept failed

appends_in_the_end : (a b c : Option (List ℕ)) (bs : List ℕ) → Keeps a b → Appends b c bs → Appends a c bs
appends_in_the_end None b c bs kept adds = tt
appends_in_the_end (Some x) None c bs kept adds = absurd kept
appends_in_the_end (Some x) (Some y) None bs kept adds = absurd adds
appends_in_the_end (Some x) (Some y) (Some z) bs kept adds = subst (λ it. z ≡ it ++ bs) kept adds

pub writes_in_the_end : {E : Type 0} (a b c : Option (List ℕ)) (r : Result ℕ E) (buf : List ℕ) → Keeps a b → WriteAppends b c r buf → WriteAppends a c r buf
writes_in_the_end a b c (Ok n) buf kept adds = appends_in_the_end a b c (take n buf) kept adds
writes_in_the_end a b c (Err e) buf kept adds = Keeps-trans a b c kept adds

consumes_in_the_end : (a b c : Option (List ℕ)) (bs : List ℕ) → Keeps a b → Consumes b c bs → Consumes a c bs
consumes_in_the_end None b c bs kept gives = tt
consumes_in_the_end (Some x) None c bs kept gives = absurd kept
consumes_in_the_end (Some x) (Some y) None bs kept gives = absurd gives
consumes_in_the_end (Some x) (Some y) (Some z) bs kept gives = sym kept ∙ gives

pub reads_in_the_end : {E : Type 0} (a b c : Option (List ℕ)) (r : Result ℕ E) (buf : List ℕ) → Keeps a b → ReadConsumes b c r buf → ReadConsumes a c r buf
reads_in_the_end a b c (Ok n) buf kept gives = (consumes_in_the_end a b c (take n buf) kept gives.0, gives.1)
reads_in_the_end a b c (Err e) buf kept gives = Keeps-trans a b c kept gives
