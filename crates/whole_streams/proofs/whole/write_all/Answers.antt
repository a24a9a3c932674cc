use Rattle.std.proofs.Common.{ℕ, ◌+◌, ◌-◌, rules, List, length, take, drop, Option, subst, sym, ap, ◌∙◌, ◌++◌}
use Rattle.std.proofs.lemmas.List.{take_rest}
use Rattle.std.specs.Io.KnownBytes.{Appends}
use Rattle.std.proofs.KnownBytes.{Appends-trans}
use lib.Seq.{take-add}
use Rattle.whole_streams.proofs.whole.write_all.Goals as goal

-- one more write takes n bytes, starting at index t
Appends_more : (a b c : Option (List ℕ)) (output : List ℕ) (t n : ℕ)
    → Appends a b (take t output) → Appends b c (take n (take (length output - t) (drop t output)))
    → Appends a c (take (t + n) output)
Appends_more a b c output t n before now =
    subst (Appends a c) (ap (λ l. take t output ++ take n l) (take_rest output t) ∙ sym (take-add t n output)) (Appends-trans a b c _ _ before now)

pub loop-taken-preserved : goal.loop-taken-preserved
loop-taken-preserved g c = record {
  faults = search rules;
  within = search rules;
  stands = Appends_more _ _ _ c.args.output.now c.loop-taken.taken c.in-Ok.count c.loop-taken.invariant.stands c.in-Ok.ensures.bytes;
}
