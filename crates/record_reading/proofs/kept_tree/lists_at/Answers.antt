use Rattle.std.proofs.Common.{◌≡◌, get_or, take, sym, subst, ◌∙◌, take_all, true≢false}
use Rattle.std.proofs.lemmas.List.{take_more}
use Rattle.std.proofs.lemmas.Slice.Eq.{bytes_eq-Decides}
use Rattle.record_reading.specs.Internal.KeyReading.{HoldsForEach}
use Rattle.record_reading.specs.RecordTree.{keys, key_text}
use Rattle.record_reading.specs.declared.record_parts.Key.{Key}
use Rattle.record_reading.proofs.KeyTable.{each_key, each_more}
use Rattle.record_reading.proofs.kept_tree.lists_at.Goals as goal

pub loop-key-preserved : goal.loop-key-preserved
loop-key-preserved c =
    let Differs : Key → Type 0 = λ k. key_text k ≡ c.args.text.now → ⊥ in
    let i = c.loop-key.key-index in
    let here : Differs (get_or keys i _) = λ same. true≢false (sym ((bytes_eq-Decides c.text.result.now c.args.text.now).1 (c.text.ensures ∙ same)) ∙ sym c.if-eq.ensures) in
    subst (HoldsForEach Differs) (sym (take_more keys i _ c.loop-key-test.true)) (each_more Differs (take i keys) (get_or keys i _) c.loop-key.invariant here)

pub returns-clause-known : goal.returns-clause-known
returns-clause-known c key same =
    let Differs : Key → Type 0 = λ k. key_text k ≡ c.args.text.now → ⊥ in
    let all = each_key Differs (subst (HoldsForEach Differs) (take_all c.loop-key.key-index keys c.loop-key-test.false) c.loop-key.invariant) in
    absurd (all key same)
