use Rattle.std.proofs.Common.{◌≡◌, ◌<◌, ◌∙◌, true, false, [], get_or, sym, ap, map, length, arith}
use Rattle.std.specs.Cow.{cow_slice_items}
use Rattle.std.proofs.lemmas.List.{get_or_read, map_push}
use Rattle.packed_rules.proofs.PickedTexts.{picked-next}
use Rattle.packed_rules.proofs.lookups.pick.Goals as goal
use Rattle.packed_rules.proofs.lookups.pick.Goals.{then-has_term+in_ok-push, else-has_term}

pub loop-term-preserved : goal.loop-term-preserved
loop-term-preserved c =
    let term = c.loop-term.term in
    let lt' : term < length c.args.texts.now = c.loop-term-test.true in
    let lt : term < length c.args.state.now.row = omega (arith, c.requires, lt') in
    let next = picked-next c.args.state.now.row c.args.texts.now term (map cow_slice_items c.loop-term.found.items) lt lt' in
    elim c.if-has_term.branch [
      | then-has_term+in_ok-push w ↦
          let is : get_or c.args.state.now.row term false ≡ true = sym c.has_term.ensures ∙ w.if-has_term.true in
          let text = w.as_slice.ensures ∙ get_or_read c.args.texts.now term c.index-texts-term.result lt' c.index-texts-term.is [] in
          let one_more = ap (map cow_slice_items) w.in_ok-push.ensures.items ∙ map_push cow_slice_items c.loop-term.found.items _ in
          rw (w.found-is, one_more, text) ((rw is at next) ∙ c.loop-term.invariant)
      | else-has_term w ↦
          let is : get_or c.args.state.now.row term false ≡ false = sym c.has_term.ensures ∙ w.if-has_term.false in
          rw w.found-is ((rw is at next) ∙ c.loop-term.invariant)
    ]
