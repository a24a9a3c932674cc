use Rattle.std.proofs.Common.{◌≡◌, ◌<◌, ◌∙◌, true, false, [], get_or, sym, ap, map, length, arith}
use Rattle.std.specs.Cow.{cow_slice_items}
use Rattle.std.proofs.lemmas.List.{get_or_read, map_push}
use Rattle.ground_rules.proofs.Picked.{picked-next}
use Rattle.ground_rules.proofs.lookups.pick.Goals as goal
use Rattle.ground_rules.proofs.lookups.pick.Goals.{then-is_set+in_ok-push, else-is_set}

pub loop-term-preserved : goal.loop-term-preserved
loop-term-preserved c =
    let term = c.loop-term.term in
    let lt' : term < length c.args.texts.now = c.loop-term-test.true in
    let lt : term < length c.args.row.now = omega (arith, c.requires, lt') in
    let next = picked-next c.args.row.now c.args.texts.now term (map cow_slice_items c.loop-term.found.items) lt lt' in
    elim c.if-is_set.branch [
      | then-is_set+in_ok-push w ↦
          let is : get_or c.args.row.now term false ≡ true = sym c.is_set.ensures ∙ w.if-is_set.true in
          let text = w.as_slice.ensures ∙ get_or_read c.args.texts.now term c.index-texts-term.result lt' c.index-texts-term.is [] in
          let one_more = ap (map cow_slice_items) w.in_ok-push.ensures.items ∙ map_push cow_slice_items c.loop-term.found.items _ in
          rw (w.found-is, one_more, text) ((rw is at next) ∙ c.loop-term.invariant)
      | else-is_set w ↦
          let is : get_or c.args.row.now term false ≡ false = sym c.is_set.ensures ∙ w.if-is_set.false in
          rw w.found-is ((rw is at next) ∙ c.loop-term.invariant)
    ]
