use Rattle.std.proofs.Common.{◌≡◌, ◌∙◌, List, [], ◌∷◌, ◌+◌, ◌++◌, map, drop, length, length-append, append_assoc, option_map, sym, ap, subst, arith}
use Rattle.std.specs.Vec.Iter.{into_iter_items}
use Rattle.std.proofs.lemmas.List.{length-map}
use Rattle.std.proofs.lemmas.Option.{slice_get-map}
use Rattle.role_workers.specs.RoleLines.{IsFinishedOf, IsFinishedAt}
use Rattle.role_workers.proofs.Places.{EachAt-push, first_of}
use Rattle.role_workers.proofs.finishing.finish_all.Goals as goal

one_more : {A B : Type 0} (f : A → B) (come come' : List B) (a : A) (rest before : List A) (all : List B) → before ≡ a ∷ rest → come' ≡ come ++ f a ∷ [] → come ++ map f before ≡ all → come' ++ map f rest ≡ all
one_more f come come' a rest before all is more so = ap (λ l. l ++ map f rest) more ∙ append_assoc come (f a ∷ []) (map f rest) ∙ sym (ap (λ l. come ++ map f l) is) ∙ so

pub loop-wire-preserved : goal.loop-wire-preserved
loop-wire-preserved g c =
    let was = c.loop-wire.invariant in
    let steps = c.in-Some.ensures.steps in
    let old = c.loop-wire.lines.items in
    let a = c.in-Some.field-0 in
    let all = c.args.attended.items in
    let rest = into_iter_items c.next.new.self in
    let first = first_of (length old) all a rest (sym steps.0 ∙ was.rest) in
    let line = c.end.ensures in
    let finished = subst (λ l. IsFinishedOf l c.finish_line.result) line c.finish_line.ensures in
    let pushed = c.in_ok-push.ensures.items in
    let count : length c.push.new.self.items ≡ length old + 1 = omega (arith, ap length pushed, length-append old (c.finish_line.result ∷ [])) in
    record {
      rest = first.left ∙ ap (λ n. drop n all) (sym count);
      left = omega (arith, was.left, steps.1, count);
      each = EachAt-push (IsFinishedAt (map (λ x. x.wire.line) all)) old c.push.new.self.items c.finish_line.result pushed was.each
          (a.wire.line, slice_get-map (λ x. x.wire.line) all (length old) ∙ ap (λ o. option_map (λ x. x.wire.line) o) first.at, finished);
      ends = one_more (λ x. x.end) c.loop-wire.ends.items c.push-in-loop-wire.new.self.items a rest _ _ steps.0 c.in_ok-push-2.ensures.items was.ends;
      players = one_more (λ x. x.player) c.loop-wire.players.items c.push-in-loop-wire-2.new.self.items a rest _ _ steps.0 c.in_ok-push-3.ensures.items was.players;
    }

pub returns-clause-lines : goal.returns-clause-lines
returns-clause-lines g c =
    let was = c.loop-wire.invariant in
    record {
      one_each = (let all : length c.loop-wire.lines.items ≡ length c.args.attended.items = omega (arith, was.left, c.in-None.ensures.steps.0) in all ∙ sym (length-map c.args.attended.items _));
      each = was.each;
    }
