use Rattle.std.proofs.Common.{◌≡◌, ◌+◌, List, Bool, [], length, ap, drop, subst, ◌∙◌}
use Rattle.std.specs.Prelude.{IfOk}
use Rattle.ground_rules.specs.States.{StateRows}
use Rattle.ground_rules.specs.declared.tables.Mention.{Mention}
use Rattle.ground_rules.specs.Numbered.{unset}
use Rattle.ground_rules.specs.Lookups.{marked}
use Rattle.ground_rules.specs.LoadedGame.{settled, turn_row}
use Rattle.packed_rules.specs.PackedGames.{tables_of}
use Rattle.packed_rules.proofs.PackedPasses.{begun}
use Rattle.packed_rules.proofs.packed_game.PackedGameGame.initial.Goals as goal

pub returns : goal.returns
returns c =
    let g = c.args.self.now in
    let t = tables_of g in
    let n = length g.vocabulary.states.items in
    let truth = c.pass_turn-truth.result in
    let row : drop n truth ≡ turn_row t (settled t (unset n)) [] =
    begun n g.rules.terms g.vocabulary.atoms c.in_ok-none.none c.pass_rest.result truth t.rest t.turn g.sized (c.in_ok-none.ensures ∙ ap (λ k. unset (k + g.vocabulary.atoms)) (c.len.ensures ∙ g.vocabulary.states.ok.0)) c.pass_rest.ensures.terms c.pass_rest.ensures.atoms c.pass_turn-truth.ensures.atoms in
    subst (λ (s : StateRows). IfOk c.state_of.result (λ r. r ≡ s))
    (ap (λ (ms : List Mention). settled t (marked (unset n) (drop n truth) ms)) c.deref.ensures.value ∙ ap (λ (xs : List Bool). settled t (marked (unset n) xs g.vocabulary.init.items)) row)
    c.state_of.ensures
