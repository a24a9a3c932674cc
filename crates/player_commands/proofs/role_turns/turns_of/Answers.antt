use Rattle.std.proofs.Common.{◌∙◌, [], ◌∷◌, length, length-append, Some, sym, ap, subst, arith}
use Rattle.std.specs.Prelude.{option_map}
use Rattle.player_commands.proofs.Places.{EachAt-push}
use Rattle.player_commands.specs.RoleTurns.{IsTurnOf}
use Rattle.player_commands.specs.declared.role_turns.RoleTurn.{RoleTurn}
use Rattle.player_commands.proofs.role_turns.turns_of.Goals as goal

pub loop-turn-preserved : goal.loop-turn-preserved
loop-turn-preserved g c =
    let game = g.G.Game.rules c.args.game.now in
    let turns = c.args.held.now.value.turns in
    let role = c.args.role in
    let was = c.loop-turn.invariant in
    let old = c.loop-turn.turns.items in
    let all = c.push.new.self.items in
    let one : RoleTurn = record { played = c.in_ok-played.played; error = c.in_ok-error.error; words = c.push_illegal_words.new.words } in
    let told : IsTurnOf game turns role c.loop-turn.turn one = record {
      played = ap (option_map game.move_text) c.move_at.ensures.taken ∙ ap Some (sym (c.in_ok-played.ensures ∙ c.move_text.ensures));
      error = c.error_at.ensures ∙ ap Some (sym c.in_ok-error.ensures);
    } in
    let pushed = c.in_ok-push.ensures.items in
    record {
      count = omega (arith, ap length pushed, length-append old (one ∷ []), was.count);
      each = EachAt-push (IsTurnOf game turns role) old all one pushed was.each (subst (λ n. IsTurnOf game turns role n one) (sym was.count) told);
    }
