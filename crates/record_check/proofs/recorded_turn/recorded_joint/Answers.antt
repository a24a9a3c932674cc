use Rattle.std.proofs.Common.{Bool, ◌≡◌, ◌≢◌, ◌<◌, ◌+◌, [], List, refl, sym, subst, ◌∙◌, arith, length}
use Rattle.std.specs.Prelude.{All, AllPairs, vec_len}
use Rattle.std.proofs.lemmas.List.{get_or_read}
use Rattle.std.proofs.lemmas.Option.{MatchOption-at_some}
use Rattle.record_reading.specs.RecordParts.{IsErrorText}
use Rattle.match_book.specs.LegalMoves.{AreLegalMoves}
use Rattle.match_book.specs.RoleStrikes.{is_retired_in}
use Rattle.match_book.specs.Judgement.{IsPart, NamesNone}
use Rattle.record_check.specs.Replaying.{GoesOn, IsWrongError, IsWrongRetired, text_at}
use Rattle.record_check.specs.Internal.ReplaySteps.{IsRecorded}
use Rattle.record_check.specs.declared.recorded_turn.RecordedMove.TheVariants.{Right, WrongError, WrongRetired}
use Rattle.record_check.proofs.RecordedMoves.{SoFar, SoFar-more, SoFar-all, moves-at}
use Rattle.record_check.proofs.recorded_turn.recorded_joint.Goals as goal

pub index-requires : goal.index-requires
index-requires g c =
    let game = g.G.Game.rules c.args.game.now in
    let s = c.args.state.now in
    let role = c.loop-role.role in
    let lists = MatchOption-at_some (¬ (GoesOn game (is_retired_in c.args.strikes.now) s)) (λ lists. GoesOn game (is_retired_in c.args.strikes.now) s × AreLegalMoves game s lists.items) c.in-Some.lists c.in-Some.is c.in_ok-lists.ensures in
    let within : role < game.roles = omega (arith, c.roles-roles.ensures, c.loop-role-test.true) in
    let many : vec_len c.in-Some.lists ≡ length c.in-Some.lists.items = c.in-Some.lists.ok.0 in
    omega (arith, many, lists.1.one_list)

pub recorded_move-requires-clause-moves : goal.recorded_move-requires-clause-moves
recorded_move-requires-clause-moves g c =
    let game = g.G.Game.rules c.args.game.now in
    let s = c.args.state.now in
    let role = c.loop-role.role in
    let lists = MatchOption-at_some (¬ (GoesOn game (is_retired_in c.args.strikes.now) s)) (λ lists. GoesOn game (is_retired_in c.args.strikes.now) s × AreLegalMoves game s lists.items) c.in-Some.lists c.in-Some.is c.in_ok-lists.ensures in
    let within : role < game.roles = omega (arith, c.roles-roles.ensures, c.loop-role-test.true) in
    let legal : c.as_slice-legal.result.now ≡ game.legal s role = c.as_slice-legal.ensures ∙ moves-at game s c.in-Some.lists.items role c.index.result.now lists.1 within c.index.ensures in
    subst (λ (ms : List g.row.G-Move.Denot). All (λ m. game.IsMove m) ms) (sym legal) ((g.met.G.Game.laws c.args.game.now).legal_are_moves s role c.requires.state within)

pub recorded_move-requires-clause-differ : goal.recorded_move-requires-clause-differ
recorded_move-requires-clause-differ g c =
    let game = g.G.Game.rules c.args.game.now in
    let s = c.args.state.now in
    let role = c.loop-role.role in
    let lists = MatchOption-at_some (¬ (GoesOn game (is_retired_in c.args.strikes.now) s)) (λ lists. GoesOn game (is_retired_in c.args.strikes.now) s × AreLegalMoves game s lists.items) c.in-Some.lists c.in-Some.is c.in_ok-lists.ensures in
    let within : role < game.roles = omega (arith, c.roles-roles.ensures, c.loop-role-test.true) in
    let legal : c.as_slice-legal.result.now ≡ game.legal s role = c.as_slice-legal.ensures ∙ moves-at game s c.in-Some.lists.items role c.index.result.now lists.1 within c.index.ensures in
    subst (λ (ms : List g.row.G-Move.Denot). AllPairs (λ m n. m ≢ n) ms) (sym legal) ((g.met.G.Game.laws c.args.game.now).legal_differ s role c.requires.state within)

pub recorded_move-requires-clause-error : goal.recorded_move-requires-clause-error
recorded_move-requires-clause-error g c =
    let in_errors : c.loop-role.role < length c.args.turn.errors.now = omega (arith, c.roles-roles.ensures, c.loop-role-test.true, c.requires.errors) in
    let error : c.as_slice-error.result.now ≡ text_at c.args.turn.errors.now c.loop-role.role = c.as_slice-error.ensures ∙ sym c.index-turn-role-in-loop-role.is ∙ get_or_read c.args.turn.errors.now c.loop-role.role c.index-turn-role-in-loop-role.result in_errors c.index-turn-role-in-loop-role.is [] in
    subst IsErrorText (sym error) (c.requires.error_texts c.loop-role.role [] in_errors)

pub returns-in-NoMove : goal.returns-in-NoMove
returns-in-NoMove g c =
    let game = g.G.Game.rules c.args.game.now in
    let s = c.args.state.now in
    let role = c.loop-role.role in
    let lists = MatchOption-at_some (¬ (GoesOn game (is_retired_in c.args.strikes.now) s)) (λ lists. GoesOn game (is_retired_in c.args.strikes.now) s × AreLegalMoves game s lists.items) c.in-Some.lists c.in-Some.is c.in_ok-lists.ensures in
    let within : role < game.roles = omega (arith, c.roles-roles.ensures, c.loop-role-test.true) in
    let in_moves : role < length c.args.turn.moves.now = omega (arith, c.requires.moves) in
    let legal : c.as_slice-legal.result.now ≡ game.legal s role = c.as_slice-legal.ensures ∙ moves-at game s c.in-Some.lists.items role c.index.result.now lists.1 within c.index.ensures in
    let text : c.as_slice-text.result.now ≡ text_at c.args.turn.moves.now role = c.as_slice-text.ensures ∙ sym c.index-turn-role.is ∙ get_or_read c.args.turn.moves.now role c.index-turn-role.result in_moves c.index-turn-role.is [] in
    let none = subst (λ o. IsRecorded game c.is_retired_at-is_retired.result c.as_slice-legal.result.now c.as_slice-text.result.now c.as_slice-error.result.now o) c.in-NoMove.is c.in_ok-taken.ensures in (
      refl,
      record { goes_on = lists.0; within = within; right = c.loop-role.invariant.right },
      subst (λ t. NamesNone game (game.legal s role) t) text (subst (λ (ms : List g.row.G-Move.Denot). NamesNone game ms c.as_slice-text.result.now) legal none),
    )

pub returns-in-WrongError : goal.returns-in-WrongError
returns-in-WrongError g c =
    let game = g.G.Game.rules c.args.game.now in
    let s = c.args.state.now in
    let role = c.loop-role.role in
    let lists = MatchOption-at_some (¬ (GoesOn game (is_retired_in c.args.strikes.now) s)) (λ lists. GoesOn game (is_retired_in c.args.strikes.now) s × AreLegalMoves game s lists.items) c.in-Some.lists c.in-Some.is c.in_ok-lists.ensures in
    let within : role < game.roles = omega (arith, c.roles-roles.ensures, c.loop-role-test.true) in
    let in_moves : role < length c.args.turn.moves.now = omega (arith, c.requires.moves) in
    let in_errors : role < length c.args.turn.errors.now = omega (arith, c.requires.errors) in
    let legal : c.as_slice-legal.result.now ≡ game.legal s role = c.as_slice-legal.ensures ∙ moves-at game s c.in-Some.lists.items role c.index.result.now lists.1 within c.index.ensures in
    let text : c.as_slice-text.result.now ≡ text_at c.args.turn.moves.now role = c.as_slice-text.ensures ∙ sym c.index-turn-role.is ∙ get_or_read c.args.turn.moves.now role c.index-turn-role.result in_moves c.index-turn-role.is [] in
    let error : c.as_slice-error.result.now ≡ text_at c.args.turn.errors.now role = c.as_slice-error.ensures ∙ sym c.index-turn-role-in-loop-role.is ∙ get_or_read c.args.turn.errors.now role c.index-turn-role-in-loop-role.result in_errors c.index-turn-role-in-loop-role.is [] in
    let wrong = subst (λ (ms : List g.row.G-Move.Denot). IsRecorded game c.is_retired_at-is_retired.result ms c.as_slice-text.result.now c.as_slice-error.result.now WrongError) legal (subst (λ o. IsRecorded game c.is_retired_at-is_retired.result c.as_slice-legal.result.now c.as_slice-text.result.now c.as_slice-error.result.now o) c.in-WrongError.is c.in_ok-taken.ensures) in (
      refl,
      record { goes_on = lists.0; within = within; right = c.loop-role.invariant.right },
      subst (λ e. IsWrongError game (game.legal s role) (text_at c.args.turn.moves.now role) e) error
          (subst (λ t. IsWrongError game (game.legal s role) t c.as_slice-error.result.now) text wrong),
    )

pub returns-in-WrongRetired : goal.returns-in-WrongRetired
returns-in-WrongRetired g c =
    let game = g.G.Game.rules c.args.game.now in
    let s = c.args.state.now in
    let role = c.loop-role.role in
    let lists = MatchOption-at_some (¬ (GoesOn game (is_retired_in c.args.strikes.now) s)) (λ lists. GoesOn game (is_retired_in c.args.strikes.now) s × AreLegalMoves game s lists.items) c.in-Some.lists c.in-Some.is c.in_ok-lists.ensures in
    let within : role < game.roles = omega (arith, c.roles-roles.ensures, c.loop-role-test.true) in
    let in_moves : role < length c.args.turn.moves.now = omega (arith, c.requires.moves) in
    let in_errors : role < length c.args.turn.errors.now = omega (arith, c.requires.errors) in
    let legal : c.as_slice-legal.result.now ≡ game.legal s role = c.as_slice-legal.ensures ∙ moves-at game s c.in-Some.lists.items role c.index.result.now lists.1 within c.index.ensures in
    let text : c.as_slice-text.result.now ≡ text_at c.args.turn.moves.now role = c.as_slice-text.ensures ∙ sym c.index-turn-role.is ∙ get_or_read c.args.turn.moves.now role c.index-turn-role.result in_moves c.index-turn-role.is [] in
    let error : c.as_slice-error.result.now ≡ text_at c.args.turn.errors.now role = c.as_slice-error.ensures ∙ sym c.index-turn-role-in-loop-role.is ∙ get_or_read c.args.turn.errors.now role c.index-turn-role-in-loop-role.result in_errors c.index-turn-role-in-loop-role.is [] in
    let wrong = subst (λ (ms : List g.row.G-Move.Denot). IsRecorded game c.is_retired_at-is_retired.result ms c.as_slice-text.result.now c.as_slice-error.result.now WrongRetired) legal (subst (λ o. IsRecorded game c.is_retired_at-is_retired.result c.as_slice-legal.result.now c.as_slice-text.result.now c.as_slice-error.result.now o) c.in-WrongRetired.is c.in_ok-taken.ensures) in (
      refl,
      record { goes_on = lists.0; within = within; right = c.loop-role.invariant.right },
      subst (λ (b : Bool). IsWrongRetired game b (game.legal s role) (text_at c.args.turn.moves.now role) (text_at c.args.turn.errors.now role)) c.is_retired_at-is_retired.ensures
          (subst (λ e. IsWrongRetired game c.is_retired_at-is_retired.result (game.legal s role) (text_at c.args.turn.moves.now role) e) error
          (subst (λ t. IsWrongRetired game c.is_retired_at-is_retired.result (game.legal s role) t c.as_slice-error.result.now) text wrong)),
    )

pub loop-role-preserved : goal.loop-role-preserved
loop-role-preserved g c =
    let game = g.G.Game.rules c.args.game.now in
    let s = c.args.state.now in
    let role = c.loop-role.role in
    let lists = MatchOption-at_some (¬ (GoesOn game (is_retired_in c.args.strikes.now) s)) (λ lists. GoesOn game (is_retired_in c.args.strikes.now) s × AreLegalMoves game s lists.items) c.in-Some.lists c.in-Some.is c.in_ok-lists.ensures in
    let within : role < game.roles = omega (arith, c.roles-roles.ensures, c.loop-role-test.true) in
    let in_moves : role < length c.args.turn.moves.now = omega (arith, c.requires.moves) in
    let in_errors : role < length c.args.turn.errors.now = omega (arith, c.requires.errors) in
    let legal : c.as_slice-legal.result.now ≡ game.legal s role = c.as_slice-legal.ensures ∙ moves-at game s c.in-Some.lists.items role c.index.result.now lists.1 within c.index.ensures in
    let text : c.as_slice-text.result.now ≡ text_at c.args.turn.moves.now role = c.as_slice-text.ensures ∙ sym c.index-turn-role.is ∙ get_or_read c.args.turn.moves.now role c.index-turn-role.result in_moves c.index-turn-role.is [] in
    let error : c.as_slice-error.result.now ≡ text_at c.args.turn.errors.now role = c.as_slice-error.ensures ∙ sym c.index-turn-role-in-loop-role.is ∙ get_or_read c.args.turn.errors.now role c.index-turn-role-in-loop-role.result in_errors c.index-turn-role-in-loop-role.is [] in
    let right = subst (λ (ms : List g.row.G-Move.Denot). IsRecorded game c.is_retired_at-is_retired.result ms c.as_slice-text.result.now c.as_slice-error.result.now (Right c.in-Right.taken)) legal (subst (λ o. IsRecorded game c.is_retired_at-is_retired.result c.as_slice-legal.result.now c.as_slice-text.result.now c.as_slice-error.result.now o) c.in-Right.is c.in_ok-taken.ensures) in
    subst (λ (js : List g.row.G-Move.Denot). SoFar game (is_retired_in c.args.strikes.now) s c.args.turn.moves.now c.args.turn.errors.now (role + 1) js) (sym c.in_ok-push-in-Right.ensures.items)
    (SoFar-more game (is_retired_in c.args.strikes.now) s c.args.turn.moves.now c.args.turn.errors.now role c.loop-role.joint.items c.in-Right.taken c.as_slice-text.result.now c.as_slice-error.result.now c.loop-role.invariant in_moves text error right.0
    (subst (λ (b : Bool). IsPart game b (game.legal s role) c.in-Right.taken c.as_slice-error.result.now) c.is_retired_at-is_retired.ensures right.1))

pub returns : goal.returns
returns g c =
    let game = g.G.Game.rules c.args.game.now in
    let s = c.args.state.now in
    let lists = MatchOption-at_some (¬ (GoesOn game (is_retired_in c.args.strikes.now) s)) (λ lists. GoesOn game (is_retired_in c.args.strikes.now) s × AreLegalMoves game s lists.items) c.in-Some.lists c.in-Some.is c.in_ok-lists.ensures in
    let all : c.loop-role.role ≡ game.roles = omega (arith, c.loop-role-test.false, c.loop-role.auto.role-end, c.roles-roles.ensures) in
    SoFar-all game (is_retired_in c.args.strikes.now) s c.args.turn.moves.now c.args.turn.errors.now c.loop-role.role c.loop-role.joint.items c.loop-role.invariant lists.0 all c.requires.moves
