use Rattle.std.proofs.Common.{rules, ◌≡◌, ◌⊎◌, ◌∷◌, [], false, Result, Ok, Err, IfErr, OnOk, sym, subst, inl, inr}
use Rattle.std.proofs.lemmas.Result.{IfErr-weaker, err_from_is_err_and}
use Rattle.std.specs.Str.Lines.{lines}
use Rattle.game_commands.specs.Replays.{is_skipped, IsEnded, IsRefusedAccount}
use Rattle.game_commands.proofs.replaying.OpenAccount.end.Goals as goal
use Rattle.game_commands.proofs.replaying.OpenAccount.end.Goals.{else-is_empty-via-then-is_empty+else-not-self, then-is_last, else-is_last, else-is_empty-via-else-is_empty}

output_of : {T E A : Type 0} (B : E → Type 0) (r : Result T E) → OnOk r A → IfErr r B → A ⊎ ((e : E) × B e)
output_of B (Ok x) a b = inl a
output_of B (Err e) a b = inr (e, b)

pub returns-in_err-write_all-clause-fails : goal.returns-in_err-write_all-clause-fails
returns-in_err-write_all-clause-fails g c =
    let alone : c.push.new.self.items ≡ c.args.game.now ∷ [] = search rules in
    let same : c.replace-account.result ≡ c.args.self.now = search rules in
    let passed = err_from_is_err_and c.from_residual-in_err-write_all.result c.from_residual-in_err-write_all.ensures.1 in
    let written = rw c.deref.ensures.value at c.in_err-write_all.ensures.prefix in
    let output = output_of (λ fault. IsRefusedAccount c.replace-account.result.is_json g.G.Game.rules c.push.new.self.items c.replace-account.result.before (lines c.replace-account.result.text.items) fault c.answer-answered.new.output.items) c.answer-answered.result c.answer-answered.ensures.replayed
    (IfErr-weaker c.answer-answered.result _ _ (λ fault refused. refused c.new-output.ensures.items) c.answer-answered.ensures.refused) in
    rw passed.1 (inr (passed.2, c.in_err-write_all.ensures.failed, (c.answer-answered.new.output.items, written.0, rw (alone, same) at output, written.1, written.2)))

pub returns-in_err-self-clause-fails : goal.returns-in_err-self-clause-fails
returns-in_err-self-clause-fails g c =
    let alone : c.push.new.self.items ≡ c.args.game.now ∷ [] = search rules in
    let same : c.replace-account.result ≡ c.args.self.now = search rules in
    let passed = err_from_is_err_and c.from_residual-in_err-self.result c.from_residual-in_err-self.ensures.1 in
    let wrote = rw c.deref.ensures.value at c.in_ok-write_all.ensures.whole in
    let refused = rw (alone, same) at (c.in_err-self.ensures.refused c.new-output.ensures.items) in
    rw (passed.1, passed.2) (inl (c.answer-answered.new.output.items, refused, wrote, c.in_ok-write_all.ensures.no_fault))

pub returns-clause-replayed : goal.returns-clause-replayed
returns-clause-replayed g c =
    let alone : c.push.new.self.items ≡ c.args.game.now ∷ [] = search rules in
    let same : c.replace-account.result ≡ c.args.self.now = search rules in
    let wrote = rw c.deref.ensures.value at c.in_ok-write_all.ensures.whole in
    let replayed = rw (alone, same) at c.in_ok-self.ensures.replayed in
    let goes : is_skipped c.args.self.now.text.items c.args.is_last c.args.self.now.before ≡ false =
    elim c.else-is_empty.branch [
      | else-is_empty-via-then-is_empty+else-not-self w ↦ elim w.if-is_last.branch [
        | then-is_last v ↦ search rules
        | else-is_last v ↦ search rules
      ]
      | else-is_empty-via-else-is_empty w ↦ search rules
    ] in
    (c.answer-answered.new.output.items, subst (λ b. IsEnded c.args.self.now.is_json g.G.Game.rules (c.args.game.now ∷ []) b (lines c.args.self.now.text.items) c.answer-answered.new.output.items) (sym goes) replayed, wrote)
