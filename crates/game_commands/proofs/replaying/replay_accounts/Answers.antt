use Rattle.std.proofs.Common.{rules, refl, Result, Ok, Err, OnOk, ◌≡◌, ◌+◌, ◌++◌, ◌∷◌, [], true, false, length, sym, ap, subst, ◌∙◌, inl, inr, arith}
use Rattle.std.proofs.lemmas.Result.{IfErr-weaker, on_ok_weaker, err_from_is_err_and}
use Rattle.std.proofs.KnownBytes.{Consumes-nil, Consumes-trans, Appends-nil, Appends-trans}
use Rattle.std.specs.Str.Lines.{lines}
use Rattle.whole_streams.specs.Lines.{HasNoLineFeed, BeginsWithLine, IsNextLine, BeginsWithLines}
use Rattle.game_commands.specs.Replays.{begins_as_record, AreReplayed, StopsInput}
use Rattle.game_commands.proofs.CheckedLines.{begins_more, calls_on}
use Rattle.game_commands.proofs.ReadAccounts.{accounts_are, last_line, lines_of, no_line, text_of_line, text_of_record, reads_line, reads_record, grouped_line, grouped_record, grouped_all, size_push, replayed_last, ended_as, fails_as, stops_push, stops_line}
use Rattle.game_commands.proofs.replaying.replay_accounts.Goals as goal
use Rattle.game_commands.proofs.replaying.replay_accounts.Goals.{then-branch+in_ok-end-in-Ok-Ended, else-branch}

both_ok : {T E : Type 0} (A B : Type 0) (r : Result T E) → OnOk r A → OnOk r B → OnOk r (A × B)
both_ok A B (Ok x) a b = (a, b)
both_ok A B (Err e) a b = tt

pub loop-place-init : goal.loop-place-init
loop-place-init g c = record {
  reads = (
    [],
    Consumes-nil _,
    record {
      seen = [];
      done = [];
      account = [];
      output = [];
      begins = λ more. ap (λ l. lines (l ++ more)) (sym c.new-buffer.ensures);
      text = rw c.new.ensures.items (λ more. refl);
      no_record = tt;
      grouped = λ more. refl;
      replayed = refl;
      wrote = Appends-nil _;
      no_fault = refl;
      size = ap length c.new.ensures.items;
      within = rw c.new.ensures.items (search rules);
      before = refl;
      form = refl;
      counted = refl;
      few = search rules;
    },
  );
  calls = search rules;
  read = refl;
}

pub push-requires : goal.push-requires
push-requires g c = c.loop-place.invariant.reads.2.within

pub push-requires-in-Ok-Last : goal.push-requires-in-Ok-Last
push-requires-in-Ok-Last g c = c.loop-place.invariant.reads.2.within

pub returns-in_err-push-in-Ok-Ended-clause-fails : goal.returns-in_err-push-in-Ok-Ended-clause-fails
returns-in_err-push-in-Ok-Ended-clause-fails g c =
    let reads = c.loop-place.invariant.reads in
    let was = reads.2 in
    let next = c.in-Ok-Ended.ensures.next in
    let bytes = c.loop-place.buffer ++ next.0 in
    let left = c.next_line.new.self in
    let begins = subst (λ n. IsNextLine (g.R.Read.remaining c.next_line.new.reader.stream) bytes n left) c.in-Ok-Ended.field-0-is next.2 in
    let same : c.deref.result.now ≡ c.in-Ok-Ended.line.items = search rules in
    let line = subst (λ l. BeginsWithLine bytes l left) (sym same) begins in
    let taken = c.lines_are_taken.ensures.next reads.0 was.seen c.loop-place.buffer next.0 c.deref.result.now left was.begins line in
    let fails = c.in_err-push-in-Ok-Ended.ensures.fails in
    let passed = err_from_is_err_and c.from_residual.result c.from_residual.ensures.1 in
    let read = c.in-Ok-Ended.ensures.no_fault ∙ c.loop-place.invariant.read in
    let seen = was.seen ++ c.deref.result.now ∷ [] in
    let account = was.account ++ c.deref.result.now ∷ [] in
    rw (passed.1, passed.2) (
      reads.0 ++ next.0,
      Consumes-trans _ _ _ _ _ reads.1 next.1,
      (
        seen,
        left,
        was.done,
        account,
        [],
        was.output,
        c.loop-place.writer,
        inl taken,
        grouped_line _ _ _ _ _ _ _ _ _ _ was c.deref.result.now fails.0,
        was.replayed,
        was.wrote,
        was.no_fault,
        inl (stops_push c.in_err-push-in-Ok-Ended.field-0.0 seen account left (length c.loop-place.account.text.items + (length c.deref.result.now + 2)) c.args.reader.now c.next_line.new.reader fails.1 (size_push _ _ _ _ _ _ _ _ _ _ was c.deref.result.now) read, refl),
      ),
    )

pub end-requires : goal.end-requires
end-requires g c =
    let was = c.loop-place.invariant.reads.2 in
    let is : begins_as_record c.deref.result.now ≡ true = sym c.in_ok-push-in-Ok-Ended.ensures.told ∙ c.if-branch.true in
    let text = text_of_record c.loop-place.account.text.items c.push.new.self.text.items c.deref.result.now c.in_ok-push-in-Ok-Ended.ensures.pushed is in
    let are = ap lines text ∙ lines_of c.loop-place.account.text.items was.account was.text in
    let same = c.in_ok-push-in-Ok-Ended.ensures.same in
    omega (arith, ap length are, same, was.before, was.few, c.loop-place-test.true)

pub returns-in_err-end-in-Ok-Ended-clause-fails : goal.returns-in_err-end-in-Ok-Ended-clause-fails
returns-in_err-end-in-Ok-Ended-clause-fails g c =
    let reads = c.loop-place.invariant.reads in
    let was = reads.2 in
    let next = c.in-Ok-Ended.ensures.next in
    let bytes = c.loop-place.buffer ++ next.0 in
    let left = c.next_line.new.self in
    let begins = subst (λ n. IsNextLine (g.R.Read.remaining c.next_line.new.reader.stream) bytes n left) c.in-Ok-Ended.field-0-is next.2 in
    let same : c.deref.result.now ≡ c.in-Ok-Ended.line.items = search rules in
    let line = subst (λ l. BeginsWithLine bytes l left) (sym same) begins in
    let taken = c.lines_are_taken.ensures.next reads.0 was.seen c.loop-place.buffer next.0 c.deref.result.now left was.begins line in
    let is : begins_as_record c.deref.result.now ≡ true = sym c.in_ok-push-in-Ok-Ended.ensures.told ∙ c.if-branch.true in
    let text = text_of_record c.loop-place.account.text.items c.push.new.self.text.items c.deref.result.now c.in_ok-push-in-Ok-Ended.ensures.pushed is in
    let are = ap lines text ∙ lines_of c.loop-place.account.text.items was.account was.text in
    let before = c.in_ok-push-in-Ok-Ended.ensures.same ∙ was.before in
    let fails = c.in_err-end-in-Ok-Ended.ensures.fails in
    let passed = err_from_is_err_and c.from_residual-in_err-end-in-Ok-Ended.result c.from_residual-in_err-end-in-Ok-Ended.ensures.1 in
    let read = c.in-Ok-Ended.ensures.no_fault ∙ c.loop-place.invariant.read in
    rw (passed.1, passed.2) (
      reads.0 ++ next.0,
      Consumes-trans _ _ _ _ _ reads.1 next.1,
      (
        was.seen ++ c.deref.result.now ∷ [],
        left,
        was.done,
        was.account,
        [] ∷ [],
        was.output,
        c.loop-place.writer,
        inl taken,
        grouped_record _ _ _ _ _ _ _ _ _ _ was c.deref.result.now is,
        was.replayed,
        was.wrote,
        was.no_fault,
        inr (read, rw (before, are, c.in_ok-push-in-Ok-Ended.ensures.form ∙ was.form) at fails),
      ),
    )

pub returns-in_err-push-in-Ok-Last-clause-fails : goal.returns-in_err-push-in-Ok-Last-clause-fails
returns-in_err-push-in-Ok-Last-clause-fails g c =
    let reads = c.loop-place.invariant.reads in
    let was = reads.2 in
    let next = c.in-Ok-Last.ensures.next in
    let bytes = c.loop-place.buffer ++ next.0 in
    let last = subst (λ n. IsNextLine (g.R.Read.remaining c.next_line.new.reader.stream) bytes n c.next_line.new.self) c.in-Ok-Last.field-0-is next.2 in
    let same : c.deref-in-Ok-Last.result.now ≡ c.in-Ok-Last.line.items = search rules in
    let whole = same ∙ last.1 in
    let cut = c.lines_are_taken.ensures.last reads.0 was.seen c.loop-place.buffer next.0 c.deref-in-Ok-Last.result.now was.begins last.0 whole last.2 in
    let feedless = subst HasNoLineFeed (sym whole) last.2 in
    let fails = c.in_err-push-in-Ok-Last.ensures.fails in
    let passed = err_from_is_err_and c.from_residual-in_err-push-in-Ok-Last.result c.from_residual-in_err-push-in-Ok-Last.ensures.1 in
    let read = c.in-Ok-Last.ensures.no_fault ∙ c.loop-place.invariant.read in
    let seen = was.seen ++ c.deref-in-Ok-Last.result.now ∷ [] in
    let account = was.account ++ c.deref-in-Ok-Last.result.now ∷ [] in
    rw (passed.1, passed.2) (
      reads.0 ++ next.0,
      Consumes-trans _ _ _ _ _ reads.1 next.1,
      (
        seen,
        c.next_line.new.self,
        was.done,
        account,
        [],
        was.output,
        c.loop-place.writer,
        inr (cut, last.3),
        grouped_line _ _ _ _ _ _ _ _ _ _ was c.deref-in-Ok-Last.result.now fails.0,
        was.replayed,
        was.wrote,
        was.no_fault,
        inl (stops_push c.in_err-push-in-Ok-Last.field-0.0 seen account c.next_line.new.self (length c.loop-place.account.text.items + (length c.deref-in-Ok-Last.result.now + 2)) c.args.reader.now c.next_line.new.reader fails.1 (size_push _ _ _ _ _ _ _ _ _ _ was c.deref-in-Ok-Last.result.now) read, refl),
      ),
    )

pub end-requires-in-Ok-Last : goal.end-requires-in-Ok-Last
end-requires-in-Ok-Last g c =
    let reads = c.loop-place.invariant.reads in
    let was = reads.2 in
    let next = c.in-Ok-Last.ensures.next in
    let bytes = c.loop-place.buffer ++ next.0 in
    let last = subst (λ n. IsNextLine (g.R.Read.remaining c.next_line.new.reader.stream) bytes n c.next_line.new.self) c.in-Ok-Last.field-0-is next.2 in
    let same : c.deref-in-Ok-Last.result.now ≡ c.in-Ok-Last.line.items = search rules in
    let whole = same ∙ last.1 in
    let cut = c.lines_are_taken.ensures.last reads.0 was.seen c.loop-place.buffer next.0 c.deref-in-Ok-Last.result.now was.begins last.0 whole last.2 in
    let feedless = subst HasNoLineFeed (sym whole) last.2 in
    let end = last_line _ _ _ _ _ _ _ _ _ _ was c.lines_are_taken.ensures.next c.deref-in-Ok-Last.result.now c.push-in-Ok-Last.new.self feedless c.in_ok-push-in-Ok-Last.ensures.pushed in
    let kept = c.in_ok-push-in-Ok-Last.ensures.same in
    omega (arith, ap length end.lines, end.few, kept, was.before, was.few, c.loop-place-test.true)

pub returns-in-Ok-Last-clause-replayed : goal.returns-in-Ok-Last-clause-replayed
returns-in-Ok-Last-clause-replayed g c =
    let reads = c.loop-place.invariant.reads in
    let was = reads.2 in
    let next = c.in-Ok-Last.ensures.next in
    let bytes = c.loop-place.buffer ++ next.0 in
    let last = subst (λ n. IsNextLine (g.R.Read.remaining c.next_line.new.reader.stream) bytes n c.next_line.new.self) c.in-Ok-Last.field-0-is next.2 in
    let same : c.deref-in-Ok-Last.result.now ≡ c.in-Ok-Last.line.items = search rules in
    let whole = same ∙ last.1 in
    let cut = c.lines_are_taken.ensures.last reads.0 was.seen c.loop-place.buffer next.0 c.deref-in-Ok-Last.result.now was.begins last.0 whole last.2 in
    let feedless = subst HasNoLineFeed (sym whole) last.2 in
    let end = last_line _ _ _ _ _ _ _ _ _ _ was c.lines_are_taken.ensures.next c.deref-in-Ok-Last.result.now c.push-in-Ok-Last.new.self feedless c.in_ok-push-in-Ok-Last.ensures.pushed in
    let given = reads.0 ++ next.0 in
    let are = accounts_are given (was.seen ++ c.deref-in-Ok-Last.result.now ∷ []) was.done end.account end.rest cut end.grouped end.none in
    on_ok_weaker c.end-in-Ok-Last.result (λ ended. (
      given,
      was.output ++ ended.0.0,
      record {
        read = Consumes-trans _ _ _ _ _ reads.1 next.1;
        ended = last.4;
        wrote = Appends-trans _ _ _ _ _ was.wrote ended.0.2;
        no_read_fault = c.in-Ok-Last.ensures.no_fault ∙ c.loop-place.invariant.read;
        no_write_fault = ended.1 ∙ was.no_fault;
      },
      subst (λ all. AreReplayed c.args.is_json g.G.Game.rules (c.args.game.now ∷ []) all (was.output ++ ended.0.0)) (sym are)
          (replayed_last c.args.is_json g.G.Game.rules (c.args.game.now ∷ []) was.done c.push-in-Ok-Last.new.self.text.items end.account c.push-in-Ok-Last.new.self.before was.output ended.0.0 end.size (c.in_ok-push-in-Ok-Last.ensures.same ∙ was.before) was.replayed (ended_as _ _ _ _ _ _ _ (c.in_ok-push-in-Ok-Last.ensures.form ∙ was.form) (rw end.lines at ended.0.1))),
    )) (both_ok _ _ c.end-in-Ok-Last.result c.end-in-Ok-Last.ensures.replayed c.end-in-Ok-Last.ensures.no_fault)

pub returns-in-Ok-Last-clause-fails : goal.returns-in-Ok-Last-clause-fails
returns-in-Ok-Last-clause-fails g c =
    let reads = c.loop-place.invariant.reads in
    let was = reads.2 in
    let next = c.in-Ok-Last.ensures.next in
    let bytes = c.loop-place.buffer ++ next.0 in
    let last = subst (λ n. IsNextLine (g.R.Read.remaining c.next_line.new.reader.stream) bytes n c.next_line.new.self) c.in-Ok-Last.field-0-is next.2 in
    let same : c.deref-in-Ok-Last.result.now ≡ c.in-Ok-Last.line.items = search rules in
    let whole = same ∙ last.1 in
    let cut = c.lines_are_taken.ensures.last reads.0 was.seen c.loop-place.buffer next.0 c.deref-in-Ok-Last.result.now was.begins last.0 whole last.2 in
    let feedless = subst HasNoLineFeed (sym whole) last.2 in
    let end = last_line _ _ _ _ _ _ _ _ _ _ was c.lines_are_taken.ensures.next c.deref-in-Ok-Last.result.now c.push-in-Ok-Last.new.self feedless c.in_ok-push-in-Ok-Last.ensures.pushed in
    let given = reads.0 ++ next.0 in
    IfErr-weaker c.end-in-Ok-Last.result _ _ (λ fault fails. (
      given,
      Consumes-trans _ _ _ _ _ reads.1 next.1,
      (
        (was.seen ++ c.deref-in-Ok-Last.result.now ∷ []),
        c.next_line.new.self,
        was.done,
        end.account,
        end.rest,
        was.output,
        c.loop-place.writer,
        inr (cut, last.3),
        end.grouped,
        was.replayed,
        was.wrote,
        was.no_fault,
        inr (c.in-Ok-Last.ensures.no_fault ∙ c.loop-place.invariant.read, fails_as g.W.Write.contents _ _ _ _ _ _ c.loop-place.writer c.end-in-Ok-Last.new.writer _ (c.in_ok-push-in-Ok-Last.ensures.form ∙ was.form) (rw (c.in_ok-push-in-Ok-Last.ensures.same ∙ was.before, end.lines) at fails)),
      ),
    )) c.end-in-Ok-Last.ensures.fails

pub end-requires-in-Ok-Nothing : goal.end-requires-in-Ok-Nothing
end-requires-in-Ok-Nothing g c =
    let was = c.loop-place.invariant.reads.2 in
    let are = ap length (lines_of c.loop-place.account.text.items was.account was.text) in
    omega (arith, are, was.before, was.few, c.loop-place-test.true)

pub returns-in-Ok-Nothing-clause-replayed : goal.returns-in-Ok-Nothing-clause-replayed
returns-in-Ok-Nothing-clause-replayed g c =
    let reads = c.loop-place.invariant.reads in
    let was = reads.2 in
    let next = c.in-Ok-Nothing.ensures.next in
    let nothing = subst (λ n. IsNextLine (g.R.Read.remaining c.next_line.new.reader.stream) (c.loop-place.buffer ++ next.0) n c.next_line.new.self) c.in-Ok-Nothing.field-0-is next.2 in
    let cut = lines_of (reads.0 ++ next.0) was.seen (subst (BeginsWithLines (reads.0 ++ next.0) was.seen) nothing.0 (begins_more reads.0 was.seen c.loop-place.buffer next.0 was.begins)) in
    let end = no_line _ _ _ _ _ _ _ _ _ _ was in
    let given = reads.0 ++ next.0 in
    let are = accounts_are given was.seen was.done end.account end.rest cut end.grouped end.none in
    on_ok_weaker c.end-in-Ok-Nothing.result (λ ended. (
      given,
      was.output ++ ended.0.0,
      record {
        read = Consumes-trans _ _ _ _ _ reads.1 next.1;
        ended = nothing.2;
        wrote = Appends-trans _ _ _ _ _ was.wrote ended.0.2;
        no_read_fault = c.in-Ok-Nothing.ensures.no_fault ∙ c.loop-place.invariant.read;
        no_write_fault = ended.1 ∙ was.no_fault;
      },
      subst (λ all. AreReplayed c.args.is_json g.G.Game.rules (c.args.game.now ∷ []) all (was.output ++ ended.0.0)) (sym are)
          (replayed_last c.args.is_json g.G.Game.rules (c.args.game.now ∷ []) was.done c.loop-place.account.text.items end.account c.loop-place.account.before was.output ended.0.0 end.size (was.before) was.replayed (ended_as _ _ _ _ _ _ _ was.form (rw end.lines at ended.0.1))),
    )) (both_ok _ _ c.end-in-Ok-Nothing.result c.end-in-Ok-Nothing.ensures.replayed c.end-in-Ok-Nothing.ensures.no_fault)

pub returns-in-Ok-Nothing-clause-fails : goal.returns-in-Ok-Nothing-clause-fails
returns-in-Ok-Nothing-clause-fails g c =
    let reads = c.loop-place.invariant.reads in
    let was = reads.2 in
    let next = c.in-Ok-Nothing.ensures.next in
    let nothing = subst (λ n. IsNextLine (g.R.Read.remaining c.next_line.new.reader.stream) (c.loop-place.buffer ++ next.0) n c.next_line.new.self) c.in-Ok-Nothing.field-0-is next.2 in
    let cut = lines_of (reads.0 ++ next.0) was.seen (subst (BeginsWithLines (reads.0 ++ next.0) was.seen) nothing.0 (begins_more reads.0 was.seen c.loop-place.buffer next.0 was.begins)) in
    let end = no_line _ _ _ _ _ _ _ _ _ _ was in
    let given = reads.0 ++ next.0 in
    IfErr-weaker c.end-in-Ok-Nothing.result _ _ (λ fault fails. (
      given,
      Consumes-trans _ _ _ _ _ reads.1 next.1,
      (
        was.seen,
        c.next_line.new.self,
        was.done,
        end.account,
        end.rest,
        was.output,
        c.loop-place.writer,
        inr (cut, nothing.1),
        end.grouped,
        was.replayed,
        was.wrote,
        was.no_fault,
        inr (c.in-Ok-Nothing.ensures.no_fault ∙ c.loop-place.invariant.read, fails_as g.W.Write.contents _ _ _ _ _ _ c.loop-place.writer c.end-in-Ok-Nothing.new.writer _ was.form (rw (was.before, end.lines) at fails)),
      ),
    )) c.end-in-Ok-Nothing.ensures.fails

pub returns-in-Err-clause-fails : goal.returns-in-Err-clause-fails
returns-in-Err-clause-fails g c =
    let reads = c.loop-place.invariant.reads in
    let was = reads.2 in
    let fails = c.in-Err.ensures.fails in
    let bytes = c.loop-place.buffer ++ fails.0 in
    let why = stops_line c.in-Err.fault was.seen was.account bytes fails.1 c.next_line.new.self c.args.reader.now c.loop-place.reader c.next_line.new.reader
    c.loop-place.invariant.read c.loop-place.invariant.calls fails.3 fails.4 fails.5 in (
      reads.0 ++ fails.0,
      Consumes-trans _ _ _ _ _ reads.1 fails.2,
      (
        was.seen,
        bytes,
        was.done,
        was.account,
        [],
        was.output,
        c.loop-place.writer,
        inl (begins_more reads.0 was.seen c.loop-place.buffer fails.0 was.begins),
        grouped_all _ _ _ _ _ _ _ _ _ _ was,
        was.replayed,
        was.wrote,
        was.no_fault,
        inl (subst (λ fault. StopsInput fault was.seen was.account bytes c.args.reader.now c.next_line.new.reader) (sym c.from.ensures) why, refl),
      ),
    )

pub loop-place-preserved : goal.loop-place-preserved
loop-place-preserved g c =
    let reads = c.loop-place.invariant.reads in
    let was = reads.2 in
    let next = c.in-Ok-Ended.ensures.next in
    let bytes = c.loop-place.buffer ++ next.0 in
    let left = c.next_line.new.self in
    let begins = subst (λ n. IsNextLine (g.R.Read.remaining c.next_line.new.reader.stream) bytes n left) c.in-Ok-Ended.field-0-is next.2 in
    let same : c.deref.result.now ≡ c.in-Ok-Ended.line.items = search rules in
    let line = subst (λ l. BeginsWithLine bytes l left) (sym same) begins in
    let told = c.in_ok-push-in-Ok-Ended.ensures.told in
    let calls = calls_on _ _ _ c.loop-place.invariant.calls c.in-Ok-Ended.ensures.called in
    let read = c.in-Ok-Ended.ensures.no_fault ∙ c.loop-place.invariant.read in
    let given = reads.0 ++ next.0 in
    let consumed = Consumes-trans _ _ _ _ _ reads.1 next.1 in
    elim c.if-branch.branch [
      | then-branch+in_ok-end-in-Ok-Ended w ↦
          let is : begins_as_record c.deref.result.now ≡ true = sym told ∙ w.if-branch.true in
          let text = text_of_record c.loop-place.account.text.items c.push.new.self.text.items c.deref.result.now c.in_ok-push-in-Ok-Ended.ensures.pushed is in
          let ended = w.in_ok-end-in-Ok-Ended.ensures.ended in
          let replayed = w.in_ok-end-in-Ok-Ended.ensures.replayed in
          record {
            reads = (
              given,
              consumed,
              rw (w.account-is, w.writer-is) (reads_record _ _ _ _ _ _ _ _ _ _ was c.lines_are_taken.ensures.next next.0 c.deref.result.now left c.push.new.self w.end.new.self w.end.new.writer replayed.0 line is
                  text c.in_ok-push-in-Ok-Ended.ensures.same ended.0 ended.1 c.in_ok-push-in-Ok-Ended.ensures.form w.in_ok-end-in-Ok-Ended.ensures.form replayed.1 replayed.2 w.in_ok-end-in-Ok-Ended.ensures.no_fault),
            );
            calls = calls;
            read = read;
          }
      | else-branch w ↦
          let is : begins_as_record c.deref.result.now ≡ false = sym told ∙ w.if-branch.false in
          let text = text_of_line c.loop-place.account.text.items c.push.new.self.text.items c.deref.result.now c.in_ok-push-in-Ok-Ended.ensures.pushed is in
          record {
            reads = (
              given,
              consumed,
              rw (w.account-is, w.writer-is) (reads_line _ _ _ _ _ _ _ _ _ _ was c.lines_are_taken.ensures.next next.0 c.deref.result.now left c.push.new.self line is
                  text c.in_ok-push-in-Ok-Ended.ensures.same c.in_ok-push-in-Ok-Ended.ensures.form c.in_ok-push-in-Ok-Ended.ensures.within),
            );
            calls = calls;
            read = read;
          }
    ]

pub returns-clause-fails : goal.returns-clause-fails
returns-clause-fails g c =
    let reads = c.loop-place.invariant.reads in
    let was = reads.2 in (
      reads.0,
      reads.1,
      (
        was.seen,
        c.loop-place.buffer,
        was.done,
        was.account,
        [],
        was.output,
        c.loop-place.writer,
        inl was.begins,
        grouped_all _ _ _ _ _ _ _ _ _ _ was,
        was.replayed,
        was.wrote,
        was.no_fault,
        inl ((inr (inr (omega (arith, was.counted, c.loop-place-test.false))), c.loop-place.invariant.read), refl),
      ),
    )
