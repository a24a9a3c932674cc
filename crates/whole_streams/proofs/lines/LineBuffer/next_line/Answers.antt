use Rattle.std.proofs.Common.{rules, refl, ◌≡◌, ◌<◌, ◌+◌, ◌++◌, ◌∷◌, [], ℕ, List, length, sym, ap, subst, ◌∙◌, arith, length-append, Option, MatchBool, ◌≢◌}
use Rattle.std.proofs.lemmas.List.{append-nil, append_assoc}
use Rattle.std.proofs.lemmas.List.Elements.{All-append}
use Rattle.std.specs.Io.KnownBytes.{Consumes, IsAtEnd}
use Rattle.std.proofs.KnownBytes.{Consumes-trans}
use Rattle.game_core.specs.Bytes.{line_feed}
use Rattle.game_core.specs.Counting.{Counting}
use Rattle.whole_streams.specs.Streams.{InputFails}
use Rattle.whole_streams.specs.declared.whole.InputFault.{InputFault}
use Rattle.whole_streams.specs.declared.whole.InputFault.TheVariants.{ReadFault, TooLong, Memory}
use Rattle.whole_streams.specs.Lines.{HasNoLineFeed, IsEnd, IsNextLine, IsPiece, StopsLine}
use Rattle.whole_streams.specs.declared.lines.NextLine.{NextLine}
use Rattle.whole_streams.specs.declared.lines.NextLine.TheVariants.{Ended, Last, Nothing}
use Rattle.whole_streams.proofs.lines.LineBuffer.next_line.Goals as goal

feedless_append : (xs ys : List ℕ) → HasNoLineFeed xs → HasNoLineFeed ys → HasNoLineFeed (xs ++ ys)
feedless_append xs ys h k = All-append (λ b. b ≢ line_feed) xs ys h k

consumes_no_more : (a b c : Option (List ℕ)) (given after : List ℕ) → Consumes a b given → Consumes b c after → after ≡ [] → Consumes a c given
consumes_no_more a b c given after first then none = subst (λ l. Consumes a c l) (ap (λ l. given ++ l) none ∙ append-nil given) (Consumes-trans a b c given after first then)

joined : (held given line piece read rest new : List ℕ) → held ++ given ≡ line → new ≡ line ++ piece → read ≡ piece ++ rest → held ++ (given ++ read) ≡ new ++ rest
joined held given line piece read rest new before grown cut =
    sym (append_assoc held given read) ∙ ap (λ l. l ++ read) before ∙ ap (λ l. line ++ l) cut ∙ sym (append_assoc line piece rest) ∙ ap (λ l. l ++ rest) (sym grown)

input_fails : {R : Type 0} (limit : ℕ) (fault : InputFault) (line piece : List ℕ) (reader reader' : Counting R) → reader'.faults ≡ reader.faults → StopsLine limit fault (length line + length piece)
    → InputFails limit fault (line ++ piece) reader reader'
input_fails limit ReadFault line piece reader reader' same stops = absurd stops
input_fails limit TooLong line piece reader reader' same stops = (omega (arith, length-append line piece), same)
input_fails limit Memory line piece reader reader' same stops = (omega (arith, length-append line piece), same)

is_last : (remaining : Option (List ℕ)) (bytes line left : List ℕ) (last : NextLine) → bytes ≡ line → HasNoLineFeed line → left ≡ [] → IsAtEnd remaining → IsEnd line last
    → IsNextLine remaining bytes last left
is_last remaining bytes line left (Ended v) same feedless none ended is = absurd is
is_last remaining bytes line left (Last v) same feedless none ended is =
    (subst (λ l. 0 < length l) (sym same) is.1, is.0 ∙ sym same, subst HasNoLineFeed (sym same) feedless, none, ended)
is_last remaining bytes line left Nothing same feedless none ended is = (same ∙ is, none, ended)

pub returns-in-Ok-false-refill-clause-next : goal.returns-in-Ok-false-refill-clause-next
returns-in-Ok-false-refill-clause-next g c =
    let inv = c.loop-call.invariant in
    let given = inv.given.0 in
    let read = c.refill.new.self in
    let remaining = g.R.Read.remaining c.refill.new.reader.stream in
    let ended = subst (λ b. MatchBool b (0 < length read) ((read ≡ []) × IsAtEnd remaining)) c.in-Ok-false-refill.field-0-test c.in-Ok-false-refill.ensures.more in
    let none = ended.0 in
    let consumed = consumes_no_more _ _ _ given _ inv.given.1 c.in-Ok-false-refill.ensures.given none in
    (given, consumed, is_last remaining _ c.loop-call.line.items read c.at_end.result inv.given.2 inv.feedless none ended.1 c.at_end.ensures)

pub returns-in-Ok-true-take_piece-clause-next : goal.returns-in-Ok-true-take_piece-clause-next
returns-in-Ok-true-take_piece-clause-next g c =
    let inv = c.loop-call.invariant in
    let given = inv.given.0 in
    let read = c.refill.new.self in
    let piece = c.in-Ok-true-take_piece.ensures.piece in
    let line = c.take_piece-in-loop-call.new.line.items in
    let left = c.take_piece-in-loop-call.new.self in
    let cut = joined c.args.self.now given c.loop-call.line.items piece.0 read (line_feed ∷ left) line inv.given.2 piece.1 (subst (λ b. IsPiece read b piece.0 left) c.in-Ok-true-take_piece.field-0-test piece.3) in
    let feedless : HasNoLineFeed line = subst HasNoLineFeed (sym {A = List ℕ} piece.1) (feedless_append _ _ inv.feedless piece.2) in
    (given ++ read, Consumes-trans _ _ _ _ _ inv.given.1 c.in-Ok-true-refill.ensures.given, (line, cut, feedless, c.without_return-in-Ok-true-take_piece.ensures))

pub returns-in-Err-take_piece-clause-fails : goal.returns-in-Err-take_piece-clause-fails
returns-in-Err-take_piece-clause-fails g c =
    let inv = c.loop-call.invariant in
    let given = inv.given.0 in
    let read = c.refill.new.self in
    let line = c.loop-call.line.items in
    let fails = c.in-Err-take_piece.ensures.fails in
    let cut = joined c.args.self.now given line fails.0 read c.take_piece-in-loop-call.new.self (line ++ fails.0) inv.given.2 refl fails.1 in
    let same : c.refill.new.reader.faults ≡ c.args.reader.now.faults = search rules in (
      given ++ read,
      line ++ fails.0,
      Consumes-trans _ _ _ _ _ inv.given.1 c.in-Ok-true-refill.ensures.given,
      cut,
      feedless_append _ _ inv.feedless fails.2,
      input_fails c.args.limit c.in-Err-take_piece.fault line fails.0 c.args.reader.now c.refill.new.reader same fails.3,
    )

pub loop-call-preserved : goal.loop-call-preserved
loop-call-preserved g c =
    let inv = c.loop-call.invariant in
    let given = inv.given.0 in
    let read = c.refill.new.self in
    let line = c.take_piece-in-loop-call.new.line.items in
    let piece = c.in-Ok-false-take_piece.ensures.piece in
    let left = c.take_piece-in-loop-call.new.self in
    let remaining = g.R.Read.remaining c.refill.new.reader.stream in
    let more = subst (λ b. MatchBool b (0 < length read) ((read ≡ []) × IsAtEnd remaining)) c.in-Ok-true-refill.field-0-test c.in-Ok-true-refill.ensures.more in
    let whole = subst (λ b. IsPiece read b piece.0 left) c.in-Ok-false-take_piece.field-0-test piece.3 in
    let grown : line ≡ c.loop-call.line.items ++ read = piece.1 ∙ ap (λ l. c.loop-call.line.items ++ l) (sym whole.0) in
    let at_hand : c.args.self.now ++ (given ++ read) ≡ line = sym (append_assoc c.args.self.now given read) ∙ ap (λ l. l ++ read) inv.given.2 ∙ sym grown in
    record {
      given = (given ++ read, Consumes-trans _ _ _ _ _ inv.given.1 c.in-Ok-true-refill.ensures.given, at_hand, omega (arith, length-append given read));
      held = whole.1;
      feedless = subst HasNoLineFeed (sym {A = List ℕ} piece.1) (feedless_append _ _ inv.feedless piece.2);
      within = search rules;
      calls = search rules;
      faults = search rules;
    }
