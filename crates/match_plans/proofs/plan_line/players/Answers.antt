use Rattle.std.proofs.Common.{◌+◌, ◌∙◌, List, Bor, ℕ, [], map, take, length, sym, subst, ap, arith}
use Rattle.std.specs.List.{AllZip}
use Rattle.std.proofs.lemmas.List.{length_push}
use Rattle.match_plans.specs.Addresses.{IsAddress}
use Rattle.match_plans.proofs.Words.{next-player, one-player-more}
use Rattle.match_plans.proofs.plan_line.players.Goals as goal

pub loop-word-preserved : goal.loop-word-preserved
loop-word-preserved c =
    let words = c.args.words.now in
    let i = c.loop-word.word-index in
    let was = c.loop-word.invariant in
    let players = c.loop-word.players.items in
    let player = c.in-Some.player in
    let d : Bor (List ℕ) = record { ref_ptr = (0, 0); now = [] } in
    record {
      addresses = subst (AllZip IsAddress (map (λ w. w.now) (take (i + 1) words))) (sym c.in_ok-push.ensures.items) (one-player-more words i d players player c.loop-word-test.true was.addresses c.in-Some.ensures.address);
      fault = was.fault ∙ next-player words i (i + 4) (i + 1 + 4) d c.loop-word-test.true (omega arith) (sym c.in-Some.ensures.taken);
      places = ap length c.in_ok-push.ensures.items ∙ length_push players player ∙ ap (λ (n : ℕ). n + 1) was.places;
    }
