use Rattle.std.proofs.Common.{◌≡◌, ◌⊎◌, ◌↔◌, true, sym, subst}
use Rattle.std.specs.Prelude.{bytes_eq}
use Rattle.std.specs.List.{list_any}
use Rattle.std.proofs.lemmas.Slice.Eq.{bytes_eq-Decides}
use Rattle.matches_to_play.proofs.NotedNames.{has_after_insert}
use Rattle.matches_to_play.proofs.done.DoneMatches.add.Goals as goal

pub returns : goal.returns
returns c = λ others.
    let old = c.args.self.now.names.keys in
    let added = has_after_insert _ (λ noted. noted.items) (λ a b is. (bytes_eq-Decides a.items b.items).0 is) old c.args.names others in
    subst (λ keys. (list_any (λ noted. bytes_eq others noted.items) keys ≡ true) ↔ ((list_any (λ noted. bytes_eq others noted.items) old ≡ true) ⊎ (c.args.names.items ≡ others))) (sym c.in_ok-insert.ensures.keys) added
