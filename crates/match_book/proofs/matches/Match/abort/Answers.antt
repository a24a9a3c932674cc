use Rattle.std.proofs.Common.{inl, inr, refl}
use Rattle.match_book.proofs.KeptMatches.{kept-with_abort}
use Rattle.match_book.proofs.matches.Match.abort.Goals as goal

pub invariant_of-self : goal.invariant_of-self
invariant_of-self g c =
    rw (c.clear.ensures.items, c.self.invariant.lawful.one_open_answer)
    (kept-with_abort (g.G.Game.rules c.self.inside.game.value) (g.met.G.Game.laws c.self.inside.game.value) c.self.invariant c.clear-2.new.self.items (elim c.in-Starting.is [ inl e ↦ rw e refl | inr e ↦ rw e refl ]))
