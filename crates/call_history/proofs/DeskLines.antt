-- The lines of a desk over rings stay its lines while calls are posted, taken and served.
use Rattle.std.proofs.Common.{◌≡◌, ℕ, ◌<◌, List, [], ◌∷◌, ◌++◌, length, get_or, refl, sym, ◌∙◌, subst, arith, rules}
use Rattle.std.specs.List.{All}
use Rattle.call_history.specs.declared.port.Port.{Port}
use Rattle.call_history.specs.RingLines.{LineValue, SamePorts, SameLine, IsPortOf, IsLineOf, AreEndsOf, IsNewLine, AreNewLines}
use Rattle.call_history.specs.RingClosing.{SameEnds}
use Rattle.std.proofs.lemmas.List.Elements.{All-push}
use Rattle.call_history.proofs.ServedLines.{same_port_trans}
use Rattle.call_history.proofs.ReturnedEnds.{port_of_same}

pub same_ports_refl : {C R : Type 0} (ps : List (Port C R)) → SamePorts ps ps
same_ports_refl ps = record { count = refl; each = λ i p below. record { calls = search rules; replies = search rules } }

pub same_ports_trans : {C R : Type 0} (ps qs rs : List (Port C R)) → SamePorts ps qs → SamePorts qs rs → SamePorts ps rs
same_ports_trans ps qs rs s t = record {
  count = t.count ∙ s.count;
  each = λ i p below. same_port_trans _ _ _ (s.each i p below) (t.each i p (omega (arith, below, s.count)));
}

module _ {C R : Type 0} where
  pub same_ends_refl : (es : List (LineValue C R)) → SameEnds es es
  same_ends_refl es = record { count = refl; each = λ i e below. record { line = search rules; posted = refl; taken = refl } }

  pub line_of_new : (ps : List (Port C R)) (i : ℕ) (l : LineValue C R) → i < length ps → IsNewLine ps i l → IsLineOf ps l
  line_of_new ps i l below f = record {
    within = omega (arith, below, f.number_is);
    rings = λ p. let P : ℕ → Type 0 = λ n. IsPortOf (get_or ps n p) l in subst P (sym f.number_is) (f.rings p);
  }

  pub new_of_same : (ps qs : List (Port C R)) (i : ℕ) (l : LineValue C R) → SamePorts ps qs → i < length ps → IsNewLine ps i l → IsNewLine qs i l
  new_of_same ps qs i l s below new = record {
    number_is = new.number_is;
    rings = λ p. port_of_same (get_or ps i p) (get_or qs i p) l l (new.rings p) (s.each i p below) (search rules);
    posted = new.posted;
    taken = new.taken;
  }

  pub line_of_same : (ps qs : List (Port C R)) (l m : LineValue C R) → SamePorts ps qs → SameLine l m → IsLineOf ps l → IsLineOf qs m
  line_of_same ps qs l m s t was =
      let within : m.number < length qs = omega (arith, was.within, s.count, t.0) in
      record {
        within = within;
        rings = λ p. let P : ℕ → Type 0 = λ n. IsPortOf (get_or qs n p) m in
            subst P (sym t.0) (port_of_same (get_or ps l.number p) (get_or qs l.number p) l m (was.rings p) (s.each l.number p was.within) t);
      }

  pub ends_snoc : (ps : List (Port C R)) (es fs : List (LineValue C R)) (e : LineValue C R) → AreEndsOf ps es → IsLineOf ps e → fs ≡ es ++ e ∷ [] → AreEndsOf ps fs
  ends_snoc ps es fs e all one is =
      let P : List (LineValue C R) → Type 0 = λ x. AreEndsOf ps x in
      subst P (sym is) (All-push (IsLineOf ps) es e all one)

  pub lines_of_new : (ps : List (Port C R)) (ls : List (LineValue C R)) → AreNewLines ps ls → length ls ≡ length ps → All (IsLineOf ps) ls
  lines_of_new ps ls new count = λ k l below. line_of_new ps k (get_or ls k l) (omega (arith, below, count)) (new k l below)

  -- ends stay the desk's ends through its rounds
  pub ends_of_ports : (ps qs : List (Port C R)) (es : List (LineValue C R)) → SamePorts ps qs → AreEndsOf ps es → AreEndsOf qs es
  ends_of_ports ps qs es s all = λ k e below. line_of_same ps qs (get_or es k e) (get_or es k e) s (search rules) (all k e below)
