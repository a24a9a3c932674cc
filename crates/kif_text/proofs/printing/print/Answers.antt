use Rattle.std.proofs.Common.{◌≡◌, List, ℕ, ap, subst, sym, ◌++◌, ◌∙◌}
use Rattle.game_core.specs.Canonical.{canonical}
use Rattle.kif_text.specs.View.{view}
use Rattle.kif_text.specs.Laws.{SpellsAlone}
use Rattle.kif_text.proofs.Printed.{canonical_spells_alone}
use Rattle.kif_text.proofs.printing.print.Goals as goal

pub returns-clause-alone : goal.returns-clause-alone
returns-clause-alone c proper =
    let x = view c.args.expr.now in
    let text : c.write.new.out.items ≡ canonical x = c.in_ok-write.ensures ∙ ap (λ bytes. bytes ++ canonical x) c.new-bytes.ensures.items in
    subst (λ (t : List ℕ). SpellsAlone t x) (sym text) (canonical_spells_alone x proper)
