use Rattle.std.proofs.Common.{◌≡◌, ap, ◌∙◌, refl, arith}
use Rattle.game_core.specs.Expression.{list}
use Rattle.kif_text.specs.View.{views}
use Rattle.kif_text.specs.Machine.{and_last}
use Rattle.kif_text.proofs.Views.{view-List, views_push, levels_pop}
use Rattle.kif_text.proofs.reader.Reader.close.Goals as goal

pub returns : goal.returns
returns c =
    let popped = levels_pop c.args.self.now.levels.items c.pop.new.self.items c.in-Some.level c.in-Some.ensures.items in
    let kept : c.replace-members.new.dest.items ≡ c.in-Some.level.before.items = grind arith in
    let inner : views c.replace-members.result.items ≡ views c.args.self.now.here.items = grind arith in
    let here : views c.push.new.self.items ≡ and_last (views c.in-Some.level.before.items) (list (views c.args.self.now.here.items)) =
    ap views c.in_ok-push.ensures.items ∙ views_push c.replace-members.new.dest.items _ ∙ rw (kept, view-List, inner) refl in
    rw (popped, here) refl
