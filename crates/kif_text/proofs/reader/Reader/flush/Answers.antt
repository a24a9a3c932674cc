use Rattle.std.proofs.Common.{◌≡◌, ◌<◌, length, [], ap, ◌∙◌, refl, arith}
use Rattle.game_core.specs.Expression.{atom}
use Rattle.kif_text.specs.View.{views}
use Rattle.kif_text.specs.Machine.{and_last}
use Rattle.kif_text.proofs.Views.{view-Atom, views_push, flushed_is}
use Rattle.kif_text.proofs.reader.Reader.flush.Goals as goal

pub returns : goal.returns
returns c =
    let word = c.args.self.now.word.items in
    let some : 0 < length word = grind arith in
    let moved : c.replace-bytes.result.items ≡ word = grind arith in
    let empty : c.replace-bytes.new.dest.items ≡ [] = grind arith in
    let here : views c.push.new.self.items ≡ and_last (views c.args.self.now.here.items) (atom word) =
    ap views c.in_ok-push.ensures.items ∙ views_push c.args.self.now.here.items _ ∙ rw (view-Atom, moved) refl in
    flushed_is _ _ _ word _ _ some here empty
