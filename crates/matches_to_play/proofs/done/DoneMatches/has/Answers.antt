use Rattle.std.proofs.Common.{ap, ◌∙◌}
use Rattle.std.specs.Str.{bytes_eq}
use Rattle.indexmap.specs.IndexSet.{contains_by}
use Rattle.matches_to_play.proofs.done.DoneMatches.has.Goals as goal

pub returns : goal.returns
returns c = c.contains.ensures ∙ ap (λ names. contains_by (λ noted. bytes_eq names noted.items) c.args.self.now.names) (c.as_slice.ensures.value ∙ c.in_ok-names.ensures)
