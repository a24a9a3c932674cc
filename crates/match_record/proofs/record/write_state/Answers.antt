use Rattle.std.proofs.Common.{ap, ◌∙◌, map, sym, subst}
use Rattle.std.specs.Cow.{cow_slice_items}
use Rattle.std.specs.Prelude.{All}
use Rattle.std.specs.Str.{IsAscii}
use Rattle.match_record.proofs.Ascii.{canonical_texts_are_ascii}
use Rattle.match_record.proofs.record.write_state.Goals as goal

pub write_lent_texts-requires : goal.write_lent_texts-requires
write_lent_texts-requires g c =
    subst (λ ts. All IsAscii ts) (sym (ap (map cow_slice_items) c.as_slice.ensures.value ∙ c.in_ok-texts.ensures))
    (canonical_texts_are_ascii ((g.G.Game.rules c.args.game.now).state_text c.args.state.now) ((g.met.G.Game.laws c.args.game.now).state_texts_canonical c.args.state.now c.requires))
