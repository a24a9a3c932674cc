use Rattle.std.specs.List.{position}
use Rattle.std.proofs.Common.{◌∙◌, ap, bytes_eq, refl, unwrap_or}
use Rattle.ground_rules.proofs.TablePlaces.{place-found}
use Rattle.ground_rules.proofs.names.place_of_text.Goals as goal

pub returns : goal.returns
returns c =
    let text = c.args.text.now in
    let keys = c.args.set.now.keys in
    c.unwrap_or.ensures ∙ ap (λ o. unwrap_or o c.len.result) c.get_index_of.ensures.index ∙ ap (unwrap_or (position (bytes_eq text) keys)) c.len.ensures.len ∙ place-found (bytes_eq text) bytes_eq text keys (λ y. refl)
