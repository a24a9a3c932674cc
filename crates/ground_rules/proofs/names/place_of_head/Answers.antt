use Rattle.std.specs.List.{position}
use Rattle.std.proofs.Common.{◌≡◌, ◌∙◌, ap, refl, unwrap_or}
use Rattle.rule_sentences.specs.contracts.sentence.DerivedPartialEq.TheImpl.{eq-value}
use Rattle.rule_sentences.specs.declared.sentence.Derived.{Derived}
use Rattle.rule_sentences.specs.declared.sentence.Derived.TheVariants.{Role, Init, Next, Legal, Goal, Terminal, Other}
use Rattle.rule_sentences.specs.Descriptions.{same_derived}
use Rattle.ground_rules.proofs.TablePlaces.{place-found}
use Rattle.ground_rules.proofs.names.place_of_head.Goals as goal

derived-test : (x y : Derived) → eq-value.it x y ≡ same_derived x y
derived-test (Role a) (Role b) = refl
derived-test (Init a) (Init b) = refl
derived-test (Next a) (Next b) = refl
derived-test (Legal a m) (Legal b n) = refl
derived-test (Goal a m) (Goal b n) = refl
derived-test Terminal Terminal = refl
derived-test (Other a) (Other b) = refl
derived-test x y = refl

pub returns : goal.returns
returns c =
    let atom = c.args.atom.now in
    let keys = c.args.heads.now.keys in
    c.unwrap_or.ensures ∙ ap (λ o. unwrap_or o c.len.result) c.get_index_of.ensures.index ∙ ap (unwrap_or (position (eq-value.it atom) keys)) c.len.ensures.len ∙ place-found (eq-value.it atom) same_derived atom keys (derived-test atom)
