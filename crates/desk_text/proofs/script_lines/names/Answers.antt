use Rattle.std.proofs.Common.{◌≡◌, ℕ, List, ◌++◌, ◌∷◌, [], Some, true, false, sym, ap, ◌∙◌, append-nil, arith, length, rules}
use Rattle.std.specs.Prelude.{is_some, option_copied}
use Rattle.desk_text.specs.ScriptLines.{names_of}
use Rattle.desk_text.specs.Words.{words_behind}
use Rattle.desk_text.proofs.Names.{before_names, first_taken, name_more, no_name, no_names, none_left, some_left}
use Rattle.desk_text.proofs.script_lines.names.Goals as goal

pub loop-rest-init : goal.loop-rest-init
loop-rest-init c =
    let all = names_of c.args.grammar (words_behind (option_copied c.args.rest)) in
    ap (λ names. before_names names all) c.new-items.ensures.items ∙ no_names all

pub loop-rest-preserved : goal.loop-rest-preserved
loop-rest-preserved c =
    let items = c.loop-rest.items.items in
    let pushed : c.push.new.self.items ≡ items ++ c.in-Ok.word.now ∷ [] = ◌∙◌ {A = List (List ℕ)} c.in_ok-push-in-Ok.ensures.items (ap (λ text. items ++ text ∷ []) c.in_ok-from_slice-in-Ok.ensures) in
    name_more c.args.grammar (words_behind (option_copied c.loop-rest.rest)) c.in-Ok.word.now (words_behind (option_copied c.in-Ok.more)) items c.push.new.self.items (names_of c.args.grammar (words_behind (option_copied c.args.rest))) c.in-Ok.ensures pushed c.loop-rest.invariant

pub loop-rest-smaller : goal.loop-rest-smaller
loop-rest-smaller c =
    let taken = first_taken c.args.grammar (words_behind (option_copied c.loop-rest.rest)) c.in-Ok.word.now (words_behind (option_copied c.in-Ok.more)) c.in-Ok.ensures in
    omega (arith, ap length taken.0)

pub returns-in-Err : goal.returns-in-Err
returns-in-Err c =
    let some : is_some c.loop-rest.rest ≡ true = search rules in
    let none = no_name c.args.grammar (words_behind (option_copied c.loop-rest.rest)) (some_left c.loop-rest.rest some) c.in-Err.ensures in
    sym (sym c.loop-rest.invariant ∙ ap (before_names c.loop-rest.items.items) none)

pub returns : goal.returns
returns c =
    let items = c.loop-rest.items.items in
    let none : is_some c.loop-rest.rest ≡ false = search rules in
    let empty = none_left c.loop-rest.rest none in
    sym (sym c.loop-rest.invariant ∙ ap (λ words. before_names items (names_of c.args.grammar words)) empty ∙ ap Some (append-nil items))
