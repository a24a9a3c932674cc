use Rattle.std.proofs.Common.{◌++◌, ap, sym, ◌∙◌}
use Rattle.std.proofs.lemmas.Result.{on_ok_weaker}
use Rattle.desk_calls.specs.declared.call.Call.TheVariants.{Submit}
use Rattle.desk_text.specs.Account.{call_text}
use Rattle.desk_text.proofs.CallTexts.{submit_text}
use Rattle.desk_text.proofs.account.push_call.Goals as goal

pub returns-in_ok-push_behind_space-in-Submit-2 : goal.returns-in_ok-push_behind_space-in-Submit-2
returns-in_ok-push_behind_space-in-Submit-2 c =
    on_ok_weaker c.push_text_behind_space.result
    (λ written. submit_text c.args.out.now.items c.push_keyword-in-Submit.new.out.items c.push_behind_space-in-Submit.new.out.items c.push_behind_space-in-Submit-2.new.out.items c.push_text_behind_space.new.out.items
    c.in-Submit.id c.in-Submit.role c.in-Submit.round c.as_slice-in-Submit.result.now
    c.in_ok-push_keyword-in-Submit.ensures c.in_ok-push_behind_space-in-Submit.ensures c.in_ok-push_behind_space-in-Submit-2.ensures written
    ∙ ap (λ call. c.args.out.now.items ++ call_text call) (ap (λ text. Submit c.in-Submit.id c.in-Submit.role c.in-Submit.round text) c.as_slice-in-Submit.ensures ∙ sym c.in-Submit.is))
    c.push_text_behind_space.ensures
