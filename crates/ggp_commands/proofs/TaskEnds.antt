-- The end of a task, given the end of its matches or messages.
use Rattle.std.proofs.Common.{◌≡◌, ◌≢◌, ◌⊎◌, ◌∙◌, ℕ, inl, inr, ap, refl, subst, sym, IfErr, IfOk}
use Rattle.std.specs.Prelude.{IsOk, MatchResult, OnErr, OnOk, Result, Ok, Err}
use Rattle.command_line.specs.declared.tasks.MatchTask.{MatchTask}
use Rattle.command_line.specs.declared.tasks.MatchTask.TheVariants.{Run, Season, Check}
use Rattle.command_faults.specs.declared.fault.Fault.{Fault}
use Rattle.player_commands.specs.declared.fault.CommandFault.{CommandFault}
use Rattle.ggp_commands.specs.Faults.{command_fault, task_fault}

same_fault : (task : MatchTask) (fault : Fault) → task_fault task (Err fault) ≡ fault
same_fault (Run plan) fault = refl
same_fault (Season plan) fault = refl
same_fault (Check plan) fault = refl

-- If a task ends with an error, the task has a number of missing matches or of bad answers, or its matches ended with this error.
pub ends_or_fails : {E : Type 0} (Q : ℕ → Type 0) (R : Fault → Type 0) (task : MatchTask) (held : Result ℕ Fault) (ended : Result E Fault)
    → OnErr ended (held ≢ Ok 0) → IfErr ended (λ fault. fault ≡ task_fault task held) → IfOk held Q → IfErr held R
    → IfErr ended (λ fault. ((count : ℕ) × (count ≢ 0) × (fault ≡ task_fault task (Ok count)) × Q count) ⊎ R fault)
ends_or_fails Q R task held (Ok e) some is ok err = tt
ends_or_fails Q R task (Ok count) (Err fault) some is ok err = inl (count, (λ none. some (ap Ok none)), is, ok)
ends_or_fails Q R task (Err why) (Err fault) some is ok err = inr (subst R (sym (is ∙ same_fault task why)) err)

-- A task that succeeds has no missing matches and no bad answers.
pub ends_well : {E : Type 0} (Q : ℕ → Type 0) (held : Result ℕ Fault) (ended : Result E Fault) → OnOk ended (held ≡ Ok 0) → IfOk held Q → OnOk ended (Q 0)
ends_well Q held (Ok e) is ok = subst (λ r. IfOk r Q) is ok
ends_well Q held (Err why) is ok = tt

-- If a command to players ends with an error, the task ends with the program's error for it.
pub ends_command : {A E : Type 0} (Q : CommandFault → Type 0) (performed : Result A CommandFault) (ended : Result E Fault)
    → MatchResult performed (λ _. IsOk ended) (λ why. ended ≡ Err (command_fault why)) → IfErr performed Q
    → IfErr ended (λ fault. (why : CommandFault) × (fault ≡ command_fault why) × Q why)
ends_command Q (Ok x) (Ok e) is err = tt
ends_command Q (Ok x) (Err fault) is err = absurd cc
ends_command Q (Err why) ended is err = rw is (why, refl, err)
