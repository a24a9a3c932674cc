use Rattle.worked.proofs.locks.four_threads_and_one_history.Given as goal

abbrev pub ghosts-run_four_lines : goal.ghosts-run_four_lines
ghosts-run_four_lines g a = record { name = a.blank.name; parts = a.blank.parts }
