use Rattle.ggp_commands.proofs.commands.perform.Given as goal

abbrev pub ghosts-perform_task : goal.ghosts-perform_task
ghosts-perform_task g a = record { name = a.writer.ghost_name }
