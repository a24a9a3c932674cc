use Rattle.command_faults.proofs.files.file_text.Goals as goal

pub returns-in-Err-clause-too_large : goal.returns-in-Err-clause-too_large
returns-in-Err-clause-too_large g c = c.in-Err.ensures.not_size c.args.limit
