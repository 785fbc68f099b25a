use Rattle.archive_files.proofs.failures.print_refusal.Goals as goal

pub returns-clause-told : goal.returns-clause-told
returns-clause-told g c = (c.write_refusal.result, c.write_refusal.ensures)
