use Rattle.archive_files.proofs.over_disk.run_over.Goals as goal

pub returns : goal.returns
returns g c = (c.open_and_run-ended.result.0, c.open_and_run-ended.ensures.crash_safe, c.run_told.ensures)
