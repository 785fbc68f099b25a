use Rattle.case_listing.proofs.digest_command.digest_case.Goals as goal

pub returns : goal.returns
returns g c = (c.take_look.result, c.digest_looked.ensures)
