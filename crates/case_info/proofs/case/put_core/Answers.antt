use Rattle.case_info.proofs.case.put_core.Goals as goal

pub returns : goal.returns
returns g c = c.put_text.ensures
