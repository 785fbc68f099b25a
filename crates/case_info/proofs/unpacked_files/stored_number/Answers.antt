use Rattle.std.proofs.Common.{ap, ◌∙◌}
use Rattle.case_screens.proofs.FoundLemmas.{found_is}
use Rattle.case_screens.specs.Files.{exec_number}
use Rattle.case_tables.specs.Named.{has_name}
use Rattle.case_info.proofs.unpacked_files.stored_number.Goals as goal

pub returns : goal.returns
returns c = c.exec_number.ensures ∙ ap exec_number (found_is (has_name c.args.name.now) c.args.cases.now c.case_of_name.result c.case_of_name.ensures)
