use Rattle.elf_view.proofs.Rows.{fault_at_place, fault_from_place}
use Rattle.elf_view.proofs.laws.the_fault_is_the_first.Goals as goal

pub returns-clause-row : goal.returns-clause-row
returns-clause-row c = fault_at_place

pub returns-clause-only : goal.returns-clause-only
returns-clause-only c = fault_from_place
