use Rattle.elf_view.specs.Sound.{table_rows}
use Rattle.elf_view.proofs.Rows.{sound_is, order_is_nothing}
use Rattle.elf_view.proofs.laws.soundness_has_no_order.Goals as goal

pub returns-clause-accepted : goal.returns-clause-accepted
returns-clause-accepted c = sound_is

pub returns-clause-order : goal.returns-clause-order
returns-clause-order c = λ want b rows moved. order_is_nothing (table_rows want b) rows moved
