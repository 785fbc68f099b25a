use Rattle.std.proofs.Common.{sym, ◌∙◌, ap}
use Rattle.elf_view.specs.NoteList.{all_rests}
use Rattle.elf_view.specs.Sound.{note_checks}
use Rattle.elf_view.proofs.FirstFault.{no_items}
use Rattle.elf_view.proofs.checks.check_core_notes.Goals as goal

pub returns : goal.returns
returns c = sym (c.loop-segment.invariant ∙ no_items note_checks _ _ (ap all_rests c.in_default.ensures.steps.0))
