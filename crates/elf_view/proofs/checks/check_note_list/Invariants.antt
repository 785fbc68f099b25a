use Rattle.std.proofs.Common.{◌≡◌, ℕ, List, ◌++◌, length}
use Rattle.elf_view.specs.NoteList.{note_rests}
use Rattle.elf_view.specs.Sound.{note_checks, first_fault_among}
use Rattle.elf_view.proofs.checks.check_note_list.Given as goal

-- the fault of all is that of what is left
abbrev pub invariant-loop-rest : goal.invariant-loop-rest
invariant-loop-rest l =
    (others : List (List ℕ)) → first_fault_among note_checks l.fn.index (note_rests l.bytes ++ others) ≡ first_fault_among note_checks l.index (note_rests l.rest ++ others)

abbrev pub decreases-loop-rest : goal.decreases-loop-rest
decreases-loop-rest l = length l.rest
