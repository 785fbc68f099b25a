use Rattle.std.proofs.Common.{ℕ}
use Rattle.core_notes.specs.FileList.{FileView}
use Rattle.core_notes.specs.FileWords.{files_left}
use Rattle.address_space.proofs.Scanning.{Scanned}
use Rattle.address_space.proofs.scan.first_file.Given as goal

-- what is left, from some number on, answers as the whole on the addresses that are left
abbrev pub invariant-loop-file : goal.invariant-loop-file
invariant-loop-file l = (i : ℕ) × Scanned (λ (f : FileView). f.start) (λ (f : FileView). f.past) (files_left l.initial.files) l.fn.at l.fn.limit i (files_left l.files) l.length
