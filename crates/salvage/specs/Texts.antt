-- The lines that a salvage prints.
use Rattle.std.specs.Prelude.{ℕ, List, [], ◌∷◌, ◌++◌, Option, None, Some, codes, decimal}
use Rattle.journal_layout.specs.FieldNames.{field_name}
use Rattle.journal_layout.specs.declared.faults.OpenFault.{OpenFault}
use Rattle.journal_layout.specs.declared.faults.OpenFault.TheVariants.{Disk, OutOfMemory, NotAnArchive, UnknownVersion, Damaged}
use Rattle.journal_layout.specs.declared.shape.Shape.{Shape}
use Rattle.salvage.specs.Readings.{first_fault}
use Rattle.salvage.specs.declared.cases_found.Found.{Found}
use Rattle.salvage.specs.declared.cases_found.Loss.{Loss}
use Rattle.salvage.specs.declared.cases_found.Loss.TheVariants as loss
use Rattle.salvage.specs.declared.mending.Mend.{Mend}
use Rattle.salvage.specs.declared.printing.Mark.{Mark}
use Rattle.salvage.specs.declared.printing.Mark.TheVariants.{Whole, Doubtful, Cut, Lost}
use Rattle.script_words.specs.Printing.{shown}

-- why an opening is refused
abbrev pub fault_words : OpenFault → List ℕ
fault_words Disk = codes "Disk"
fault_words NotAnArchive = codes "NotAnArchive"
fault_words OutOfMemory = codes "OutOfMemory"
fault_words (UnknownVersion version) = codes "UnknownVersion " ++ decimal version
fault_words (Damaged at field) = codes "Damaged " ++ (decimal at ++ (32 ∷ [] ++ field_name field))

-- `fault`, and why the opening is refused, or `sound`
abbrev pub fault_line : Option OpenFault → List ℕ
fault_line None = codes "sound\n"
fault_line (Some fault) = codes "fault " ++ (fault_words fault ++ 10 ∷ [])

-- `shape --half N --data N`
abbrev pub shape_line : Shape → List ℕ
shape_line s = codes "shape --half " ++ (decimal s.half_blocks ++ (codes " --data " ++ (decimal s.data_blocks ++ 10 ∷ [])))

-- the first fault of the front that is read instead of a damaged one, if there is such a fault
abbrev pub own_fault : Option OpenFault → List ℕ
own_fault None = []
own_fault (Some fault) = fault_line (Some fault)

-- The first fault. If another front is read than the archive's: why its own is refused, the shape, and then the fault.
abbrev pub lines_by : Option Mend → Option OpenFault → List ℕ
lines_by None fault = fault_line fault
lines_by (Some m) fault = fault_line (Some m.fault) ++ (shape_line m.shape ++ own_fault fault)

abbrev pub front_lines : Found → List ℕ
front_lines f = lines_by f.mend (first_fault f)

abbrev pub mark_words : Mark → List ℕ
mark_words Whole = codes " whole "
mark_words (Doubtful place) = codes " doubtful "
mark_words Cut = codes " doubtful "
mark_words (Lost loss place) = codes " lost "

abbrev pub loss_words : Loss → List ℕ
loss_words loss.Number = codes " number of another"
loss_words loss.Name = codes " name of another"
loss_words loss.Block = codes " block of another"
loss_words loss.Room = codes " no room"

-- these words, and the place of the record that deletes the case, if one does
abbrev pub deleting_words : List ℕ → Option ℕ → List ℕ
deleting_words words None = []
deleting_words words (Some place) = words ++ decimal place

-- why a case is lost or doubtful, and which record deletes a case
abbrev pub mark_reason : Mark → List ℕ
mark_reason Whole = []
mark_reason (Doubtful place) = deleting_words (codes " deleted at ") place
mark_reason Cut = codes " cut off"
mark_reason (Lost loss place) = loss_words loss ++ deleting_words (codes ", deleted at ") place

-- `N whole NAME`, `N doubtful NAME`, `N doubtful NAME deleted at PLACE`, `N doubtful NAME cut off`, `N lost NAME REASON` or `N lost NAME REASON, deleted at PLACE`
abbrev pub case_line : ℕ → Mark → List ℕ → List ℕ
case_line seq mark name = decimal seq ++ (mark_words mark ++ (shown name ++ (mark_reason mark ++ 10 ∷ [])))
