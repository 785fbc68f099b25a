-- The cells of the tables for a group and for its cores.
use Rattle.std.specs.Prelude.{ℕ, Bool, nat_lt, List, [], ◌∷◌, ◌++◌, codes, decimal, if◌then◌else◌}
use Rattle.script_words.specs.Printing.{shown}
use Rattle.case_tables.specs.Cells.{known_number, signal_text}
use Rattle.case_tables.specs.Sizes.{size_text}
use Rattle.case_tables.specs.Times.{time_in}
use Rattle.case_tables.specs.declared.zones.Zone.{Zone}
use Rattle.group_tables.specs.declared.cells.GroupColumn.{GroupColumn}
use Rattle.group_tables.specs.declared.cells.GroupColumn.TheVariants as group
use Rattle.group_tables.specs.declared.cells.CaseColumn.{CaseColumn}
use Rattle.group_tables.specs.declared.cells.CaseColumn.TheVariants as case
use Rattle.group_tables.specs.Summary.{certain_count, first_time, labels, labels_text, last_time, newest, perhaps_count}
use Rattle.group_tables.specs.Values.{MemberSaid, RowSaid}
use Rattle.group_tables.specs.Words.{frames_text}

-- how many are certain, and behind a plus how many are perhaps of the group
abbrev pub counts_text : ℕ → ℕ → List ℕ
counts_text certain perhaps = decimal certain ++ (if nat_lt 0 perhaps then codes "+" ++ decimal perhaps else [])

-- how a column shows a group, with times of a zone; those after this moment count as none
abbrev pub group_cell : Zone → ℕ → RowSaid → GroupColumn → List ℕ
group_cell zone latest r group.Cores = counts_text (certain_count r.members) (perhaps_count r.members)
group_cell zone latest r group.First = time_in zone (first_time latest r.members)
group_cell zone latest r group.Last = time_in zone (last_time latest r.members)
group_cell zone latest r group.Signal = signal_text r.crash.signal
group_cell zone latest r group.Newest = decimal (newest r.members)
group_cell zone latest r group.Labels = labels_text (labels r.members)
group_cell zone latest r group.Program = shown r.crash.program
group_cell zone latest r group.Frames = frames_text r.crash.signature

abbrev pub group_heading : GroupColumn → List ℕ
group_heading group.Cores = codes "CORES"
group_heading group.First = codes "FIRST"
group_heading group.Last = codes "LAST"
group_heading group.Signal = codes "SIGNAL"
group_heading group.Newest = codes "NEWEST"
group_heading group.Labels = codes "LABELS"
group_heading group.Program = codes "PROGRAM"
group_heading group.Frames = codes "FRAMES"

-- a label, and ` ?` if the core is only perhaps of the group
abbrev pub label_text : List ℕ → Bool → List ℕ
label_text label is_perhaps = shown label ++ (if is_perhaps then codes " ?" else [])

-- how a column shows a core of a group: as a list of cases does
abbrev pub case_cell : Zone → MemberSaid → CaseColumn → List ℕ
case_cell zone m case.Number = decimal m.case.seq
case_cell zone m case.Time = time_in zone m.case.origin.time
case_cell zone m case.Pid = known_number m.case.origin.pid
case_cell zone m case.Signal = signal_text m.case.origin.signal
case_cell zone m case.Size = size_text m.case.len
case_cell zone m case.Kept = if m.case.pinned then codes "pinned" else codes "-"
case_cell zone m case.Name = shown m.case.origin.name
case_cell zone m case.Label = label_text m.case.label m.is_perhaps

abbrev pub case_heading : CaseColumn → List ℕ
case_heading case.Number = codes "CASE"
case_heading case.Time = codes "TIME"
case_heading case.Pid = codes "PID"
case_heading case.Signal = codes "SIGNAL"
case_heading case.Size = codes "SIZE"
case_heading case.Kept = codes "KEPT"
case_heading case.Name = codes "NAME"
case_heading case.Label = codes "LABEL"

-- the columns, from the left
abbrev pub group_columns : List GroupColumn
group_columns = group.Cores ∷ group.First ∷ group.Last ∷ group.Signal ∷ group.Newest ∷ group.Labels ∷ group.Program ∷ group.Frames ∷ []

abbrev pub case_columns : List CaseColumn
case_columns = case.Number ∷ case.Time ∷ case.Pid ∷ case.Signal ∷ case.Size ∷ case.Kept ∷ case.Name ∷ case.Label ∷ []
