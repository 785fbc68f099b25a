-- The cells of a table for a case.
use Rattle.std.specs.Prelude.{ℕ, ◌==◌, if◌then◌else◌, List, ◌++◌, Option, Some, None, codes, decimal}
use Rattle.journal_layout.specs.Case.{Case}
use Rattle.script_words.specs.Printing.{shown}
use Rattle.thread_regs.specs.SignalNames.{numbered_name}
use Rattle.case_tables.specs.declared.columns.Column.{Column}
use Rattle.case_tables.specs.declared.columns.Column.TheVariants.{Number, Time, Pid, Signal, Size, Kept, Name, Label}
use Rattle.case_tables.specs.Sizes.{size_text}
use Rattle.case_tables.specs.declared.zones.Zone.{Zone}
use Rattle.case_tables.specs.Times.{time_in}

-- a number that is known, or `-`
abbrev pub known_number : ℕ → List ℕ
known_number n = if n == 0 then codes "-" else decimal n

abbrev pub named_signal : Option (List ℕ) → ℕ → List ℕ
named_signal (Some name) n = codes "SIG" ++ name
named_signal None n = known_number n

-- a signal by its name, or by its number; `-` if there was no signal
abbrev pub signal_text : ℕ → List ℕ
signal_text n = named_signal (numbered_name n) n

-- how a column shows a case, with times of a zone
abbrev pub cell : Zone → Column → Case → List ℕ
cell zone Number c = decimal c.seq
cell zone Time c = time_in zone c.origin.time
cell zone Pid c = known_number c.origin.pid
cell zone Signal c = signal_text c.origin.signal
cell zone Size c = size_text c.len
cell zone Kept c = if c.pinned then codes "pinned" else codes "-"
cell zone Name c = shown c.origin.name
cell zone Label c = shown c.label

-- the heading of a column
abbrev pub heading : Column → List ℕ
heading Number = codes "CASE"
heading Time = codes "TIME"
heading Pid = codes "PID"
heading Signal = codes "SIGNAL"
heading Size = codes "SIZE"
heading Kept = codes "KEPT"
heading Name = codes "NAME"
heading Label = codes "LABEL"
