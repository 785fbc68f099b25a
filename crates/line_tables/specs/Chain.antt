-- Fields that are read one after another: the first that is missing is the bad one.
use Rattle.std.specs.Prelude.{Option, None, Some, Result, Ok, Err}
use Rattle.line_tables.specs.declared.faults.LineField.{LineField}

-- a field that must be there, and the fields that follow it
abbrev pub checked : {A B : Type 0} → Option A → LineField → (A → Result B LineField) → Result B LineField
checked None f next = Err f
checked (Some x) f next = next x

-- fields that must be sound, and the fields that follow them
abbrev pub and_then : {A B : Type 0} → Result A LineField → (A → Result B LineField) → Result B LineField
and_then (Ok x) next = next x
and_then (Err f) next = Err f

-- a result of the code as one of the definitions
abbrev pub viewed : {A B : Type 0} → (A → B) → Result A LineField → Result B LineField
viewed view (Ok x) = Ok (view x)
viewed view (Err f) = Err f
