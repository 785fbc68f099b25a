-- Reasons to stop, one after another: the first that holds is the answer.
use Rattle.std.specs.Prelude.{if◌then◌else◌, Bool, Option, None, Some, Result, Ok, Err}
use Rattle.unwind.specs.declared.faults.Stop.{Stop}

-- a value that must be there, or that reason; and the steps that follow
abbrev pub checked : {A B : Type 0} → Option A → Stop → (A → Result B Stop) → Result B Stop
checked None stop next = Err stop
checked (Some x) stop next = next x

-- a result with reasons of its own, and the steps that follow
abbrev pub and_then : {A B : Type 0} → Result A Stop → (A → Result B Stop) → Result B Stop
and_then (Ok x) next = next x
and_then (Err stop) next = Err stop

-- if a test holds, that reason
abbrev pub stop_if : {A : Type 0} → Bool → Stop → Result A Stop → Result A Stop
stop_if test stop next = if test then Err stop else next
