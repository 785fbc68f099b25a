-- The meaning of the code's reasons.
use Rattle.std.specs.Prelude.{ℕ, List, Result, Ok, Err}
use Rattle.case_screens.specs.Reasons as reasons
use Rattle.case_screens.specs.declared.reason.Reason.{Reason}

abbrev pub reason_view : Reason → reasons.Reason
reason_view r = record { name = r.name.now; index = r.index }

-- a descriptor that was found, by its bytes, or the reason
abbrev pub found_view : {A : Type 0} → (A → List ℕ) → Result A Reason → Result (List ℕ) reasons.Reason
found_view bytes (Ok desc) = Ok (bytes desc)
found_view bytes (Err r) = Err (reason_view r)
