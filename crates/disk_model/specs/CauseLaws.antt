-- The count of failures after a call with a cause, whatever the call answered.
use Rattle.std.proofs.Common.{ℕ, ◌≤◌, Result, Ok, Err, arith}
use Rattle.disk_model.specs.Disk.{HasCause}

-- the count never falls
pub never_falls : {T E : Type 0} → (before now : ℕ) (r : Result T E) → HasCause before now r → before ≤ now
never_falls before now (Ok x) cause = omega (arith, cause.ok)
never_falls before now (Err e) cause = omega (arith, cause.err)
