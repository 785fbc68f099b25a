-- The effect of the calls of a disk on the bytes that it shows, and on those that a crash may leave.
use Rattle.std.specs.Prelude.{◌≡◌, ◌⊎◌, ℕ, ◌≤◌, List, Result, OnOk, OnErr}
use Rattle.disk_model.specs.Places.{SameOutside}
pub use Rattle.diagnostics.specs.Counts.{HasRisen, IsNextCount, joined}

-- each new outcome of a crash is an old outcome after a step
abbrev pub Follows : (List ℕ → List ℕ → Type 0) → (List ℕ → Type 0) → (List ℕ → Type 0) → Type 0
Follows step old new = (c : List ℕ) → new c → (d : List ℕ) × old d × step d c

-- a crash leaves these bytes and nothing else
abbrev pub Only : List ℕ → (List ℕ → Type 0) → Type 0
Only bytes outcomes = (c : List ℕ) → outcomes c → c ≡ bytes

-- one of the outcomes, with any bytes in the n from place at on
abbrev pub ChangedIn : ℕ → ℕ → (List ℕ → Type 0) → List ℕ → Type 0
ChangedIn at n outcomes c = (d : List ℕ) × outcomes d × SameOutside at n d c

-- Time passes in a call: a crash since t may have left bytes that it may have left before the call, or bytes that it may leave now.
pub record Elapses {D : Type 0} (clock : D → ℕ) (may_leave : D → List ℕ → Type 0) (left_since : D → ℕ → List ℕ → Type 0) (old new : D) : Type 0 where
  pub later : clock old ≤ clock new
  pub nothing_else : (t : ℕ) (c : List ℕ) → t ≤ clock old → left_since new t c → left_since old t c ⊎ may_leave new c
  pub keeps : (t : ℕ) (c : List ℕ) → t ≤ clock old → left_since old t c → left_since new t c
  -- if the clock does not move, a crash leaves nothing new
  pub still : clock new ≡ clock old → (c : List ℕ) → may_leave new c → may_leave old c

-- A failure that is answered was counted, once; if none is answered, none was counted.
pub record HasCause {T E : Type 0} (before now : ℕ) (result : Result T E) : Type 0 where
  pub ok : OnOk result (now ≡ before)
  pub err : OnErr result (IsNextCount before now)
