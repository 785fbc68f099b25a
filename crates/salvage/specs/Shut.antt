-- Gates that are damaged: they read closed, and may have been open.
use Rattle.std.specs.Prelude.{◌≡◌, ◌⊎◌, ℕ, ◌+◌, ◌<◌, ◌≤◌, Bool, true, false, not, ◌||◌, ◌==◌, List, length, slice_index, if◌then◌else◌, Option, None, Some, Result, Ok, Err}
use Rattle.std.specs.Option.{option_or}
use Rattle.journal_layout.specs.Layout.{half_start}
use Rattle.journal_layout.specs.Standing.{Standing}
use Rattle.journal_layout.specs.Stands.{Stands}
use Rattle.journal_layout.specs.declared.faults.OpenFault.{OpenFault}
use Rattle.journal_layout.specs.declared.shape.Half.TheVariants.{A, B}
use Rattle.salvage.specs.Finding.{IsShort, gate_of}
use Rattle.salvage.specs.Showing.{shown}
use Rattle.salvage.specs.declared.shown.Patch.{Patch}

-- A gate is written open, as 165, or closed, as 0. This byte is neither, and no 0 of which one bit is another.
abbrev pub is_shut : ℕ → Bool
is_shut x = not (x == 165 || x == 0 || x == 1 || x == 2 || x == 4 || x == 8 || x == 16 || x == 32 || x == 64 || x == 128)

-- the gate at this place, if it is damaged
abbrev pub shut_there : List ℕ → ℕ → Option ℕ
shut_there b gate = if is_shut (slice_index b gate) then Some gate else None

-- the first damaged gate of an archive that stands: that of a half, or else that after its records
abbrev pub shut_gate : List ℕ → Standing → Option ℕ
shut_gate b s =
    option_or (shut_there b (half_start s.shape A)) (option_or (shut_there b (half_start s.shape B)) (shut_there b (gate_of s)))

-- the gate at this place is shown open
abbrev pub opens : ℕ → Option Patch
opens gate = Some (record { at = gate; byte = 165 })

abbrev pub IsByteRead : List ℕ → ℕ → Result ℕ OpenFault → Type 0
IsByteRead b place (Ok x) = x ≡ slice_index b place
IsByteRead b place (Err fault) = IsShort fault

-- if this gate is shown open, an archive stands whose records end after so many bytes of its half
abbrev pub StaysSo : List ℕ → ℕ → ℕ → Type 0
StaysSo b gate used = (u : Standing) × Stands (shown (opens gate) b) u × (u.used ≡ used)

abbrev pub EndsThere : List ℕ → ℕ → ℕ → Result Bool OpenFault → Type 0
EndsThere b gate used (Ok true) = StaysSo b gate used
EndsThere b gate used (Ok false) = StaysSo b gate used → ⊥
EndsThere b gate used (Err fault) = IsShort fault

-- a damaged gate that decides where the records end
pub record IsShutThere (b : List ℕ) (gate used : ℕ) : Type 0 where
  pub within : gate < length b
  pub damaged : is_shut (slice_index b gate) ≡ true
  pub ends : StaysSo b gate used → ⊥

-- no such gate
abbrev pub IsNotShut : List ℕ → ℕ → ℕ → Type 0
IsNotShut b gate used = (length b ≤ gate) ⊎ (is_shut (slice_index b gate) ≡ false) ⊎ StaysSo b gate used

abbrev pub IsShutAt : List ℕ → ℕ → ℕ → Result (Option ℕ) OpenFault → Type 0
IsShutAt b start used (Ok (Some gate)) = (gate ≡ start + used) × IsShutThere b (start + used) used
IsShutAt b start used (Ok None) = IsNotShut b (start + used) used
IsShutAt b start used (Err fault) = IsShort fault

abbrev pub IsLastShut : List ℕ → Standing → Result (Option ℕ) OpenFault → Type 0
IsLastShut b s (Ok o) = o ≡ shut_there b (gate_of s)
IsLastShut b s (Err fault) = IsShort fault

abbrev pub IsHalfShut : List ℕ → ℕ → Result (Option ℕ) OpenFault → Type 0
IsHalfShut b start (Ok o) = start < length b → o ≡ shut_there b start
IsHalfShut b start (Err fault) = IsShort fault

abbrev pub IsShutFound : List ℕ → Standing → Result (Option ℕ) OpenFault → Type 0
IsShutFound b s (Ok o) = o ≡ shut_gate b s
IsShutFound b s (Err fault) = IsShort fault
