-- A program that crashes again and again: of its cores so many are stored in so many seconds.
use Rattle.std.specs.Prelude.{ℕ, ◌-◌, Bool, not, ◌&&◌, nat_le, nat_lt, nat_eq, List, length, Option, None, Some, Result, Ok, Err, codes, if◌then◌else◌}
use Rattle.std.specs.List.{filter, starts_with}
use Rattle.journal_layout.specs.Case.{Case, case_of}
use Rattle.journal_layout.specs.declared.entry.Entry.{Entry}
use Rattle.intake.specs.State.{StreamFacts}
use Rattle.inspector_cli.specs.Fitting.{is_core}
use Rattle.inspector_cli.specs.declared.burst.Burst.{Burst}

-- the time is this one, or so many seconds before it at most
abbrev pub is_within : ℕ → ℕ → ℕ → Bool
is_within earlier time seconds = nat_le earlier time && nat_le (time - earlier) seconds

-- a core of this program that was made not long before this time, and is not pinned
abbrev pub is_recent : Burst → ℕ → Case → Bool
is_recent burst time c =
    not c.pinned && is_core c.origin.kind && starts_with nat_eq c.origin.name burst.front.items && is_within c.origin.time time burst.seconds

-- the same of an entry
abbrev pub is_recent_entry : Burst → ℕ → Entry → Bool
is_recent_entry burst time e = is_recent burst time (case_of e)

-- of the program's cores as many as may be were made not long before this time
abbrev pub is_full_burst : Burst → ℕ → List Case → Bool
is_full_burst burst time cases = nat_le burst.most (length (filter (is_recent burst time) cases))

-- This core is one too many, of an archive that has these cases. If its time is not known, it is not.
abbrev pub is_over : Burst → Bool → List Case → StreamFacts → Bool
is_over burst stopped cases stream =
    not stopped && (is_core stream.origin.kind && nat_lt 0 stream.origin.time && is_full_burst burst stream.origin.time cases)

-- The stream that may begin, or why none may.
abbrev pub admitted : Option Burst → Bool → List Case → Result StreamFacts (List ℕ) → Result StreamFacts (List ℕ)
admitted None stopped cases found = found
admitted (Some burst) stopped cases (Err reason) = Err reason
admitted (Some burst) stopped cases (Ok stream) = if is_over burst stopped cases stream then Err (codes "Burst") else Ok stream
