-- Cases as people name them.
use Rattle.std.specs.Prelude.{ℕ, ◌&&◌, Bool, nat_le, if◌then◌else◌, List, reverse, find, fold, Option, None, Some, option_map, codes}
use Rattle.std.specs.Str.{bytes_eq}
use Rattle.journal_layout.specs.Case.{Case}
use Rattle.journal_layout.specs.declared.entry.Kind.TheVariants.{Core}
use Rattle.case_tables.specs.Wanted.{is_same_kind}

abbrev pub is_core : Case → Bool
is_core c = is_same_kind Core c.origin.kind

abbrev pub has_name : List ℕ → Case → Bool
has_name name c = bytes_eq c.origin.name name

-- A time from the year 2000 up to a moment. Any other one is of a clock that was not set, and counts as 0.
abbrev pub credible : ℕ → ℕ → ℕ
credible until time = if nat_le 946_684_800 time && nat_le time until then time else 0

-- a case, if it is a core that is not earlier than the latest one before it
abbrev pub later : ℕ → Option Case → Case → Option Case
later until None c = if is_core c then Some c else None
later until (Some d) c = if is_core c && nat_le (credible until d.origin.time) (credible until c.origin.time) then Some c else Some d

-- the core of the latest time, of several the last one
abbrev pub latest_core : ℕ → List Case → Option Case
latest_core until cases = fold (later until) None cases

-- the core with the highest number for `last`, the core with the latest time for `latest`, and else the case of this name
abbrev pub named_case : ℕ → List ℕ → List Case → Option Case
named_case until word cases =
    if bytes_eq word (codes "last") then find is_core (reverse cases)
    else if bytes_eq word (codes "latest") then latest_core until cases
    else find (has_name word) cases

-- its number
abbrev pub named_number : ℕ → List ℕ → List Case → Option ℕ
named_number until word cases = option_map (λ c. c.seq) (named_case until word cases)
