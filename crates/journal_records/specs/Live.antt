-- The live cases, as entries kept under their numbers.
use Rattle.std.specs.Prelude.{◌≡◌, ℕ, ◌+◌, ◌≤◌, ◌==◌, if◌then◌else◌, Bool, List, [], ◌∷◌}
use Rattle.arrayvec.specs.ArrayVec.{ArrayVec}
use Rattle.journal_layout.specs.declared.entry.Entry.{Entry}
use Rattle.journal_layout.specs.Case.{Case, case_of}

-- the cases of the entries, in order
abbrev pub cases_of : List (ℕ × Entry) → List Case
cases_of [] = []
cases_of (e ∷ es) = case_of e.1 ∷ cases_of es

-- Each entry is under its own number. The numbers rise, the first of them at `low` at least, and stay below `high`.
abbrev pub AreNumbered : ℕ → ℕ → List (ℕ × Entry) → Type 0
AreNumbered low high [] = low ≤ high
AreNumbered low high (e ∷ es) = (low ≤ e.0) × (e.1.seq ≡ e.0) × AreNumbered (e.0 + 1) high es

-- the entry, pinned or not
abbrev pub with_flag : Bool → Entry → Entry
with_flag flag e = record e { pinned = flag }

-- the entry, with this label
abbrev pub with_text : ArrayVec ℕ → Entry → Entry
with_text label e = record e { label = label }

-- the entries once the one of this number, if there is one, has been changed so
abbrev pub changed_in : ℕ → (Entry → Entry) → List (ℕ × Entry) → List (ℕ × Entry)
changed_in seq change [] = []
changed_in seq change (e ∷ es) = if e.0 == seq then (e.0, change e.1) ∷ es else e ∷ changed_in seq change es
