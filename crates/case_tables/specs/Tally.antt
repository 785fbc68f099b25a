-- A count of the cases of an archive.
use Rattle.std.specs.Prelude.{ℕ, ◌+◌, ◌==◌, Bool, max, min, if◌then◌else◌, List, [], ◌∷◌}
use Rattle.journal_layout.specs.Case.{Case}
use Rattle.journal_layout.specs.declared.entry.Kind.{Kind}
use Rattle.journal_layout.specs.declared.entry.Kind.TheVariants.{Core, Exec}
use Rattle.case_tables.specs.declared.tally.Tally.{Tally}

-- nothing is counted yet
abbrev pub no_tally : Tally
no_tally = record { cores = 0; executables = 0; pinned = 0; oldest = 0; newest = 0 }

-- the lesser of two times; 0 is no time
abbrev pub older : ℕ → ℕ → ℕ
older first time = if first == 0 then time else (if time == 0 then first else min first time)

-- a core of this time more
abbrev pub with_core : Tally → ℕ → Tally
with_core t time = record { cores = t.cores + 1; executables = t.executables; pinned = t.pinned; oldest = older t.oldest time; newest = max t.newest time }

-- an executable more
abbrev pub with_exec : Tally → Tally
with_exec t = record { cores = t.cores; executables = t.executables + 1; pinned = t.pinned; oldest = t.oldest; newest = t.newest }

-- a case more that is pinned, or not
abbrev pub with_pin : Tally → Bool → Tally
with_pin t pinned = record { cores = t.cores; executables = t.executables; pinned = if pinned then t.pinned + 1 else t.pinned; oldest = t.oldest; newest = t.newest }

abbrev pub with_kind : Kind → Tally → ℕ → Tally
with_kind Core t time = with_core t time
with_kind Exec t time = with_exec t

-- a case more
abbrev pub with_case : Tally → Case → Tally
with_case t c = with_kind c.origin.kind (with_pin t c.pinned) c.origin.time

-- the count after these cases more
abbrev pub tally_after : Tally → List Case → Tally
tally_after t [] = t
tally_after t (c ∷ cs) = tally_after (with_case t c) cs

-- of all cases
abbrev pub tally_of : List Case → Tally
tally_of cases = tally_after no_tally cases
