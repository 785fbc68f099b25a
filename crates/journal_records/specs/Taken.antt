-- Blocks and names that are taken as records are read.
use Rattle.std.specs.Prelude.{◌≡◌, ℕ, ◌+◌, Bool, true, false, if◌then◌else◌, nat_lt, ◌||◌, List, ◌++◌, length, Option, None, Some, Result, Ok, Err}
use Rattle.std.specs.Str.{bytes_eq}
use Rattle.std.specs.Option.{option_map}
use Rattle.std.specs.BTreeSet.{BTreeSet}
use Rattle.arrayvec.specs.ArrayVec.{ArrayVec}
use Rattle.extents.specs.declared.run_list.Run.{Run}
use Rattle.extents.specs.Runs.{run_blocks, blocks_of}
use Rattle.extents.specs.FreeSet.{is_free, one_if}
use Rattle.journal_layout.specs.declared.faults.Field.TheVariants as named
use Rattle.journal_layout.specs.declared.faults.OpenFault.{OpenFault}
use Rattle.journal_layout.specs.Soundness.{uses}
use Rattle.journal_layout.specs.Folding.{is_among}
use Rattle.journal_layout.specs.Reading.{store_runs, name_at, name_place}
use Rattle.journal_layout.specs.Checks.{damaged, is_bad_run, first_bad_run, block_count}
use Rattle.journal_records.specs.Head.{SaysFault}
use Rattle.journal_records.specs.Named.{has_name}

-- each block is either one of these, once, or free
abbrev pub Accounts : List ℕ → List Bool → Type 0
Accounts used flags = (k : ℕ) → uses k used + one_if (is_free flags k) ≡ one_if (nat_lt k (length flags))

-- whether a run after one that ends there was taken, and the flags then
abbrev pub TakesRun : List ℕ → List Bool → Option ℕ → Run → Bool → List Bool → Type 0
TakesRun used old end run true new = (is_bad_run (length old) used end run ≡ false) × Accounts (used ++ run_blocks run) new
TakesRun used old end run false new = is_bad_run (length old) used end run ≡ true

-- the fault of the runs of a Store record if these blocks are in use
abbrev pub fault_of_runs : ℕ → ℕ → List ℕ → List ℕ → Option OpenFault
fault_of_runs limit at rest used = option_map (damaged at named.Run) (first_bad_run limit used None 48 (store_runs rest))

-- The blocks of a Store record's runs, their number, and the flags with them in use.
pub record AreTaken (used rest blocks : List ℕ) (count : ℕ) (flags : List Bool) : Type 0 where
  pub all : blocks ≡ blocks_of (store_runs rest)
  pub number : count ≡ block_count (store_runs rest)
  pub accounts : Accounts (used ++ blocks) flags

abbrev pub TakesRuns : ℕ → List ℕ → List ℕ → List Bool → Result (List ℕ × ℕ) OpenFault → List Bool → Type 0
TakesRuns at rest used old (Ok taken) new = (fault_of_runs (length old) at rest used ≡ None) × AreTaken used rest taken.0 taken.1 new
TakesRuns at rest used old (Err e) new = SaysFault (fault_of_runs (length old) at rest used) e

-- the fault of the name of a Store record if these names are taken
abbrev pub fault_of_name : ℕ → List ℕ → BTreeSet (ℕ × ArrayVec ℕ) → Option OpenFault
fault_of_name at rest names = if is_among (name_at rest) 0 || has_name names (name_at rest) then Some (damaged at named.Name (name_place rest)) else None

abbrev pub TakesName : ℕ → List ℕ → BTreeSet (ℕ × ArrayVec ℕ) → Result (ArrayVec ℕ) OpenFault → BTreeSet (ℕ × ArrayVec ℕ) → Type 0
TakesName at rest old (Ok name) new =
    (fault_of_name at rest old ≡ None) × (name.items ≡ name_at rest)
    × ((q : List ℕ) → has_name new q ≡ (if bytes_eq (name_at rest) q then true else has_name old q))
TakesName at rest old (Err e) new = SaysFault (fault_of_name at rest old) e
