-- The counter that rises for an outcome.
use Rattle.std.specs.Prelude.{ℕ, Bool, true, false, List, [], ◌∷◌, Option, None, Some, replicate, if◌then◌else◌}
use Rattle.std.specs.List.{slice_set}
use Rattle.handler_files.specs.Counters.{place}
use Rattle.handler_files.specs.Counts.{count_of, more}
use Rattle.handler_files.specs.declared.counters.Counter.{Counter}
use Rattle.handler_files.specs.declared.counters.Counter.TheVariants as counters
use Rattle.handler_files.specs.declared.counts.Counts.{Counts}
use Rattle.handler_files.specs.declared.reasons.Reason.{Reason}
use Rattle.core_handler.specs.declared.outcome_lines.Place.{Place}
use Rattle.core_handler.specs.declared.outcome_lines.Place.TheVariants.{Lost, Kept}

-- outcomes are counted if the configuration names a log
abbrev pub counts_by : Option (List ℕ) → Bool
counts_by None = false
counts_by (Some []) = false
counts_by (Some (byte ∷ log)) = true

-- a core that is stored is whole, or was cut
abbrev pub stored_counter : Bool → Counter
stored_counter is_cut = if is_cut then counters.Cut else counters.Stored

-- a core that is not stored stays in the spool, or is lost for a reason
abbrev pub unstored_counter : Place → Reason → Counter
unstored_counter (Kept folder) reason = counters.Kept
unstored_counter (Lost archive) reason = counters.Lost reason

-- the counts with so many more of a counter
abbrev pub with_more : List ℕ → Counter → ℕ → List ℕ
with_more counts counter by = slice_set counts (place counter) (more (count_of counts counter) by)

-- the counts until then; all are 0 if there are no counts yet
abbrev pub counts_before : Option Counts → List ℕ
counts_before None = replicate 25 0
counts_before (Some counts) = counts.counts

-- one more of the outcome, and so many more cases that were dropped for it
abbrev pub counts_after : Option Counts → Counter → ℕ → List ℕ
counts_after counts counter dropped = with_more (with_more (counts_before counts) counter 1) counters.Dropped dropped
