-- The list of the cases of an archive.
use Rattle.std.specs.Prelude.{◌≡◌, ◌==◌, ◌||◌, ℕ, Bool, true, false, is_some, not, List, [], ◌∷◌, ◌++◌, length, Option, None, Some, Result, Ok, Err, IfOk}
use Rattle.std.specs.Io.KnownBytes.{Appends}
use Rattle.std.specs.List.{flat_map}
use Rattle.std.specs.Option.{option_copied}
use Rattle.archive_files.specs.declared.failures.Failure.{Failure}
use Rattle.archive_files.specs.declared.failures.Failure.TheVariants.{Refused}
use Rattle.archive_files.specs.declared.failures.Refusal.TheVariants.{Open}
use Rattle.case_listing.specs.declared.listing.ListWords.{ListWords}
use Rattle.case_tables.specs.Filters.{SaysTime}
use Rattle.case_tables.specs.Hidden.{Prints}
use Rattle.case_tables.specs.Json.{cases_json}
use Rattle.case_tables.specs.Lines.{case_line}
use Rattle.case_tables.specs.Order.{IsShown}
use Rattle.case_tables.specs.Table.{list_table}
use Rattle.case_tables.specs.Wanted.{chosen}
use Rattle.case_tables.specs.declared.wanted.Wanted.{Wanted}
use Rattle.case_tables.specs.declared.zones.Zone.{Zone}
use Rattle.case_tables.specs.declared.zones.Zone.TheVariants.{Utc}
use Rattle.disk_model.specs.declared.disk.Disk as disk
use Rattle.intake.specs.Calls.{OpenCall}
use Rattle.intake.specs.Parts.{Parts, state_of}
use Rattle.journal_layout.specs.Case.{Case}
use Rattle.journal_layout.specs.declared.faults.OpenFault.{OpenFault}

-- a line whose text reads back as JSON of these cases, and its hidden characters are escaped
abbrev pub PrintsCases : List Case → Option (List ℕ) → Option (List ℕ) → Type 0
PrintsCases cases before after = (printed : List ℕ) × Prints (cases_json cases) printed × Appends before after (printed ++ 10 ∷ [])

-- the wanted cases in their order, as a table and as JSON
abbrev pub PrintsTable : Wanted → List Case → Option (List ℕ) → Option (List ℕ) → Type 0
PrintsTable wanted cases before after = (shown : List Case) × IsShown wanted.order (chosen wanted cases) shown × Appends before after (list_table wanted.zone shown)

abbrev pub PrintsJson : Wanted → List Case → Option (List ℕ) → Option (List ℕ) → Type 0
PrintsJson wanted cases before after = (shown : List Case) × IsShown wanted.order (chosen wanted cases) shown × PrintsCases shown before after

-- The wanted cases are printed, as a table or as JSON, to an output that had taken `before`; and whether there are any.
pub record Lists (is_json : Bool) (wanted : Wanted) (cases : List Case) (before after : Option (List ℕ)) (some : Bool) : Type 0 where
  pub told : is_json ≡ false → PrintsTable wanted cases before after
  pub told_json : is_json ≡ true → PrintsJson wanted cases before after
  pub some_is : some ≡ not (length (chosen wanted cases) == 0)

-- by the archive that was opened, or why it was not
abbrev pub ListsBy : {D : Type 0} → Bool → Wanted → Option (List ℕ) → Option (List ℕ) → Result (Parts D) (OpenFault × D) → Result Bool Failure → Type 0
ListsBy is_json wanted before after (Ok a) r = IfOk r (Lists is_json wanted (state_of a).cases before after)
ListsBy is_json wanted before after (Err (fault, d)) r = (r ≡ Err (Refused (Open fault))) × (after ≡ before)

-- The archive on a disk is opened, and its cases are listed.
abbrev pub ListsOn : {D : Type 0} → disk.Ghosts D → Bool → Wanted → Option (List ℕ) → Option (List ℕ) → D → Result Bool Failure → Type 0
ListsOn {D} g is_json wanted before after before_disk r =
    (opened : Result (Parts D) (OpenFault × D)) × OpenCall g 0 before_disk opened × ListsBy is_json wanted before after opened r

-- The wanted cases are printed as lines of JSON, in their order; and whether there are any.
pub record ListsLines (wanted : Wanted) (cases : List Case) (before after : Option (List ℕ)) (some : Bool) : Type 0 where
  pub shown : List Case
  pub in_order : IsShown wanted.order (chosen wanted cases) shown
  pub told : Appends before after (flat_map case_line shown)
  pub some_is : some ≡ not (length (chosen wanted cases) == 0)

abbrev pub ListsLinesBy : {D : Type 0} → Wanted → Option (List ℕ) → Option (List ℕ) → Result (Parts D) (OpenFault × D) → Result Bool Failure → Type 0
ListsLinesBy wanted before after (Ok a) r = IfOk r (ListsLines wanted (state_of a).cases before after)
ListsLinesBy wanted before after (Err (fault, d)) r = (r ≡ Err (Refused (Open fault))) × (after ≡ before)

-- The archive on a disk is opened, and its cases are printed so.
abbrev pub ListsLinesOn : {D : Type 0} → disk.Ghosts D → Wanted → Option (List ℕ) → Option (List ℕ) → D → Result Bool Failure → Type 0
ListsLinesOn {D} g wanted before after before_disk r =
    (opened : Result (Parts D) (OpenFault × D)) × OpenCall g 0 before_disk opened × ListsLinesBy wanted before after opened r

-- the text of a filter is a time in a zone, if there is such a text
abbrev pub IsTimeSaid : Zone → Option ℕ → Option (List ℕ) → Option ℕ → Type 0
IsTimeSaid zone now None time = time ≡ None
IsTimeSaid zone now (Some text) None = ⊥
IsTimeSaid zone now (Some text) (Some time) = SaysTime zone now text (Some time)

-- a filter without its times and their zone
abbrev pub untimed : Wanted → Wanted
untimed w = record w { since = None; until = None; zone = Utc }

-- The wish of `list` at this time, in a zone: each of its times is that of its own text, and all else is as the words have it.
pub record IsWantedAt (zone : Zone) (now : Option ℕ) (words : ListWords) (wanted : Wanted) : Type 0 where
  pub since : IsTimeSaid zone now (option_copied words.since) wanted.since
  pub until : IsTimeSaid zone now (option_copied words.until) wanted.until
  pub shown : wanted.zone ≡ zone
  pub others : untimed wanted ≡ untimed words.wanted

-- Only some cases are asked for: some fact of a case is wanted, or a time, or the last so many.
abbrev pub picks : ListWords → Bool
picks w =
    is_some w.wanted.kind || (is_some w.wanted.name || (is_some w.wanted.pid || (is_some w.wanted.user || (is_some w.wanted.program
    || (is_some w.wanted.signal || (is_some w.since || (is_some w.until || (is_some w.wanted.label || (w.wanted.pinned || is_some w.wanted.last)))))))))
