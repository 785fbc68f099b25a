-- The groups of the cores of an archive.
use Rattle.std.specs.Prelude.{◌≡◌, ◌==◌, ℕ, Bool, true, false, not, List, length, filter, find, map, Option, None, Some, Result, Ok, Err, IfOk, Vec}
use Rattle.std.specs.Global.{Global}
use Rattle.std.specs.List.{list_all, list_any}
use Rattle.archive_files.specs.declared.collected.Collected.{Collected}
use Rattle.archive_files.specs.declared.failures.Refusal.{Refusal}
use Rattle.archive_files.specs.declared.failures.Refusal.TheVariants as refusals
use Rattle.case_tables.specs.declared.wanted.Wanted.{Wanted}
use Rattle.core_crashes.specs.Views.{crashed_said}
use Rattle.crash_signatures.specs.Grouping.{IsGrouping}
use Rattle.crash_signatures.specs.Groups.{GroupSaid}
use Rattle.disk_model.specs.declared.disk.Disk as disk
use Rattle.group_tables.specs.Chosen.{wanted_cores}
use Rattle.group_tables.specs.Numbers.{numbered}
use Rattle.group_tables.specs.Rows.{rows_of}
use Rattle.group_tables.specs.Table.{group_screen, groups_table}
use Rattle.group_tables.specs.Values.{MemberSaid, RowSaid}
use Rattle.case_tables.specs.declared.zones.Zone.{Zone}
use Rattle.group_tables.specs.declared.numbers.CrashedCore.{CrashedCore}
use Rattle.intake.specs.Calls.{OpenCall}
use Rattle.intake.specs.Parts.{Parts, state_of}
use Rattle.intake.specs.State.{ArchiveState}
use Rattle.intake.specs.Step.{HasCase}
use Rattle.journal_layout.specs.Case.{Case}
use Rattle.journal_layout.specs.declared.faults.OpenFault.{OpenFault}
use Rattle.archive_files.specs.UnlockedFinding.{has_number}
use Rattle.case_info.specs.Crashes.{FindsEach}
use Rattle.case_info.specs.Gathering.{is_core_kind}
use Rattle.case_info.specs.Screens.{held}
use Rattle.case_info.specs.declared.groups.GroupsForm.{GroupsForm}

-- ---- The crashes.

-- whether the case is a core; yes, if no case is named
abbrev pub IsCoreIf : {D : Type 0} → Parts D → Option ℕ → Bool → Type 0
IsCoreIf a None is_core = is_core ≡ true
IsCoreIf a (Some seq) is_core = (c : Case) × HasCase (state_of a) seq c × (is_core ≡ is_core_kind c.origin.kind)

-- The crashes of the cores that are wanted are found, and stand in the order of their numbers; or the case that is named is no core.
abbrev pub FindsCrashes : {D : Type 0} → disk.Ghosts D → Parts D → Wanted → Option ℕ → Option (Vec CrashedCore Global) → Parts D → Type 0
FindsCrashes g old wanted case None new = IsCoreIf old case false × (new ≡ old)
FindsCrashes g old wanted case (Some v) new =
    IsCoreIf old case true × FindsEach g old (wanted_cores wanted (state_of old).cases) (map crashed_said v.items) new

-- by the archive that was opened, or why it was not
abbrev pub FindsCrashesBy : {D : Type 0} → disk.Ghosts D → Wanted → Option ℕ → Result (Parts D) (OpenFault × D) → Result (Option (Vec CrashedCore Global)) Refusal → Type 0
FindsCrashesBy {D} g wanted case (Ok a) r = IfOk r (λ (found : Option (Vec CrashedCore Global)). (new : Parts D) × FindsCrashes g a wanted case found new)
FindsCrashesBy g wanted case (Err (fault, d)) r = r ≡ Err (refusals.Open fault)

-- The archive on a disk is opened, and the crashes are found.
abbrev pub FindsCrashesOn : {D : Type 0} → disk.Ghosts D → Wanted → Option ℕ → D → Result (Option (Vec CrashedCore Global)) Refusal → Type 0
FindsCrashesOn {D} g wanted case before r = (opened : Result (Parts D) (OpenFault × D)) × OpenCall g 0 before opened × FindsCrashesBy g wanted case opened r

-- ---- Their text.

-- a core of a group has this number
abbrev pub is_member : ℕ → MemberSaid → Bool
is_member seq m = m.case.seq == seq

abbrev pub has_member : ℕ → RowSaid → Bool
has_member seq r = list_any (is_member seq) r.members

-- the screen of the first group that has the case
abbrev pub PrintsFound : Zone → ℕ → Option RowSaid → (List ℕ → Type 0) → Type 0
PrintsFound zone latest None Prints = ⊥
PrintsFound zone latest (Some row) Prints = Prints (group_screen zone latest row)

abbrev pub PrintsRow : Zone → ℕ → ℕ → List RowSaid → (List ℕ → Type 0) → Type 0
PrintsRow zone latest seq rows Prints = PrintsFound zone latest (find (has_member seq) rows) Prints

-- the table of groups; or, if a case is named, the screen of its group
abbrev pub PrintsRows : Zone → Option ℕ → ℕ → List RowSaid → (List ℕ → Type 0) → Type 0
PrintsRows zone None latest rows Prints = Prints (groups_table zone latest rows)
PrintsRows zone (Some seq) latest rows Prints = PrintsRow zone latest seq rows Prints

abbrev pub IsText : List RowSaid → GroupsForm → List ℕ → Type 0
IsText rows form text = PrintsRows form.zone form.case form.latest rows (λ (told : List ℕ). text ≡ told)

-- of the groups of cores
abbrev pub IsTextOf : List Case → List CrashedCore → GroupsForm → List ℕ → Type 0
IsTextOf cases cores form text = (groups : List GroupSaid) × IsGrouping (numbered cores) groups × IsText (rows_of cases cores groups) form text

-- those of the cores that an archive has
abbrev pub is_there : ArchiveState → CrashedCore → Bool
is_there s core = has_number s core.number

abbrev pub there : ArchiveState → List CrashedCore → List CrashedCore
there s cores = filter (is_there s) cores

-- The text is that of the groups of the cores that are still there, and it is known whether there are any. JSON is left out.
pub record PrintsThere {D : Type 0} (a : Parts D) (cores : List CrashedCore) (form : GroupsForm) (told : Collected × Bool) : Type 0 where
  pub text : form.is_json ≡ false → IsTextOf (state_of a).cases (there (state_of a) cores) form (held told.0)
  pub some : told.1 ≡ not (length (there (state_of a) cores) == 0)

-- All cases of these numbers are there, and the text is that; or it is refused.
abbrev pub PrintsBy : {D : Type 0} → List ℕ → List CrashedCore → GroupsForm → Result (Parts D) (OpenFault × D) → Result (Collected × Bool) Refusal → Type 0
PrintsBy numbers cores form (Ok a) (Ok told) = (list_all (has_number (state_of a)) numbers ≡ true) × PrintsThere a cores form told
PrintsBy numbers cores form (Ok a) (Err why) = Unit {0}
PrintsBy numbers cores form (Err (fault, d)) r = r ≡ Err (refusals.Open fault)

-- The archive on a disk is opened, and the groups of those cores that it still has are printed.
abbrev pub PrintsOn : {D : Type 0} → disk.Ghosts D → List ℕ → List CrashedCore → GroupsForm → D → Result (Collected × Bool) Refusal → Type 0
PrintsOn {D} g numbers cores form before r = (opened : Result (Parts D) (OpenFault × D)) × OpenCall g 0 before opened × PrintsBy numbers cores form opened r
