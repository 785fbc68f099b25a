-- The cases of an archive that a prune drops, by its cores and executables.
use Rattle.std.specs.Prelude.{◌≡◌, ℕ, Bool, true, false, List, [], ◌∷◌, ◌++◌, map, Option, Result, Ok, Err, IfOk, codes, decimal, Vec}
use Rattle.std.specs.Borrow.{Bor}
use Rattle.std.specs.Global.{Global}
use Rattle.std.specs.Option.{option_map}
use Rattle.archive_files.specs.Told.{ask_told}
use Rattle.archive_files.specs.declared.failures.Failure.{Failure}
use Rattle.archive_files.specs.declared.failures.Failure.TheVariants.{Refused}
use Rattle.archive_files.specs.declared.failures.Refusal.{Refusal}
use Rattle.archive_files.specs.declared.failures.Refusal.TheVariants.{Open}
use Rattle.disk_model.specs.declared.disk.Disk as disk
use Rattle.inspector_cli.specs.Asking.{line_streams}
use Rattle.inspector_cli.specs.Deleting.{AreLines, DeletesAlone, DeletesAsLines}
use Rattle.inspector_cli.specs.Life.{LifeEnds}
use Rattle.inspector_cli.specs.declared.session.LifeFault.{LifeFault}
use Rattle.intake.specs.Calls.{OpenCall}
use Rattle.intake.specs.Parts.{Parts}
use Rattle.journal_layout.specs.declared.faults.OpenFault.{OpenFault}
use Rattle.pruning.specs.Pruning.{IsPruning}
use Rattle.pruning.specs.declared.cases.Content.{Content}
use Rattle.pruning.specs.declared.cases.Content.TheVariants as content
use Rattle.pruning.specs.declared.cases.LiveCase.{LiveCase}
use Rattle.pruning.specs.declared.cases.MappedFile.{MappedFile}
use Rattle.pruning.specs.declared.dropping.Pruning.{Pruning}
use Rattle.retention.specs.declared.Policy.{Policy}
use Rattle.script_words.specs.Printing.{shown}
use Rattle.stream_names.specs.declared.naming.Naming.{Naming}
use Rattle.case_info.specs.Gathering.{CaseValue, FileValue, Gathers, files_view, listed_view}
use Rattle.case_info.specs.declared.gathering.Gathered.{Gathered}

-- A mapped file as a prune sees it: its name, the build ID that the core has for it, and that of the executable that is used.
pub record MappedValue : Type 0 where
  pub name : List ℕ
  pub told : Option (List ℕ)
  pub used : Option (List ℕ)

abbrev pub id_lent : Option (Bor (List ℕ)) → Option (List ℕ)
id_lent o = option_map (λ (id : Bor (List ℕ)). id.now) o

abbrev pub mapped_view : MappedFile → MappedValue
mapped_view f = record { name = f.name.now; told = id_lent f.told; used = id_lent f.used }

abbrev pub mapped_of : FileValue → MappedValue
mapped_of f = record { name = f.name; told = f.told; used = f.used }

abbrev pub lent_view : Vec MappedFile Global → List MappedValue
lent_view v = map mapped_view v.items

-- an executable, or a core that maps these files
abbrev pub IsContent : Bool → List FileValue → Content → Type 0
IsContent true files (content.Core lent) = map mapped_view lent.now ≡ map mapped_of files
IsContent false files content.Executable = Unit {0}
IsContent is_core files c = ⊥

-- A case, and the files that it maps, as a prune sees it.
pub record IsSeenAs (case : CaseValue) (files : List FileValue) (live : LiveCase) : Type 0 where
  pub name : live.name.now ≡ case.name
  pub brief : live.brief ≡ case.brief
  pub content : IsContent case.is_core files live.content

-- the same of each
abbrev pub AreSeenAs : List CaseValue → List (List FileValue) → List LiveCase → Type 0
AreSeenAs [] [] [] = Unit {0}
AreSeenAs (c ∷ cs) (files ∷ others) (l ∷ ls) = IsSeenAs c files l × AreSeenAs cs others ls
AreSeenAs _ _ _ = ⊥

-- The cases that go are a pruning (`IsPruning` of pruning) of these cases, by the files that they map.
abbrev pub IsPlanOf : Policy → List CaseValue → List (List FileValue) → Pruning → Type 0
IsPlanOf policy cases files p = (live : List LiveCase) × AreSeenAs cases files live × IsPruning policy live p.dropped.items p.unmet

abbrev pub IsPlan : Policy → Gathered → Pruning → Type 0
IsPlan policy gathered p = IsPlanOf policy (map listed_view gathered.cases.items) (map files_view gathered.files.items) p

-- `drop N NAME`
abbrev pub drop_line : ℕ → List ℕ → List ℕ
drop_line n name = codes "drop " ++ (decimal n ++ (32 ∷ [] ++ (shown name ++ 10 ∷ [])))

-- ---- Over the archive on a disk.

-- The cases of an archive are gathered, and these are dropped.
abbrev pub PlansIn : {D : Type 0} → disk.Ghosts D → Policy → Parts D → Pruning → Parts D → Type 0
PlansIn g policy old p new = (gathered : Gathered) × Gathers g old gathered new × IsPlan policy gathered p

-- by the archive that was opened, and closed again, or why it was not
abbrev pub PlansBy : {D : Type 0} → disk.Ghosts D → Policy → Result (Parts D) (OpenFault × D) → Result Pruning Refusal → D → Type 0
PlansBy {D} g policy (Ok a) r after = (new : Parts D) × (after ≡ new.disk) × IfOk r (λ (p : Pruning). PlansIn g policy a p new)
PlansBy g policy (Err (fault, d)) r after = (r ≡ Err (Open fault)) × (after ≡ d)

-- The archive on a disk is opened, the cases to drop are found, and it is closed.
abbrev pub PlansOver : {D : Type 0} → disk.Ghosts D → Policy → D → Result Pruning Refusal → D → Type 0
PlansOver {D} g policy before r after = (opened : Result (Parts D) (OpenFault × D)) × OpenCall g 0 before opened × PlansBy g policy opened r after

-- The cases to drop are deleted, as `open_and_delete` of inspector_cli deletes them; or they could not be found, and no case is deleted.
abbrev pub PrunesBy : {D : Type 0} → disk.Ghosts D → Option (List ℕ) → Option (List ℕ) → ℕ → ℕ → Result Pruning Refusal → D → Result (Unit {0}) Failure → D → Type 0
PrunesBy g taken taken' lost lost' (Ok p) mid r after =
    (deleted : Result Bool LifeFault)
    × LifeEnds g 0 (line_streams [] deleted taken taken' lost lost') mid deleted after (DeletesAlone g p.dropped.items p.unmet taken taken')
    × ((naming : Naming) (line : ℕ → List ℕ) → AreLines line p.dropped.items → DeletesAsLines g naming line p.dropped.items mid deleted after)
    × (r ≡ ask_told deleted)
PrunesBy g taken taken' lost lost' (Err why) mid r after = (r ≡ Err (Refused why)) × (after ≡ mid) × (taken' ≡ taken) × (lost' ≡ lost)

-- The archive on a disk is pruned by a policy.
abbrev pub PrunesOver : {D : Type 0} → disk.Ghosts D → Policy → Option (List ℕ) → Option (List ℕ) → ℕ → ℕ → D → Result (Unit {0}) Failure → D → Type 0
PrunesOver {D} g policy taken taken' lost lost' before r after =
    (planned : Result Pruning Refusal) × (mid : D) × PlansOver g policy before planned mid × PrunesBy g taken taken' lost lost' planned mid r after
