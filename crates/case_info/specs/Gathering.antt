-- The files that cores map, and which stored executables are used for them.
use Rattle.std.specs.Prelude.{◌≡◌, ℕ, Bool, true, false, is_some, List, [], ◌∷◌, map, Option, None, Some, Result, Ok, Err, IfOk, IsTrue, Vec}
use Rattle.std.specs.Global.{Global}
use Rattle.std.specs.Option.{option_and_then, option_map}
use Rattle.address_space.specs.Source.{ExecutableView}
use Rattle.archive_files.specs.declared.failures.Refusal.{Refusal}
use Rattle.archive_files.specs.declared.failures.Refusal.TheVariants.{Open}
use Rattle.build_ids.specs.BuildId.{build_id_of}
use Rattle.build_replies.specs.Builds.{BuildValue, NamedId, builds_of, told_of, told_or_none}
use Rattle.build_replies.specs.ByBuild.{Chosen, used_executable}
use Rattle.case_queries.specs.Collecting.{CollectsAll, wanted_by}
use Rattle.case_queries.specs.Seeing.{SeesImage}
use Rattle.case_screens.specs.Core.{notes_in}
use Rattle.disk_model.specs.declared.disk.Disk as disk
use Rattle.elf_view.specs.NoteList.{NoteView}
use Rattle.image_replies.specs.declared.core_image.CoreFault.{CoreFault}
use Rattle.intake.specs.Calls.{OpenCall}
use Rattle.intake.specs.Parts.{Parts, state_of}
use Rattle.intake.specs.Step.{brief_of}
use Rattle.journal_layout.specs.Case.{Case}
use Rattle.journal_layout.specs.declared.entry.Kind.{Kind}
use Rattle.journal_layout.specs.declared.entry.Kind.TheVariants.{Core, Exec}
use Rattle.journal_layout.specs.declared.faults.OpenFault.{OpenFault}
use Rattle.retention.specs.declared.Brief.{Brief}
use Rattle.shared_disk.specs.Looks.{under}
use Rattle.shared_disk.specs.declared.shared.SharedDisk as shared
use Rattle.shared_disk.specs.declared.unlocked.Unlocked.{Unlocked}
use Rattle.archive_files.specs.UnlockedCopies.{Meanwhile}
use Rattle.case_info.specs.declared.gathering.Gathered.{Gathered}
use Rattle.case_info.specs.declared.gathering.ListedCase.{ListedCase}
use Rattle.case_info.specs.declared.kept_files.KeptFile.{KeptFile}

-- ---- A mapped file.

-- A file that a core maps: its name, the build ID that the core has for it, whether a stored executable is used for it, and the build ID of that
-- executable.
pub record FileValue : Type 0 where
  pub name : List ℕ
  pub told : Option (List ℕ)
  pub is_used : Bool
  pub used : Option (List ℕ)

-- the build ID of the executable that is used, if one is
abbrev pub used_id : Chosen → Option (List ℕ)
used_id k = option_and_then (λ (x : ExecutableView). build_id_of x.image) (used_executable k)

abbrev pub file_of : BuildValue → FileValue
file_of v = record { name = v.name; told = v.core; is_used = is_some (used_executable v.chosen); used = used_id v.chosen }

-- those of a core; an empty list, if it has no NT_FILE
abbrev pub files_with : Option (List BuildValue) → List FileValue
files_with None = []
files_with (Some values) = map file_of values

-- the kept form of an ID
abbrev pub id_kept : Option (Vec ℕ Global) → Option (List ℕ)
id_kept kept = option_map (λ (v : Vec ℕ Global). v.items) kept

abbrev pub file_view : KeptFile → FileValue
file_view f = record { name = f.name.items; told = id_kept f.told; is_used = f.is_used; used = id_kept f.used }

abbrev pub files_view : Vec KeptFile Global → List FileValue
files_view v = map file_view v.items

-- ---- The mapped files of a core.

-- The mapped files of the core, whose image was seen before, are found. The executables that are stored for them, by their names or by the builds that the
-- core has for them, are read. The core is seen again, and these are its mapped files with the executables.
pub record FindsBuilds {D : Type 0} (g : disk.Ghosts D) (old mid : Parts D) (seq : ℕ) (image : List ℕ) (values : Option (List BuildValue)) (new : Parts D) : Type 0 where
  pub told : Option (List NamedId)
  pub states : told_of image ≡ told
  pub executables : List ExecutableView
  pub read : Parts D
  pub collects : CollectsAll g mid (wanted_by (told_or_none told) (state_of mid).cases) (Ok executables) read
  pub again : List ℕ
  pub seen : SeesImage g old seq again new
  pub still : told_of again ≡ told
  pub values_are : values ≡ builds_of again executables

-- a core with a fault has no files here
abbrev pub AsksBuilds : {D : Type 0} → disk.Ghosts D → Parts D → Parts D → ℕ → List ℕ → Result (List NoteView) CoreFault → Option (List BuildValue) → Parts D → Type 0
AsksBuilds g old mid seq image (Ok notes) values new = FindsBuilds g old mid seq image values new
AsksBuilds g old mid seq image (Err fault) values new = (values ≡ None) × (new ≡ mid)

-- The image of a core is seen, and its mapped files are found.
abbrev pub SeesBuilds : {D : Type 0} → disk.Ghosts D → Parts D → ℕ → Option (List BuildValue) → Parts D → Type 0
SeesBuilds {D} g old seq values new = (image : List ℕ) × (mid : Parts D) × SeesImage g old seq image mid × AsksBuilds g old mid seq image (notes_in image) values new

-- These are the files that a core of an archive maps.
abbrev pub SeesFiles : {D : Type 0} → disk.Ghosts D → Parts D → ℕ → List FileValue → Parts D → Type 0
SeesFiles g old seq files new = (values : Option (List BuildValue)) × SeesBuilds g old seq values new × (files ≡ files_with values)

-- by the archive that was opened, or why it was not
abbrev pub FilesBy : {D : Type 0} → disk.Ghosts D → ℕ → Result (Parts D) (OpenFault × D) → Result (Vec KeptFile Global) Refusal → Type 0
FilesBy {D} g seq (Ok a) r = IfOk r (λ (v : Vec KeptFile Global). (new : Parts D) × SeesFiles g a seq (files_view v) new)
FilesBy g seq (Err (fault, d)) r = r ≡ Err (Open fault)

-- The archive on a disk is opened, and the files are seen that a core of it maps.
abbrev pub FilesOn : {D : Type 0} → disk.Ghosts D → ℕ → D → Result (Vec KeptFile Global) Refusal → Type 0
FilesOn {D} g seq before r = (opened : Result (Parts D) (OpenFault × D)) × OpenCall g 0 before opened × FilesBy g seq opened r

-- ---- Those of all cores.

abbrev pub is_core_kind : Kind → Bool
is_core_kind Core = true
is_core_kind Exec = false

-- a case by its name, by the facts that the retention rule uses, and by its kind
pub record CaseValue : Type 0 where
  pub name : List ℕ
  pub brief : Brief
  pub is_core : Bool

abbrev pub case_value : Case → CaseValue
case_value c = record { name = c.origin.name; brief = brief_of c; is_core = is_core_kind c.origin.kind }

abbrev pub listed_view : ListedCase → CaseValue
listed_view c = record { name = c.name.items; brief = c.brief; is_core = c.is_core }

-- the files that a case maps: an empty list, if it is no core
abbrev pub SeesFilesIf : {D : Type 0} → disk.Ghosts D → Parts D → ℕ → Bool → List FileValue → Parts D → Type 0
SeesFilesIf g old seq true files new = SeesFiles g old seq files new
SeesFilesIf g old seq false files new = (files ≡ []) × (new ≡ old)

abbrev pub SeesFilesOf : {D : Type 0} → disk.Ghosts D → Parts D → CaseValue → List FileValue → Parts D → Type 0
SeesFilesOf g old case files new = SeesFilesIf g old case.brief.seq case.is_core files new

-- those of these cases, one after the other
abbrev pub SeesEach : {D : Type 0} → disk.Ghosts D → Parts D → List CaseValue → List (List FileValue) → Parts D → Type 0
SeesEach g old [] [] new = new ≡ old
SeesEach {D} g old (c ∷ cs) (files ∷ others) new = (mid : Parts D) × SeesFilesOf g old c files mid × SeesEach g mid cs others new
SeesEach g old _ _ new = ⊥

-- The cases of an archive in their order, and for each the files that it maps.
pub record Gathers {D : Type 0} (g : disk.Ghosts D) (old : Parts D) (gathered : Gathered) (new : Parts D) : Type 0 where
  pub cases : map listed_view gathered.cases.items ≡ map case_value (state_of old).cases
  pub files : SeesEach g old (map listed_view gathered.cases.items) (map files_view gathered.files.items) new

-- by the archive that was opened, or why it was not
abbrev pub GathersBy : {D : Type 0} → disk.Ghosts D → Result (Parts D) (OpenFault × D) → Result Gathered Refusal → Type 0
GathersBy {D} g (Ok a) r = IfOk r (λ (gathered : Gathered). (new : Parts D) × Gathers g a gathered new)
GathersBy g (Err (fault, d)) r = r ≡ Err (Open fault)

-- The archive on a disk is opened, and its cases are gathered.
abbrev pub GathersOn : {D : Type 0} → disk.Ghosts D → D → Result Gathered Refusal → Type 0
GathersOn {D} g before r = (opened : Result (Parts D) (OpenFault × D)) × OpenCall g 0 before opened × GathersBy g opened r

-- the same of the cases alone
abbrev pub CasesBy : {D : Type 0} → Result (Parts D) (OpenFault × D) → Result (Vec ListedCase Global) Refusal → Type 0
CasesBy (Ok a) r = IfOk r (λ (v : Vec ListedCase Global). map listed_view v.items ≡ map case_value (state_of a).cases)
CasesBy (Err (fault, d)) r = r ≡ Err (Open fault)

abbrev pub CasesOn : {D : Type 0} → disk.Ghosts D → D → Result (Vec ListedCase Global) Refusal → Type 0
CasesOn {D} g before r = (opened : Result (Parts D) (OpenFault × D)) × OpenCall g 0 before opened × CasesBy opened r

-- ---- Between two looks.

-- The cases are gathered over a disk that gives the bytes of the last look. That disk is honest whenever the disk that others change is honest and holds an
-- archive all the time. So the result is as if nobody had changed the archive since the look.
abbrev pub GathersBetween : {S : Type 0} (g : shared.Ghosts S) → disk.Ghosts (Unlocked S g) → S → Result Gathered Refusal → Type 0
GathersBetween {S} g U s (Ok gathered) = (d : Unlocked S g) × (under d ≡ s) × GathersOn U d (Ok gathered) × Meanwhile g s (λ x ys. IsTrue (U.is_honest d))
GathersBetween g U s (Err why) = Unit {0}

-- the same of the files that one core maps
abbrev pub FilesBetween : {S : Type 0} (g : shared.Ghosts S) → disk.Ghosts (Unlocked S g) → S → ℕ → Result (Vec KeptFile Global) Refusal → Type 0
FilesBetween {S} g U s seq (Ok files) = (d : Unlocked S g) × (under d ≡ s) × FilesOn U seq d (Ok files) × Meanwhile g s (λ x ys. IsTrue (U.is_honest d))
FilesBetween g U s seq (Err why) = Unit {0}
