-- The files that are unpacked of a case: of a core the executables that are used for its mapped files, with their debug files, and the name of its
-- program; of an executable itself.
use Rattle.std.specs.Prelude.{◌≡◌, ℕ, true, false, List, [], ◌∷◌, ◌++◌, find, map, Option, None, Some, Result, Ok, Err, IfOk, IsTrue, Vec}
use Rattle.std.specs.Global.{Global}
use Rattle.std.specs.Option.{option_and_then, option_map}
use Rattle.address_space.specs.Source.{ExecutableView}
use Rattle.archive_files.specs.declared.failures.Refusal.{Refusal}
use Rattle.archive_files.specs.declared.failures.Refusal.TheVariants.{Open}
use Rattle.build_replies.specs.Builds.{BuildValue, NamedId, builds_of, name_of, told_of, told_or_none}
use Rattle.build_replies.specs.ByBuild.{used_executable}
use Rattle.case_queries.specs.Collecting.{CollectsAll, debugs_by, wanted_by}
use Rattle.case_queries.specs.Seeing.{SeesImage}
use Rattle.case_screens.specs.Core.{files_in, notes_in}
use Rattle.case_screens.specs.Files.{stored_number}
use Rattle.core_notes.specs.FileList.{FileView, is_mapping}
use Rattle.core_notes.specs.Typed.{first_desc}
use Rattle.disk_model.specs.declared.disk.Disk as disk
use Rattle.elf_view.specs.NoteList.{NoteView}
use Rattle.frame_replies.specs.Processes.{start_by}
use Rattle.image_replies.specs.declared.core_image.CoreFault.{CoreFault}
use Rattle.intake.specs.Calls.{OpenCall}
use Rattle.intake.specs.Parts.{Parts, state_of}
use Rattle.intake.specs.Step.{HasCase}
use Rattle.journal_layout.specs.Case.{Case}
use Rattle.journal_layout.specs.declared.entry.Kind.{Kind}
use Rattle.journal_layout.specs.declared.entry.Kind.TheVariants.{Core, Exec}
use Rattle.journal_layout.specs.declared.faults.OpenFault.{OpenFault}
use Rattle.shared_disk.specs.Looks.{under}
use Rattle.shared_disk.specs.declared.shared.SharedDisk as shared
use Rattle.shared_disk.specs.declared.unlocked.Unlocked.{Unlocked}
use Rattle.archive_files.specs.UnlockedCopies.{Meanwhile}
use Rattle.case_info.specs.declared.unpacked_files.DebugFile.{DebugFile}
use Rattle.case_info.specs.declared.unpacked_files.UnpackedFile.{UnpackedFile}
use Rattle.case_info.specs.declared.unpacking.Unpacking.{Unpacking}

-- ---- The program.

-- the name of the first of these files that is mapped at an address
abbrev pub name_at : List FileView → ℕ → Option (List ℕ)
name_at files a = option_map name_of (find (is_mapping a) files)

-- that of the file at the entry of the process (NT_AUXV 6, NT_FILE 0x46494c45)
abbrev pub program_in : List NoteView → Option (List ℕ)
program_in notes = option_and_then (name_at (files_in (first_desc 0x46494c45 notes))) (start_by (first_desc 6 notes))

-- ---- A mapped file.

-- a stored file, by the number of its case and its name
pub record StoredValue : Type 0 where
  pub case : ℕ
  pub name : List ℕ

-- a mapped file, by its name, with the number of the executable that is used for it, and the debug file of that
pub record UnpackedValue : Type 0 where
  pub name : List ℕ
  pub case : Option ℕ
  pub debug : Option StoredValue

-- the number of the executable of that name
abbrev pub number_of : List Case → Option ExecutableView → Option ℕ
number_of cases file = option_and_then (λ (x : ExecutableView). stored_number cases x.path) file

-- with its name
abbrev pub stored_of : List Case → Option ExecutableView → Option StoredValue
stored_of cases file = option_and_then (λ (x : ExecutableView). option_map (λ (n : ℕ). record { case = n; name = x.path }) (stored_number cases x.path)) file

abbrev pub unpacked_of : List Case → BuildValue → UnpackedValue
unpacked_of cases v = record { name = v.name; case = number_of cases (used_executable v.chosen); debug = stored_of cases v.debug }

-- those of a core; an empty list, if it has no NT_FILE
abbrev pub unpacked_with : List Case → Option (List BuildValue) → List UnpackedValue
unpacked_with cases None = []
unpacked_with cases (Some values) = map (unpacked_of cases) values

abbrev pub debug_view : DebugFile → StoredValue
debug_view d = record { case = d.case; name = d.name.items }

abbrev pub unpacked_view : UnpackedFile → UnpackedValue
unpacked_view f = record { name = f.name.items; case = f.case; debug = option_map debug_view f.debug }

abbrev pub name_kept : Option (Vec ℕ Global) → Option (List ℕ)
name_kept kept = option_map (λ (v : Vec ℕ Global). v.items) kept

-- ---- A case.

-- The mapped files of a core, whose image was seen before, are found. The executables that are stored for them, by their names or by the builds that
-- the core has for them, are read, and then the debug files of those that are used. The core is seen again, and these are its mapped files with the
-- executables and debug files that are used for them.
pub record FindsUnpacked {D : Type 0} (g : disk.Ghosts D) (old mid : Parts D) (seq : ℕ) (image : List ℕ) (files : List UnpackedValue) (new : Parts D) : Type 0 where
  pub told : Option (List NamedId)
  pub states : told_of image ≡ told
  pub executables : List ExecutableView
  pub read : Parts D
  pub collects : CollectsAll g mid (wanted_by (told_or_none told) (state_of mid).cases) (Ok executables) read
  pub debug_files : List ExecutableView
  pub all : Parts D
  pub debugs : CollectsAll g read (debugs_by (told_or_none told) executables (state_of read).cases) (Ok debug_files) all
  pub again : List ℕ
  pub seen : SeesImage g old seq again new
  pub still : told_of again ≡ told
  pub files_are : files ≡ unpacked_with (state_of new).cases (builds_of again (executables ++ debug_files))

-- the facts of a core that has a fault
pub record IsWithoutFiles (seq : ℕ) (fault : CoreFault) (u : Unpacking) : Type 0 where
  pub case : u.seq ≡ seq
  pub kind : u.is_core ≡ true
  pub files : u.files.items ≡ []
  pub program : u.program ≡ None
  pub first : u.fault ≡ Some fault

-- the facts of a core that has no fault
pub record HasFiles (seq : ℕ) (notes : List NoteView) (files : List UnpackedValue) (u : Unpacking) : Type 0 where
  pub case : u.seq ≡ seq
  pub kind : u.is_core ≡ true
  pub files_are : map unpacked_view u.files.items ≡ files
  pub program : name_kept u.program ≡ program_in notes
  pub sound : u.fault ≡ None

-- by the first fault of the core, if it has one
abbrev pub AsksUnpacked : {D : Type 0} → disk.Ghosts D → Parts D → Parts D → ℕ → List ℕ → Result (List NoteView) CoreFault → Unpacking → Parts D → Type 0
AsksUnpacked g old mid seq image (Ok notes) u new = (files : List UnpackedValue) × FindsUnpacked g old mid seq image files new × HasFiles seq notes files u
AsksUnpacked g old mid seq image (Err fault) u new = IsWithoutFiles seq fault u × (new ≡ mid)

-- The image of a core is seen, and the files that are unpacked with it are found.
abbrev pub UnpacksCore : {D : Type 0} → disk.Ghosts D → Parts D → ℕ → Unpacking → Parts D → Type 0
UnpacksCore {D} g old seq u new = (image : List ℕ) × (mid : Parts D) × SeesImage g old seq image mid × AsksUnpacked g old mid seq image (notes_in image) u new

-- an executable, by its own name, as the program
abbrev pub own_file : Case → UnpackedValue
own_file c = record { name = c.origin.name; case = Some c.seq; debug = None }

pub record IsExecutable (seq : ℕ) (c : Case) (u : Unpacking) : Type 0 where
  pub case : u.seq ≡ seq
  pub kind : u.is_core ≡ false
  pub files : map unpacked_view u.files.items ≡ own_file c ∷ []
  pub program : name_kept u.program ≡ Some c.origin.name
  pub fault : u.fault ≡ None

-- by the kind of the case
abbrev pub UnpacksKind : {D : Type 0} → disk.Ghosts D → Parts D → Case → ℕ → Unpacking → Parts D → Kind → Type 0
UnpacksKind g old c seq u new Core = UnpacksCore g old seq u new
UnpacksKind g old c seq u new Exec = IsExecutable seq c u × (new ≡ old)

-- These are the files that are unpacked of a case.
abbrev pub UnpacksCase : {D : Type 0} → disk.Ghosts D → Parts D → ℕ → Unpacking → Type 0
UnpacksCase {D} g old seq u = (c : Case) × HasCase (state_of old) seq c × (new : Parts D) × UnpacksKind g old c seq u new c.origin.kind

-- by the archive that was opened, or why it was not
abbrev pub UnpacksBy : {D : Type 0} → disk.Ghosts D → ℕ → Result (Parts D) (OpenFault × D) → Result Unpacking Refusal → Type 0
UnpacksBy g seq (Ok a) r = IfOk r (UnpacksCase g a seq)
UnpacksBy g seq (Err (fault, d)) r = r ≡ Err (Open fault)

-- The archive on a disk is opened, and the files that are unpacked of a case of it are found.
abbrev pub UnpacksOn : {D : Type 0} → disk.Ghosts D → ℕ → D → Result Unpacking Refusal → Type 0
UnpacksOn {D} g seq before r = (opened : Result (Parts D) (OpenFault × D)) × OpenCall g 0 before opened × UnpacksBy g seq opened r

-- The same over a disk that gives the bytes of the last look. That disk is honest whenever the disk that others change is honest and holds an archive all the
-- time. So it is as if nobody had changed the archive since the look.
abbrev pub UnpacksBetween : {S : Type 0} (g : shared.Ghosts S) → disk.Ghosts (Unlocked S g) → S → ℕ → Result Unpacking Refusal → Type 0
UnpacksBetween {S} g U s seq (Ok u) = (d : Unlocked S g) × (under d ≡ s) × UnpacksOn U seq d (Ok u) × Meanwhile g s (λ x ys. IsTrue (U.is_honest d))
UnpacksBetween g U s seq (Err why) = Unit {0}
