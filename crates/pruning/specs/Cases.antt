-- The cases of an archive, and the builds and names that the cores among them need.
use Rattle.std.specs.Prelude.{ℕ, Bool, true, false, not, ◌&&◌, ◌||◌, ◌==◌, List, [], Option, None, Some, map}
use Rattle.std.specs.Borrow.{Bor}
use Rattle.std.specs.List.{filter, list_any}
use Rattle.std.specs.Str.{bytes_eq}
use Rattle.retention.specs.declared.Brief.{Brief}
use Rattle.pruning.specs.declared.cases.Content.{Content}
use Rattle.pruning.specs.declared.cases.Content.TheVariants.{Core, Executable}
use Rattle.pruning.specs.declared.cases.LiveCase.{LiveCase}
use Rattle.pruning.specs.declared.cases.MappedFile.{MappedFile}

abbrev pub brief_of : LiveCase → Brief
brief_of c = c.brief

abbrev pub number : LiveCase → ℕ
number c = c.brief.seq

abbrev pub holds_core : Content → Bool
holds_core (Core files) = true
holds_core Executable = false

abbrev pub is_core : LiveCase → Bool
is_core c = holds_core c.content

abbrev pub files_in : Content → List MappedFile
files_in (Core files) = files.now
files_in Executable = []

-- the files that a case maps: none, if it is no core
abbrev pub mapped_by : LiveCase → List MappedFile
mapped_by c = files_in c.content

-- the cores, as the retention rule sees them
abbrev pub core_briefs : List LiveCase → List Brief
core_briefs cases = map brief_of (filter is_core cases)

-- there is an ID, and it is that one
abbrev pub is_id : List ℕ → Option (Bor (List ℕ)) → Bool
is_id id None = false
is_id id (Some own) = bytes_eq own.now id

-- A mapped file needs the build that the core gives for it, and that of the
-- executable that is used for it: this one's debug file is found by its build.
abbrev pub needs_id : List ℕ → MappedFile → Bool
needs_id id f = is_id id f.told || is_id id f.used

-- A file may be mapped under a name that a build has too: then the executable of that name is found by it.
abbrev pub is_named : List ℕ → MappedFile → Bool
is_named name f = bytes_eq f.name.now name

-- a core needs that build
abbrev pub needs : List ℕ → LiveCase → Bool
needs id c = list_any (needs_id id) (mapped_by c)

-- a core maps a file of that name
abbrev pub names : List ℕ → LiveCase → Bool
names name c = list_any (is_named name) (mapped_by c)

-- one of these needs that build
abbrev pub needed : List LiveCase → List ℕ → Bool
needed cores id = list_any (needs id) cores

-- one of these maps a file of that name
abbrev pub named : List LiveCase → List ℕ → Bool
named cores name = list_any (names name) cores

abbrev pub is_among : List ℕ → ℕ → Bool
is_among numbers n = list_any (λ m. m == n) numbers

-- a core that is not of these numbers
abbrev pub stays : List ℕ → LiveCase → Bool
stays gone c = is_core c && not (is_among gone (number c))

abbrev pub cores_that_stay : List ℕ → List LiveCase → List LiveCase
cores_that_stay gone cases = filter (stays gone) cases
