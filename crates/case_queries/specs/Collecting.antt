-- The executables that a line reads beside the image that it asks: with a core those whose names the core's NT_FILE has, and those under
-- the names of the builds that the core names; and the debug files of those that are used. With an executable it reads its debug file.
use Rattle.std.specs.Prelude.{◌≡◌, ◌⊎◌, ◌&&◌, ℕ, Bool, true, false, List, [], ◌∷◌, ◌++◌, filter, map, Result, Ok, Err, MatchResult}
use Rattle.address_space.specs.Source.{ExecutableView}
use Rattle.build_ids.specs.BuildId.{build_id_of}
use Rattle.build_replies.specs.Builds.{NamedId}
use Rattle.build_replies.specs.Choosing.{told_files}
use Rattle.build_replies.specs.NameWords.{is_one_of, name_of_debug, stored_names, wanted_debugs}
use Rattle.disk_model.specs.declared.disk.Disk as disk
use Rattle.intake.specs.Parts.{Parts, state_of}
use Rattle.intake.specs.declared.faults.ArchiveFault.{ArchiveFault}
use Rattle.intake.specs.declared.faults.ArchiveFault.TheVariants.{OutOfMemory}
use Rattle.journal_layout.specs.Case.{Case}
use Rattle.journal_layout.specs.declared.entry.Kind.{Kind}
use Rattle.journal_layout.specs.declared.entry.Kind.TheVariants.{Core, Exec}
use Rattle.memory_replies.specs.Memory.{is_mapped}
use Rattle.script_lines.specs.Queries.{QuerySaid, ask_at, ask_backtrace, ask_builds, ask_by_build, ask_frame, ask_line, ask_lines, ask_symbol_by_build, ask_unwind}
use Rattle.script_lines.specs.declared.query.BuildQuery.TheVariants.{Used}
use Rattle.case_queries.specs.Seeing.{LooksAt}

abbrev pub is_exec : Kind → Bool
is_exec Core = false
is_exec Exec = true

-- a stored executable whose name the core's NT_FILE has
abbrev pub is_wanted : List ℕ → Case → Bool
is_wanted b c = is_exec c.origin.kind && is_mapped b c.origin.name

-- the number and the name of an executable that is read
abbrev pub Wanted : Type 0
Wanted = ℕ × List ℕ

abbrev pub wanted_case : Case → Wanted
wanted_case c = (c.seq, c.origin.name)

-- those that are read for a core, in the order of the cases
abbrev pub wanted_of : List ℕ → List Case → List Wanted
wanted_of b cases = map wanted_case (filter (is_wanted b) cases)

-- the executables that have these names
abbrev pub is_named_by : List (List ℕ) → Case → Bool
is_named_by names c = is_exec c.origin.kind && is_one_of names c.origin.name

abbrev pub named_by : List (List ℕ) → List Case → List Wanted
named_by names cases = map wanted_case (filter (is_named_by names) cases)

-- An executable that is stored under the name of one of these mapped files, or of its build, if the core has that ID for the file.
abbrev pub is_for : List NamedId → Case → Bool
is_for told c = is_named_by (stored_names told) c

abbrev pub wanted_by : List NamedId → List Case → List Wanted
wanted_by told cases = map wanted_case (filter (is_for told) cases)

-- one that is stored under the name of the debug file of one of these executables, if a mapped file uses that executable
abbrev pub debugs_by : List NamedId → List ExecutableView → List Case → List Wanted
debugs_by told xs cases = named_by (wanted_debugs told xs) cases

-- the cases that are stored under the name of the debug file of an executable's build
abbrev pub own_debugs : List ℕ → List Case → List Wanted
own_debugs b cases = named_by (name_of_debug (build_id_of b)) cases

-- Those that a line reads with a core: the lines over call frames and builds choose by build, the others by path alone. With an executable
-- its debug file is read.
abbrev pub wanted_for : QuerySaid → List ℕ → List Case → List Wanted
wanted_for (ask_unwind thread) b cases = wanted_by (told_files b) cases
wanted_for (ask_lines thread) b cases = wanted_by (told_files b) cases
wanted_for (ask_frame thread frame) b cases = wanted_by (told_files b) cases
wanted_for (ask_builds query) b cases = wanted_by (told_files b) cases
wanted_for (ask_by_build query) b cases = wanted_by (told_files b) cases
wanted_for (ask_symbol_by_build address) b cases = own_debugs b cases
wanted_for (ask_line address) b cases = own_debugs b cases
wanted_for q b cases = wanted_of b cases

-- The debug files that a line reads after these executables: the lines
-- over call frames, the line `used`, and `at` and `bt` by build read them.
abbrev pub debugs_for : QuerySaid → List ℕ → List Case → List ExecutableView → List Wanted
debugs_for (ask_unwind thread) b cases xs = debugs_by (told_files b) xs cases
debugs_for (ask_lines thread) b cases xs = debugs_by (told_files b) xs cases
debugs_for (ask_frame thread frame) b cases xs = debugs_by (told_files b) xs cases
debugs_for (ask_builds Used) b cases xs = debugs_by (told_files b) xs cases
debugs_for (ask_by_build (ask_at address)) b cases xs = debugs_by (told_files b) xs cases
debugs_for (ask_by_build (ask_backtrace thread)) b cases xs = debugs_by (told_files b) xs cases
debugs_for q b cases xs = []

-- an executable, and those after it
abbrev pub with_executable : List ℕ → List ℕ → Result (List ExecutableView) ArchiveFault → Result (List ExecutableView) ArchiveFault
with_executable path image (Ok others) = Ok (record { path = path; image = image } ∷ others)
with_executable path image (Err f) = Err f

-- there is no memory to hold them
abbrev pub RunsShort : {D : Type 0} → Parts D → Result (List ExecutableView) ArchiveFault → Parts D → Type 0
RunsShort old r new = (r ≡ Err OutOfMemory) × (new ≡ old)

-- They are read one after the other, to the last, or to the first that can't be read or held.
abbrev pub Collects : {D : Type 0} → disk.Ghosts D → Parts D → List Wanted → Result (List ExecutableView) ArchiveFault → Parts D → Type 0
Collects g old [] r new = (r ≡ Ok []) × (new ≡ old)
Collects {D} g old (x ∷ xs) r new =
    (one : Result (List ℕ) ArchiveFault) × (mid : Parts D) × LooksAt g old x.0 one mid
    × MatchResult one
    (λ image. RunsShort mid r new ⊎ ((others : Result (List ExecutableView) ArchiveFault) × Collects g mid xs others new × (r ≡ with_executable x.1 image others)))
    (λ f. (r ≡ Err f) × (new ≡ mid))

abbrev pub CollectsAll : {D : Type 0} → disk.Ghosts D → Parts D → List Wanted → Result (List ExecutableView) ArchiveFault → Parts D → Type 0
CollectsAll g old xs r new = RunsShort old r new ⊎ Collects g old xs r new

-- The cases that are read for a line, and their images.
pub record Gathered : Type 0 where
  pub cases : List Wanted
  pub images : List ExecutableView

-- the executables of these cases, and those that are read after them
abbrev pub gathered_with : List Wanted → List ExecutableView → List Wanted → Result (List ExecutableView) ArchiveFault → Result Gathered ArchiveFault
gathered_with ws xs ds (Ok more) = Ok (record { cases = ws ++ ds; images = xs ++ more })
gathered_with ws xs ds (Err f) = Err f

-- Which debug files are read is known by the executables.
abbrev pub GathersMore : {D : Type 0} → disk.Ghosts D → Parts D → List Wanted → (List ExecutableView → List Wanted) → Result (List ExecutableView) ArchiveFault → Result Gathered ArchiveFault → Parts D → Type 0
GathersMore g mid ws debugs (Ok xs) r new = (more : Result (List ExecutableView) ArchiveFault) × CollectsAll g mid (debugs xs) more new × (r ≡ gathered_with ws xs (debugs xs) more)
GathersMore g mid ws debugs (Err f) r new = (r ≡ Err f) × (new ≡ mid)

-- The executables of these cases are read, and then these debug files; or why one of them can't be.
abbrev pub Gathers : {D : Type 0} → disk.Ghosts D → Parts D → List Wanted → (List ExecutableView → List Wanted) → Result Gathered ArchiveFault → Parts D → Type 0
Gathers {D} g old ws debugs r new = (first : Result (List ExecutableView) ArchiveFault) × (mid : Parts D) × CollectsAll g old ws first mid × GathersMore g mid ws debugs first r new

-- those of a line over a core
abbrev pub GathersFor : {D : Type 0} → disk.Ghosts D → Parts D → QuerySaid → List ℕ → Result Gathered ArchiveFault → Parts D → Type 0
GathersFor g old q b r new = Gathers g old (wanted_for q b (state_of old).cases) (debugs_for q b (state_of old).cases) r new
