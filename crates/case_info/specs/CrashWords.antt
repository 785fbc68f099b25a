-- The results of a search for the crashes of cores, as the code keeps them.
use Rattle.std.specs.Prelude.{◌≡◌, ◌++◌, ◌≤◌, ◌<◌, ℕ, List, [], ◌∷◌, length, map, take, Option, None, Some, Ok}
use Rattle.address_space.specs.Source.{ExecutableView}
use Rattle.build_replies.specs.Builds.{NamedId}
use Rattle.core_crashes.specs.CaseReading.{IsOnlyRead}
use Rattle.case_queries.specs.Collecting.{Collects}
use Rattle.case_queries.specs.CollectingWords.{executable_view, read_as}
use Rattle.case_queries.specs.Facts.{SaysFacts}
use Rattle.case_queries.specs.declared.collect_executables.StoredExecutable.{StoredExecutable}
use Rattle.case_queries.specs.declared.facts.CoreFacts.{CoreFacts}
use Rattle.core_crashes.specs.Crashes.{CrashedSaid}
use Rattle.core_crashes.specs.Views.{crashed_said}
use Rattle.disk_model.specs.declared.disk.Disk as disk
use Rattle.intake.specs.Parts.{Parts, state_of}
use Rattle.case_info.specs.Crashes.{IsCrashBy, SeesCrash, SeesCrashes}
use Rattle.case_info.specs.declared.crash_search.CrashSearch.{CrashSearch}

-- Reading these executables may still give these, with no byte read and nothing changed.
abbrev pub StayRead : {D : Type 0} → disk.Ghosts D → Parts D → List StoredExecutable → Type 0
StayRead g a xs = Collects g a (map read_as xs) (Ok (map executable_view xs)) a

-- With these executables the facts of the first thread of a core are found, of which these are the first bytes and the mapped files. The crash is
-- by these facts.
pub record CrashesBy {D : Type 0} (g : disk.Ghosts D) (old : Parts D) (seq : ℕ) (front : List ℕ) (size : ℕ) (told : Option (List NamedId)) (xs : List ExecutableView) (threads : ℕ) (crash : CrashedSaid) (new : Parts D) : Type 0 where
  pub facts : CoreFacts
  pub walked : Parts D
  pub says : SaysFacts g old seq front size told xs threads 0 facts walked
  pub crashes : IsCrashBy g walked seq size front facts crash new

-- the crash of a core is seen; or no crash is, and the archive is only read
abbrev pub TriesCrash : {D : Type 0} → disk.Ghosts D → Parts D → ℕ → Option CrashedSaid → Parts D → Type 0
TriesCrash g old seq None new = IsOnlyRead g old new
TriesCrash g old seq (Some crash) new = SeesCrash g old seq crash new

-- These are the crashes of the first cores of an order, one after the other. After the last of all nothing more is read.
pub record HasFound {D : Type 0} (g : disk.Ghosts D) (first : Parts D) (order : List ℕ) (crashes : List CrashedSaid) (now : Parts D) : Type 0 where
  pub last : Parts D
  pub sees : SeesCrashes g first (take (length crashes) order) crashes last
  pub reads : IsOnlyRead g last now
  pub ends : length crashes ≡ length order → now ≡ last

abbrev pub crashes_in : CrashSearch → List CrashedSaid
crashes_in s = map crashed_said s.found.items

-- one more crash is put to those of a search
pub record HasAdded (old : CrashSearch) (crash : CrashedSaid) (new : CrashSearch) : Type 0 where
  pub order : new.order ≡ old.order
  pub stored : new.stored ≡ old.stored
  pub found : crashes_in new ≡ crashes_in old ++ crash ∷ []

-- The search goes on in an archive whose cases stay: it found no less.
pub record GoesOn {D : Type 0} (g : disk.Ghosts D) (old : Parts D) (before after : CrashSearch) (new : Parts D) : Type 0 where
  pub order : after.order ≡ before.order
  pub stored : after.stored ≡ before.stored
  pub more : length (crashes_in before) ≤ length (crashes_in after)
  pub cases : (state_of new).cases ≡ (state_of old).cases
  pub found : (first : Parts D) → HasFound g first before.order.items (crashes_in before) old → HasFound g first before.order.items (crashes_in after) new

-- the crash of a core is found so, and the search goes on from there
pub record GoesOnBy {D : Type 0} (g : disk.Ghosts D) (old : Parts D) (seq : ℕ) (front : List ℕ) (size : ℕ) (told : Option (List NamedId)) (xs : List ExecutableView) (threads : ℕ) (before after : CrashSearch) (new : Parts D) : Type 0 where
  pub crash : CrashedSaid
  pub mid : Parts D
  pub by : CrashesBy g old seq front size told xs threads crash mid
  pub next : CrashSearch
  pub adds : HasAdded before crash next
  pub on : GoesOn g mid next after new

-- it found one more at least
abbrev pub FindsMore : {D : Type 0} → disk.Ghosts D → Parts D → CrashSearch → CrashSearch → Parts D → Type 0
FindsMore g old before after new = GoesOn g old before after new × (length (crashes_in before) < length (crashes_in after))
