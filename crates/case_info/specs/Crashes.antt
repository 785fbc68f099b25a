-- The crashes of cores of an archive.
use Rattle.std.specs.Prelude.{◌≡◌, ◌++◌, false, ℕ, List, [], ◌∷◌, length, map, codes, slice_get, Option, None, Some, Result, Ok, Err, Vec}
use Rattle.std.specs.Global.{Global}
use Rattle.std.specs.List.Sorted.{IsNonDecreasingBy, IsPermutation}
use Rattle.std.specs.Option.{option_and_then}
use Rattle.address_space.specs.Source.{ExecutableView}
use Rattle.build_replies.specs.Builds.{NamedId, told_of, told_or_none}
use Rattle.build_replies.specs.Mapped.{build_view}
use Rattle.case_queries.specs.Collecting.{CollectsAll, debugs_by, wanted_by}
use Rattle.case_queries.specs.Facts.{SaysFacts}
use Rattle.case_queries.specs.Seeing.{SeesImage}
use Rattle.case_queries.specs.declared.facts.CoreFacts.{CoreFacts}
use Rattle.case_screens.specs.Core.{notes_in, notes_read}
use Rattle.core_crashes.specs.Crashes.{CrashedSaid, crash_by_name, crash_of, field_of}
use Rattle.core_crashes.specs.Reading.{Handles}
use Rattle.disk_model.specs.declared.disk.Disk as disk
use Rattle.frame_replies.specs.FrameValues.{frames_view}
use Rattle.frame_replies.specs.declared.values.FramesAnswer.{FramesAnswer}
use Rattle.image_replies.specs.CoreWords.{core_bytes}
use Rattle.image_replies.specs.declared.core_image.CoreFault.{CoreFault}
use Rattle.image_replies.specs.declared.core_image.CoreImage.{CoreImage}
use Rattle.intake.specs.Parts.{Parts, state_of}
use Rattle.intake.specs.Step.{HasCase}
use Rattle.journal_layout.specs.Case.{Case}
use Rattle.case_info.specs.Screens.{shown_count}
use Rattle.build_replies.specs.declared.answers.BuildAnswer.{BuildAnswer}
use Rattle.case_info.specs.declared.case.InfoWords.{InfoWords}

-- the frames of one thread are found, of the first
abbrev pub first_thread : InfoWords
first_thread = record { all_threads = false; is_json = false }

abbrev pub same_frames : Option FramesAnswer → Option FramesAnswer
same_frames o = o

-- those of the first thread, if there is one
abbrev pub first_frames : CoreFacts → Option FramesAnswer
first_frames f = option_and_then same_frames (slice_get f.unwound.items 0)

-- the builds of its mapped files; an empty list, if it has no NT_FILE
abbrev pub rows_in : Option (Vec BuildAnswer Global) → List BuildAnswer
rows_in None = []
rows_in (Some v) = v.items

-- a core of which no frame is known, for this reason
abbrev pub IsCrashByName : {D : Type 0} → Parts D → ℕ → List ℕ → CrashedSaid → Type 0
IsCrashByName a seq reason crash = (c : Case) × HasCase (state_of a) seq c × (crash ≡ crash_by_name c reason)

-- since its headers or notes have a fault
abbrev pub IsRefusedBy : {D : Type 0} → Parts D → ℕ → CoreFault → CrashedSaid → Type 0
IsRefusedBy a seq fault crash = IsCrashByName a seq (field_of fault) crash

-- The signal that was being handled is found, by these frames, and the crash is that of the core.
abbrev pub CrashesWith : {D : Type 0} → disk.Ghosts D → Parts D → ℕ → ℕ → List ℕ → CoreFacts → Option FramesAnswer → CrashedSaid → Parts D → Type 0
CrashesWith g old seq size front facts None crash new = (new ≡ old) × IsCrashByName old seq (codes "NoThread") crash
CrashesWith g old seq size front facts (Some frames) crash new =
    (handled : Option ℕ) × Handles g old seq size front (frames_view frames) handled new
    × (c : Case) × HasCase (state_of new) seq c × (crash ≡ crash_of c front (frames_view frames) handled (map build_view (rows_in facts.builds)))

-- by the frames of the thread that dumped
abbrev pub IsCrashBy : {D : Type 0} → disk.Ghosts D → Parts D → ℕ → ℕ → List ℕ → CoreFacts → CrashedSaid → Parts D → Type 0
IsCrashBy g old seq size front facts crash new = CrashesWith g old seq size front facts (first_frames facts) crash new

-- The executables that are stored for the mapped files of a core, by their names or by the builds that the core has for them, are read, and then the debug
-- files of those that are used. With them the frames of the first thread are found, and the build IDs of the files, of the image that was seen before. The
-- crash is by these.
pub record FindsCrash {D : Type 0} (g : disk.Ghosts D) (old mid : Parts D) (seq : ℕ) (image front : List ℕ) (crash : CrashedSaid) (new : Parts D) : Type 0 where
  pub told : Option (List NamedId)
  pub states : told_of image ≡ told
  pub executables : List ExecutableView
  pub read : Parts D
  pub collects : CollectsAll g mid (wanted_by (told_or_none told) (state_of mid).cases) (Ok executables) read
  pub debug_files : List ExecutableView
  pub all : Parts D
  pub debugs : CollectsAll g read (debugs_by (told_or_none told) executables (state_of read).cases) (Ok debug_files) all
  pub facts : CoreFacts
  pub walked : Parts D
  pub says : SaysFacts g old seq front (length image) told (executables ++ debug_files) (shown_count first_thread (notes_in image)) 0 facts walked
  pub crashes : IsCrashBy g walked seq (length image) front facts crash new

-- nothing more is read of a core that has a fault
abbrev pub AsksCrash : {D : Type 0} → disk.Ghosts D → Parts D → Parts D → ℕ → List ℕ → Result CoreImage CoreFault → CrashedSaid → Parts D → Type 0
AsksCrash g old mid seq image (Ok core) crash new = FindsCrash g old mid seq image (core_bytes core) crash new
AsksCrash g old mid seq image (Err fault) crash new = (new ≡ mid) × IsRefusedBy mid seq fault crash

-- The image of a core is seen, and this is its crash.
abbrev pub SeesCrash : {D : Type 0} → disk.Ghosts D → Parts D → ℕ → CrashedSaid → Parts D → Type 0
SeesCrash {D} g old seq crash new =
    (image : List ℕ) × (mid : Parts D) × SeesImage g old seq image mid
    × (core : Result CoreImage CoreFault) × (notes_read core ≡ notes_in image) × AsksCrash g old mid seq image core crash new

-- These are the crashes of cores, one after the other.
abbrev pub SeesCrashes : {D : Type 0} → disk.Ghosts D → Parts D → List ℕ → List CrashedSaid → Parts D → Type 0
SeesCrashes g old [] [] new = new ≡ old
SeesCrashes {D} g old (seq ∷ seqs) (crash ∷ crashes) new = (mid : Parts D) × SeesCrash g old seq crash mid × SeesCrashes g mid seqs crashes new
SeesCrashes g old _ _ new = ⊥

-- The crashes of cores are found. The cores are looked at one after the other, each of them once, in an order that nothing is said of. Their
-- crashes stand in the order of the numbers of their cases.
pub record FindsEach {D : Type 0} (g : disk.Ghosts D) (old : Parts D) (seqs : List ℕ) (crashes : List CrashedSaid) (new : Parts D) : Type 0 where
  pub order : List ℕ
  pub each : IsPermutation seqs order
  pub seen : List CrashedSaid
  pub sees : SeesCrashes g old order seen new
  pub all : IsPermutation seen crashes
  pub rising : IsNonDecreasingBy (λ (crash : CrashedSaid). crash.number) crashes
