-- The facts of a core that a screen shows beside its notes, as values.
use Rattle.std.specs.Prelude.{◌≡◌, ◌==◌, if◌then◌else◌, ⊤, ℕ, suc, List, [], ◌∷◌, length, take, Option, None, Some}
use Rattle.std.specs.Option.{option_map}
use Rattle.address_space.specs.Source.{ExecutableView}
use Rattle.address_space.specs.Whole.{IsFrontOf}
use Rattle.build_replies.specs.Builds.{NamedId, builds_of, told_of}
use Rattle.build_replies.specs.Mapped.{answers_view}
use Rattle.disk_model.specs.declared.disk.Disk as disk
use Rattle.frame_replies.specs.FrameSources.{sources_of}
use Rattle.frame_replies.specs.FrameValues.{frames_of, frames_view}
use Rattle.frame_replies.specs.SourceWords.{lines_view}
use Rattle.frame_replies.specs.declared.values.FramesAnswer.{FramesAnswer}
use Rattle.intake.specs.Parts.{Parts}
use Rattle.frame_replies.specs.Line.{SourceView}
use Rattle.case_queries.specs.Seeing.{AreOfCase, SeesImage}
use Rattle.case_queries.specs.declared.facts.CoreFacts.{CoreFacts}

-- how many frames of a thread get their source lines: so many of the first thread, and none of another
abbrev pub lines_for : ℕ → ℕ → ℕ
lines_for lines t = if t == 0 then lines else 0

-- the source lines that were found; none, if the thread is not there
abbrev pub lines_found : Option FramesAnswer → List (Option SourceView)
lines_found None = []
lines_found (Some a) = lines_view a

-- These are the frames of a thread of the case's image, which begins with these bytes, has that size and has these mapped files, and the
-- source lines of so many frames, if it is the first thread.
abbrev pub AreOfThread : {D : Type 0} → disk.Ghosts D → Parts D → ℕ → List ℕ → ℕ → Option (List NamedId) → List ExecutableView → ℕ → ℕ → Option FramesAnswer → Type 0
AreOfThread g a seq front size told xs lines t u =
    (image : List ℕ) × AreOfCase g a seq image × IsFrontOf front size image × (told_of image ≡ told) × (frames_of image xs t ≡ option_map frames_view u)
    × (take (lines_for lines t) (sources_of image xs t) ≡ lines_found u)

-- those of the threads from that one on
abbrev pub AreFramesOf : {D : Type 0} → disk.Ghosts D → Parts D → ℕ → List ℕ → ℕ → Option (List NamedId) → List ExecutableView → ℕ → ℕ → List (Option FramesAnswer) → Type 0
AreFramesOf g a seq front size told xs lines t [] = ⊤
AreFramesOf g a seq front size told xs lines t (u ∷ us) = AreOfThread g a seq front size told xs lines t u × AreFramesOf g a seq front size told xs lines (suc t) us

-- The image of a case is seen, which begins with these bytes, has that size and has these mapped files: it has these frames of so many
-- threads, the source lines of so many frames of the first one, and these build IDs, with these executables.
pub record SaysFacts {D : Type 0} (g : disk.Ghosts D) (old : Parts D) (seq : ℕ) (front : List ℕ) (size : ℕ) (told : Option (List NamedId)) (xs : List ExecutableView) (threads lines : ℕ) (f : CoreFacts) (new : Parts D) : Type 0 where
  pub count : length f.unwound.items ≡ threads
  pub frames : AreFramesOf g old seq front size told xs lines 0 f.unwound.items
  pub image : List ℕ
  pub seen : SeesImage g old seq image new
  pub begins : IsFrontOf front size image
  pub states : told_of image ≡ told
  pub builds : builds_of image xs ≡ answers_view f.builds
