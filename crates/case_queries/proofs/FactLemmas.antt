-- The frames of threads, one thread after the other.
use Rattle.std.proofs.Common.{◌≡◌, ℕ, suc, ◌+◌, List, [], ◌∷◌, ◌++◌, length, Option, None, ap, subst, arith}
use Rattle.std.specs.Option.{option_map}
use Rattle.address_space.specs.Source.{ExecutableView}
use Rattle.build_replies.specs.Builds.{NamedId}
use Rattle.build_replies.specs.Choosing.{choice_for}
use Rattle.disk_model.specs.declared.disk.Disk as disk
use Rattle.frame_replies.specs.FrameSources.{sources_of, sources_with}
use Rattle.frame_replies.specs.FrameValues.{frames_of, thread_frames}
use Rattle.frame_replies.specs.Processes.{named_among, process_in, state_of}
use Rattle.frame_replies.specs.declared.values.FramesAnswer.{FramesAnswer}
use Rattle.intake.specs.Parts.{Parts}
use Rattle.case_queries.specs.Facts.{AreFramesOf, AreOfThread}

-- one thread more
pub frames_more : {D : Type 0} (g : disk.Ghosts D) (a : Parts D) (seq : ℕ) (front : List ℕ) (size : ℕ) (told : Option (List NamedId)) (xs : List ExecutableView) (lines t n : ℕ) (us : List (Option FramesAnswer)) (u : Option FramesAnswer)
    → AreFramesOf g a seq front size told xs lines t us → n ≡ t + length us → AreOfThread g a seq front size told xs lines n u → AreFramesOf g a seq front size told xs lines t (us ++ u ∷ [])
frames_more g a seq front size told xs lines t n [] u all is one =
    let here : n ≡ t = omega (arith, is) in
    (subst (λ k. AreOfThread g a seq front size told xs lines k u) here one, tt)
frames_more g a seq front size told xs lines t n (v ∷ vs) u all is one = (all.0, frames_more g a seq front size told xs lines (suc t) n vs u all.1 (omega (arith, is)) one)

-- a thread that is not there
pub frames_missing : (image : List ℕ) (xs : List ExecutableView) (t : ℕ) → state_of image t ≡ None → frames_of image xs t ≡ None
unfolding frames_of
frames_missing image xs t none = ap (option_map (thread_frames (process_in image (choice_for image xs)) (named_among (choice_for image xs)))) none

-- nor has it source lines
pub sources_missing : (image : List ℕ) (xs : List ExecutableView) (t : ℕ) → frames_of image xs t ≡ None → sources_of image xs t ≡ []
unfolding sources_of
sources_missing image xs t none = ap (sources_with (process_in image (choice_for image xs)).space.files (named_among (choice_for image xs))) none
