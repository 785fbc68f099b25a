-- What is shown of a thread's frames.
use Rattle.std.proofs.Common.{◌≡◌, ℕ, List, [], ◌∷◌, ◌++◌, Option, None, Some, Result, Ok, Err, refl, sym, ap, ◌∙◌}
use Rattle.std.proofs.lemmas.Bool.{false≢true}
use Rattle.std.specs.Prelude.{is_ok, slice_get}
use Rattle.address_space.specs.Source.{ExecutableView}
use Rattle.build_replies.specs.Choosing.{choice_for}
use Rattle.image_replies.specs.Lines.{numbered_lines}
use Rattle.memory_replies.specs.Memory.{memory_of}
use Rattle.unwind.specs.Code.{ProcessView}
use Rattle.unwind.specs.Stands.{EachStands}
use Rattle.unwind.specs.Unwinding.{IsUnwoundFrom, first_frame, most, stop_of, unwound}
use Rattle.unwind.specs.declared.faults.Stop.{Stop}
use Rattle.unwind.specs.declared.frame.Frame.{Frame}
use Rattle.frame_replies.specs.FrameLines.{frame_line, stop_line, unwind_answer, unwound_answer, unwound_lines}
use Rattle.frame_replies.specs.FrameRegisters.{frame_answer, one_frame_answer, registers_of}
use Rattle.frame_replies.specs.Processes.{named_among, of_thread, process_in, state_of}
use Rattle.frame_replies.specs.Shown.{IsShown}

-- the frames that unwind finds are a first one and those after it
abbrev pub Found : Type 0
Found = (p : ProcessView) (desc : List ℕ) → (behind : List Frame) × (unwound p desc ≡ first_frame desc ∷ behind) × IsUnwoundFrom p most (first_frame desc) behind (stop_of p desc)

abbrev pub Stands : Type 0
Stands = (p : ProcessView) (n : ℕ) (f : Frame) (behind : List Frame) (stop : Stop) → IsUnwoundFrom p n f behind stop → EachStands p f behind

-- an answer that has lines
abbrev Shows : List ℕ → List ExecutableView → ℕ → List ℕ → Type 0
Shows b xs t lines = (desc : List ℕ) × (behind : List Frame) × (stop : Stop) × (state_of b t ≡ Some desc) × IsShown b xs t lines desc behind stop

lines_of : Result (List ℕ) (List ℕ) → List ℕ
lines_of (Ok lines) = lines
lines_of (Err reason) = []

module _ (found : Found) (stands : Stands) (b : List ℕ) (xs : List ExecutableView) (t : ℕ) where
  lines_are : (desc lines : List ℕ) (behind : List Frame) → unwound (process_in b (choice_for b xs)) desc ≡ first_frame desc ∷ behind → unwound_answer b (choice_for b xs) desc ≡ Ok lines
      → lines ≡ numbered_lines (frame_line (memory_of b (choice_for b xs).used) (named_among (choice_for b xs))) 0 (first_frame desc ∷ behind) ++ stop_line (stop_of (process_in b (choice_for b xs)) desc)
  unfolding unwound_lines process_in lines_of
  lines_are desc lines behind is told =
      sym (ap lines_of told) ∙ ap (λ (fs : List Frame). numbered_lines (frame_line (memory_of b (choice_for b xs).used) (named_among (choice_for b xs))) 0 fs ++ stop_line (stop_of (process_in b (choice_for b xs)) desc)) is

  registers_are : (desc : List ℕ) (behind : List Frame) (i : ℕ) → state_of b t ≡ Some desc → unwound (process_in b (choice_for b xs)) desc ≡ first_frame desc ∷ behind
      → frame_answer b xs t i ≡ registers_of (slice_get (first_frame desc ∷ behind) i)
  unfolding frame_answer
  registers_are desc behind i there is =
      ap (of_thread (one_frame_answer b (choice_for b xs) i)) there ∙ ap (λ (fs : List Frame). registers_of (slice_get fs i)) is

  shown_of : (o : Option (List ℕ)) (lines : List ℕ) → state_of b t ≡ o → of_thread (unwound_answer b (choice_for b xs)) o ≡ Ok lines → Shows b xs t lines
  shown_of None lines there told = absurd (false≢true (ap is_ok told))
  shown_of (Some desc) lines there told =
      let p = process_in b (choice_for b xs) in
      let f = found p desc in (
        desc,
        f.0,
        stop_of p desc,
        there,
        record {
          told = lines_are desc lines f.0 f.1 told;
          unwound = f.2;
          stands = stands p most (first_frame desc) f.0 (stop_of p desc) f.2;
          registers = λ i. registers_are desc f.0 i there f.1;
        },
      )

  pub is_shown : (lines : List ℕ) → unwind_answer b xs t ≡ Ok lines → Shows b xs t lines
  unfolding unwind_answer
  is_shown lines told = shown_of (state_of b t) lines refl told
