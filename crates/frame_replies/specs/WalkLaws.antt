-- What a walk through the frames of a thread has found is what is told of them.
use Rattle.std.proofs.Common.{◌≡◌, ℕ, ◌+◌, Bool, List, [], ◌∷◌, ◌++◌, map, Option, None, Some, Ok, Err, refl, sym, ap, subst, ◌∙◌}
use Rattle.std.proofs.lemmas.List.{append-nil}
use Rattle.std.specs.Prelude.{codes, slice_get}
use Rattle.std.specs.List.{filter}
use Rattle.std.specs.Option.{option_map}
use Rattle.address_space.specs.Source.{ExecutableView, Space}
use Rattle.address_space.specs.SpaceWords.{attached_view, space_of}
use Rattle.address_space.specs.Whole.{space_in}
use Rattle.build_replies.specs.Choosing.{Choice, choice_for}
use Rattle.core_notes.specs.FileList.{FileView}
use Rattle.elf_view.specs.Header.{SegmentView, segments_of}
use Rattle.image_replies.specs.Lines.{numbered_lines}
use Rattle.memory_replies.specs.Memory.{is_attached, mapped_files, memory_of}
use Rattle.memory_replies.specs.Naming.{NamedFile}
use Rattle.unwind.specs.Code.{CodeFile, ProcessView}
use Rattle.unwind.specs.Unwinding.{unwound, stop_of}
use Rattle.unwind.specs.declared.faults.Stop.{Stop}
use Rattle.unwind.specs.declared.frame.Frame.{Frame}
use Rattle.frame_replies.specs.FrameLines.{printed, stop_line, unwind_answer, unwound_answer, unwound_lines, value_line}
use Rattle.frame_replies.specs.FrameSources.{frame_source, lines_answer, printed_sources, shown_answer, shown_line, sources_of, sources_with}
use Rattle.frame_replies.specs.FrameRegisters.{frame_answer, one_frame_answer, registers_of}
use Rattle.frame_replies.specs.FrameValues.{FrameValue, ThreadFrames, frame_value, frames_of, thread_frames, value_with}
use Rattle.frame_replies.specs.ProcessWords.{described_view, named_in}
use Rattle.frame_replies.specs.Processes.{named_among, of_thread, process_in, start_of, state_of, with_code}
use Rattle.frame_replies.specs.Walking.{AreMarked, BeginsAt, HasFound, IsProcessOf, IsWalkOf, IsWalked, WalksOn, found, process_by, walked_line, walked_value}
use Rattle.frame_replies.specs.declared.lines.Shown.{Shown}
use Rattle.frame_replies.specs.declared.lines.Shown.TheVariants.{Stack, Source}
use Rattle.frame_replies.specs.declared.process.UnwoundProcess.{UnwoundProcess}
use Rattle.frame_replies.specs.declared.walk.Walk.{Walk}
use Rattle.frame_replies.specs.declared.walk.WalkedFrame.{WalkedFrame}

-- lines that are printed from values
pub numbered_map : {A B : Type 0} → (line : ℕ → B → List ℕ) (value : A → B) (i : ℕ) (xs : List A) → numbered_lines (λ k x. line k (value x)) i xs ≡ numbered_lines line i (map value xs)
numbered_map line value i [] = refl
numbered_map line value i (x ∷ xs) = ap (λ (t : List ℕ). line i (value x) ++ t) (numbered_map line value (i + 1) xs)

-- the values of the frames that were found
values_same : (p : ProcessView) (named : List NamedFile) (ws : List WalkedFrame) → AreMarked p ws → map (walked_value p.space.files named) ws ≡ map (frame_value p.space named) (found ws)
values_same p named [] marked = refl
values_same p named (w ∷ ws) marked =
    ap (λ (at_signal : Bool). value_with p.space.files named at_signal w.frame ∷ map (walked_value p.space.files named) ws) marked.0
    ∙ ap (λ (vs : List FrameValue). frame_value p.space named w.frame ∷ vs) (values_same p named ws marked.1)

printed_of : (b : List ℕ) (choice : Choice) (o : Option (List ℕ)) → of_thread (unwound_answer b choice) o ≡ printed (option_map (thread_frames (process_in b choice) (named_among choice)) o)
unfolding unwound_lines
printed_of b choice None = refl
printed_of b choice (Some desc) =
    let p = process_in b choice in
    ap (λ (ls : List ℕ). Ok (ls ++ stop_line (stop_of p desc))) (numbered_map value_line (frame_value p.space (named_among choice)) 0 (unwound p desc))

-- the lines of `unwind` are those of the values
pub unwind_printed : (b : List ℕ) (xs : List ExecutableView) (t : ℕ) → unwind_answer b xs t ≡ printed (frames_of b xs t)
unfolding unwind_answer frames_of
unwind_printed b xs t = printed_of b (choice_for b xs) (state_of b t)

abbrev made : List FrameValue → Stop → Option ThreadFrames
made frames stop = Some (record { frames = frames; stop = stop })

-- all were found
all_found : (p : ProcessView) (desc : List ℕ) (w : Walk) (stop : Stop) → IsWalked p desc w → HasFound w stop → unwound p desc ≡ found w.frames.items
all_found p desc w stop walked ended = walked.frames ∙ ap (λ (fs : List Frame). found w.frames.items ++ fs) (ended p).frames ∙ append-nil (found w.frames.items)

module _ (image : List ℕ) (xs : List ExecutableView) (t : ℕ) (p : UnwoundProcess) (w : Walk) (stop : Stop) (is : IsWalkOf image xs t p w) (ended : HasFound w stop) where
  -- the values of the frames that were found are those of the thread
  pub walk_values : made (map (walked_value (space_of p.space).files (named_in p.executables.now.images)) w.frames.items) stop ≡ frames_of image xs t
  unfolding frames_of
  walk_values =
      let choice = choice_for image xs in
      let q = process_in image choice in
      let files : (space_of p.space).files ≡ q.space.files = ap (λ (r : ProcessView). r.space.files) is.process in
      ap (λ (fs : List FileView). made (map (walked_value fs (named_in p.executables.now.images)) w.frames.items) stop) files
      ∙ ap (λ (named : List NamedFile). made (map (walked_value q.space.files named) w.frames.items) stop) is.named
      ∙ ap (λ (vs : List FrameValue). made vs stop) (values_same q (named_among choice) w.frames.items is.walked.marked)
      ∙ ap (λ (fs : List Frame). made (map (frame_value q.space (named_among choice)) fs) stop) (sym (all_found q is.desc w stop is.walked ended))
      ∙ ap (λ s. made (map (frame_value q.space (named_among choice)) (unwound q is.desc)) s) (sym (is.walked.stops ∙ (ended q).stop))
      ∙ sym (ap (option_map (thread_frames q (named_among choice))) is.state)

  -- their source lines are those of the thread
  pub walk_sources : map (frame_source (space_of p.space).files (named_in p.executables.now.images)) (map (walked_value (space_of p.space).files (named_in p.executables.now.images)) w.frames.items) ≡ sources_of image xs t
  unfolding sources_of
  walk_sources =
      let q = process_in image (choice_for image xs) in
      let files = (space_of p.space).files in
      let named = named_in p.executables.now.images in
      let same : files ≡ q.space.files = ap (λ (r : ProcessView). r.space.files) is.process in
      ap (sources_with files named) walk_values
      ∙ ap (λ (fs : List FileView). sources_with fs named (frames_of image xs t)) same
      ∙ ap (λ (ns : List NamedFile). sources_with q.space.files ns (frames_of image xs t)) is.named

  -- and their lines are those of the answer
  lines_told : Ok (numbered_lines (walked_line Source (space_of p.space).files (named_in p.executables.now.images)) 0 w.frames.items ++ stop_line stop) ≡ lines_answer image xs t
  unfolding lines_answer
  lines_told =
      let choice = choice_for image xs in
      let files = (space_of p.space).files in
      let named = named_in p.executables.now.images in
      let same : files ≡ (process_in image choice).space.files = ap (λ (r : ProcessView). r.space.files) is.process in
      ap (λ (ls : List ℕ). Ok (ls ++ stop_line stop)) (numbered_map (shown_line Source files named) (walked_value files named) 0 w.frames.items)
      ∙ ap (printed_sources files named) walk_values
      ∙ ap (λ (fs : List FileView). printed_sources fs named (frames_of image xs t)) same
      ∙ ap (λ (ns : List NamedFile). printed_sources (process_in image choice).space.files ns (frames_of image xs t)) is.named

  unwind_told : Ok (numbered_lines (walked_line Stack (space_of p.space).files (named_in p.executables.now.images)) 0 w.frames.items ++ stop_line stop) ≡ unwind_answer image xs t
  unwind_told =
      ap (λ (ls : List ℕ). Ok (ls ++ stop_line stop)) (numbered_map value_line (walked_value (space_of p.space).files (named_in p.executables.now.images)) 0 w.frames.items)
      ∙ ap printed walk_values
      ∙ sym (unwind_printed image xs t)

  pub shown_told : (shown : Shown) → Ok (numbered_lines (walked_line shown (space_of p.space).files (named_in p.executables.now.images)) 0 w.frames.items ++ stop_line stop) ≡ shown_answer shown image xs t
  shown_told Stack = unwind_told
  shown_told Source = lines_told

  -- so are the registers of one of them
  pub frame_told : (i : ℕ) (o : Option Frame) → o ≡ slice_get (found w.frames.items) i → registers_of o ≡ frame_answer image xs t i
  unfolding frame_answer
  frame_told i o at =
      ap registers_of (at ∙ ap (λ (fs : List Frame). slice_get fs i) (sym (all_found (process_in image (choice_for image xs)) is.desc w stop is.walked ended)))
      ∙ sym (ap (of_thread (one_frame_answer image (choice_for image xs) i)) is.state)

-- a thread that is not there
module _ (image : List ℕ) (xs : List ExecutableView) (t : ℕ) (none : state_of image t ≡ None) where
  pub unwind_missing : Err (codes "NoThread") ≡ unwind_answer image xs t
  unfolding unwind_answer
  unwind_missing = sym (ap (of_thread (unwound_answer image (choice_for image xs))) none)

  pub lines_missing : Err (codes "NoThread") ≡ lines_answer image xs t
  unfolding lines_answer frames_of
  lines_missing =
      let choice = choice_for image xs in
      sym (ap (λ (state : Option (List ℕ)). printed_sources (process_in image choice).space.files (named_among choice) (option_map (thread_frames (process_in image choice) (named_among choice)) state)) none)

  pub shown_missing : (shown : Shown) → Err (codes "NoThread") ≡ shown_answer shown image xs t
  shown_missing Stack = unwind_missing
  shown_missing Source = lines_missing

  pub frame_missing : (i : ℕ) → Err (codes "NoThread") ≡ frame_answer image xs t i
  unfolding frame_answer
  frame_missing i = sym (ap (of_thread (one_frame_answer image (choice_for image xs) i)) none)

process_made : List SegmentView → List FileView → List ExecutableView → List CodeFile → List ExecutableView → Option ℕ → ProcessView
process_made segments files attached executables others start = record { space = record { segments = segments; files = files; executables = attached }; executables = executables; others = others; start = start }

process_of_space : Space → List ℕ → List CodeFile → List ExecutableView → Option ℕ → ProcessView
process_of_space space image executables others start = record { space = space_in image space; executables = executables; others = others; start = start }

-- the process of an image, of which the core is the first bytes
process_is : (front image : List ℕ) (choice : Choice) (p : UnwoundProcess) → IsProcessOf front choice p → mapped_files front ≡ mapped_files image → start_of front ≡ start_of image → process_by p image ≡ process_in image choice
unfolding process_in memory_of process_made process_of_space
process_is front image choice p is files starts =
    let attached = filter is_attached choice.used in
    let codes = map (with_code choice.debugs) attached in
    ap (λ (s : Space). process_of_space s image (map described_view p.executables.now.described.items) (map attached_view p.others.items) p.start) is.memory
    ∙ ap (λ (fs : List FileView). process_made (segments_of image) fs attached (map described_view p.executables.now.described.items) (map attached_view p.others.items) p.start) files
    ∙ ap (λ (xs : List CodeFile). process_made (segments_of image) (mapped_files image) attached xs (map attached_view p.others.items) p.start) is.executables.described
    ∙ ap (λ (xs : List ExecutableView). process_made (segments_of image) (mapped_files image) attached codes xs p.start) is.others
    ∙ ap (process_made (segments_of image) (mapped_files image) attached codes choice.others) (is.start ∙ starts)

-- a walk that begins
pub walk_begins : (front image : List ℕ) (xs : List ExecutableView) (choice : Choice) (t : ℕ) (p : UnwoundProcess) (w : Walk) → IsProcessOf front choice p → choice ≡ choice_for image xs → mapped_files front ≡ mapped_files image → start_of front ≡ start_of image → state_of front t ≡ state_of image t → BeginsAt (state_of front t) w → IsWalkOf image xs t p w
walk_begins front image xs choice t p w is own files starts states begins = record {
  process = process_is front image choice p is files starts ∙ ap (process_in image) own;
  named = is.executables.named ∙ ap (λ (c : Choice). named_among c) own;
  desc = begins.0;
  state = sym states ∙ begins.1;
  walked = begins.2 (process_in image (choice_for image xs));
}

-- and one that goes on
pub walk_goes_on : (image : List ℕ) (xs : List ExecutableView) (t : ℕ) (p : UnwoundProcess) (old new : Walk) → IsWalkOf image xs t p old → WalksOn (process_by p image) old new → IsWalkOf image xs t p new
walk_goes_on image xs t p old new is goes = record {
  process = is.process;
  named = is.named;
  desc = is.desc;
  state = is.state;
  walked = subst (λ (q : ProcessView). IsWalked q is.desc new) is.process (goes is.desc (subst (λ (q : ProcessView). IsWalked q is.desc old) (sym is.process) is.walked));
}
