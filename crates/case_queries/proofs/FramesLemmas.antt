-- What is shown of the frames of a thread of a core that is read piece by piece.
use Rattle.std.proofs.Common.{◌≡◌, ◌≤◌, inl, inr, ℕ, ◌-◌, List, [], ◌++◌, take, length, replicate, Option, None, Some, Ok, Err, refl, ap, sym, subst, ◌∙◌, arith}
use Rattle.std.specs.Prelude.{codes, slice_get}
use Rattle.std.proofs.lemmas.List.{length-append, length-replicate}
use Rattle.std.proofs.Math.Seq.{take-append_seam}
use Rattle.disk_model.specs.declared.disk.Disk as disk
use Rattle.elf_view.specs.NoteList.{NoteView}
use Rattle.elf_view.specs.Sound.{IsHeaderWhole, IsSound}
use Rattle.elf_view.specs.ViewWords.{notes_of}
use Rattle.elf_view.specs.declared.faults.Want.{Want}
use Rattle.elf_view.specs.declared.faults.Want.TheVariants.{Core}
use Rattle.core_notes.specs.Typed.{all_descs, first_desc}
use Rattle.address_space.specs.Source.{ExecutableView}
use Rattle.address_space.specs.SpaceWords.{core_of}
use Rattle.address_space.specs.Whole.{IsFrontOf}
use Rattle.build_replies.specs.Builds.{NamedId, told_of, told_or_none}
use Rattle.build_replies.specs.Choosing.{choice_for, choice_of}
use Rattle.build_replies.specs.ChoosingWords.{choice_view}
use Rattle.build_replies.specs.Mapped.{told_view}
use Rattle.build_replies.specs.ToldLaws.{told_all}
use Rattle.build_replies.specs.declared.choosing.ChosenExecutables.{ChosenExecutables}
use Rattle.frame_replies.specs.Processes.{start_by, start_of, state_of as thread_state}
use Rattle.frame_replies.specs.Walking.{BeginsAt, IsProcessOf, IsWalkOf}
use Rattle.frame_replies.specs.WalkLaws.{frame_missing, shown_missing, walk_begins}
use Rattle.frame_replies.specs.declared.process.UnwoundProcess.{UnwoundProcess}
use Rattle.frame_replies.specs.declared.walk.Walk as frames
use Rattle.intake.specs.Parts.{Parts, state_of}
use Rattle.memory_replies.specs.Answers.{AnswersWith, is_done}
use Rattle.memory_replies.specs.declared.outcome.Outcome.{Outcome}
use Rattle.script_streams.specs.Replies.{Printing, PrintsOutcome, PrintsReply, no_reply, reply_of}
use Rattle.case_queries.specs.Asking.{for_frames, frames_answer}
use Rattle.case_queries.specs.Finding.{found_reply}
use Rattle.case_queries.specs.ToldWords.{IsToldBy, ShowsTold, files_told}
use Rattle.case_queries.specs.declared.asked.FramesAsked.{FramesAsked}
use Rattle.case_queries.specs.declared.asked.FramesAsked.TheVariants.{Shown, Registers}
use Rattle.case_queries.specs.declared.told.ToldFiles.{ToldFiles}
use Rattle.case_queries.specs.Fronts.{HasSize, IsSoundFront, ReadsFront}
use Rattle.case_queries.specs.Pieces.{BeginsWith, FindsFrames, SeesPieces}
use Rattle.case_queries.specs.Unwound.{BeginsWalks, FindsThread}
use Rattle.case_queries.specs.declared.frames.UnwoundCore.{UnwoundCore}
use Rattle.case_queries.specs.declared.frames.UnwoundThread.{UnwoundThread}
use Rattle.case_queries.specs.declared.walk.CaseImage.{CaseImage}
use Rattle.case_queries.specs.declared.walk.WalkFault.{WalkFault}
use Rattle.case_queries.specs.declared.walk.WalkFault.TheVariants.{OutOfMemory, Unread}
use Rattle.case_queries.specs.declared.window.Part.{Part}
use Rattle.case_queries.proofs.FindAskLemmas.{FilesLaw}
use Rattle.case_queries.proofs.FindLemmas.{at_start, some_seen}
use Rattle.case_queries.proofs.ShowLemmas.{answered, enough_shows, outcome_with}

-- there is an image that begins so
pub some_front : (front : List ℕ) (size : ℕ) → length front ≤ size → (b : List ℕ) × IsFrontOf front size b
some_front front size short =
    let rest : List ℕ = replicate (size - length front) 0 in
    let l1 = length-append front rest in
    let l2 : length rest ≡ size - length front = length-replicate (size - length front) 0 in
    (front ++ rest, (omega (arith, l1, l2, short), sym (take-append_seam front rest)))

abbrev pub NotesLaw : Type 0
NotesLaw = (want : Want) (b : List ℕ) (n : ℕ) → IsHeaderWhole (take n b) → IsSound want (take n b) → notes_of want (take n b) ≡ notes_of want b

no_thread : (t : ℕ) (image : List ℕ) (xs : List ExecutableView) (a : FramesAsked) → thread_state image t ≡ None → no_reply (codes "NoThread") ≡ reply_of (frames_answer image xs t a)
no_thread t image xs (Shown shown) none = ap reply_of (shown_missing image xs t none shown)
no_thread t image xs (Registers i) none = ap reply_of (frame_missing image xs t none i)

-- what is chosen for the files that an image tells is what is chosen for the core
chosen_for : (xs : List ExecutableView) (image : List ℕ) (told : ToldFiles) (c : ChosenExecutables) → choice_view c ≡ choice_of (files_told told) xs → told_of image ≡ told_view told.files
    → choice_view c ≡ choice_for image xs
unfolding choice_for
chosen_for xs image told c chosen is = chosen ∙ ap (λ (ts : List NamedId). choice_of ts xs) (sym (told_all image ∙ ap told_or_none is))

module _ (notes : NotesLaw) (o : CaseImage) (sound : IsSoundFront Core o.front.now) (t : ℕ) where
  -- the first bytes have the threads
  state_same : (image : List ℕ) → IsFrontOf o.front.now o.size image → thread_state o.front.now t ≡ thread_state image t
  state_same image front =
      enough_shows (λ b. thread_state b t) (λ b n whole fine. ap (λ (ns : List NoteView). slice_get (all_descs 1 ns) t) (notes Core b n whole fine)) o.front.now image (inr (front.1, sound))

  -- and where the program begins
  start_same : (image : List ℕ) → IsFrontOf o.front.now o.size image → start_of o.front.now ≡ start_of image
  start_same image front =
      enough_shows start_of (λ b n whole fine. ap (λ (ns : List NoteView). start_by (first_desc 6 ns)) (notes Core b n whole fine)) o.front.now image (inr (front.1, sound))

  -- a walk that begins
  pub begins_of : FilesLaw → (xs : List ExecutableView) (told : ToldFiles) (c : ChosenExecutables) (w : frames.Walk) → IsToldBy o told → choice_view c ≡ choice_of (files_told told) xs
      → BeginsAt (thread_state o.front.now t) w → (image : List ℕ) (p : UnwoundProcess) → BeginsWith o told.pieces.items image → IsProcessOf o.front.now (choice_view c) p → IsWalkOf image xs t p w
  begins_of law xs told c w by chosen begins image p has own =
      let front = has.0 in
      walk_begins o.front.now image xs (choice_view c) t p w own (chosen_for xs image told c chosen (by.told image has)) (enough_shows _ law o.front.now image (inr (front.1, sound))) (start_same image front) (state_same image front) begins

  -- a thread that is not there
  pub missing_in : (image : List ℕ) → IsFrontOf o.front.now o.size image → thread_state o.front.now t ≡ None → thread_state image t ≡ None
  missing_in image front none = sym (state_same image front) ∙ none

module _ {D : Type 0} (g : disk.Ghosts D) (before new : Parts D) (o : CaseImage) (ps : List Part) (xs : List ExecutableView) (t : ℕ) where
  -- a walk that stopped
  pub stop_found : (p : UnwoundProcess) (w : frames.Walk) (f : WalkFault) → FindsFrames g before o ps xs t p (Err f) w new → FindsThread g before o ps xs t p (Err f) new
  stop_found p w (Unread f) finds = finds
  stop_found p w OutOfMemory finds = finds

  module _ (a : FramesAsked) where
    -- the frames that were found are told
    pub frames_shown : (p : UnwoundProcess) (u : UnwoundThread) (outcome : Outcome) (print : Printing) → (finds : FindsThread g before o ps xs t p (Ok u) new) → PrintsReply print (AnswersWith outcome (frames_answer finds.0 xs t a)) → PrintsOutcome print (λ text. ShowsTold g before o ps xs (for_frames t a) text new) (is_done outcome)
    frames_shown p u outcome print finds told =
        let answer = frames_answer finds.0 xs t a in
        (told.0, (Ok finds.0, finds.1, (finds.2.0, inl (finds.2.1, answered outcome answer told.0 told.1))), outcome_with outcome answer told.0 told.1, told.2)

    pub missing_shown : (sees : SeesPieces g before o ps new) → thread_state sees.0 t ≡ None → ShowsTold g before o ps xs (for_frames t a) (no_reply (codes "NoThread")) new
    missing_shown sees none = (Ok sees.0, sees.1, (sees.2.0, inl (sees.2.1, inl (no_thread t sees.0 xs a none))))

    pub stop_shown : (p : UnwoundProcess) (f : WalkFault) → FindsThread g before o ps xs t p (Err f) new → ShowsTold g before o ps xs (for_frames t a) (found_reply (Err f)) new
    stop_shown p (Unread f) finds = (Err f, finds, refl)
    stop_shown p OutOfMemory finds = (Ok finds.0, finds.1, (finds.2, inr refl))

-- nothing but the first bytes is read
pub no_pieces : {D : Type 0} (g : disk.Ghosts D) (before now : Parts D) (o : CaseImage) → HasSize (state_of now) o.seq o.size → length o.front.now ≤ o.size → ReadsFront g before o.seq o.front.now now → SeesPieces g before o [] now
no_pieces g before now o sized short reads =
    let x = some_seen g before o now now o.front.now 0 o.front.now sized reads (at_start g before o now reads short) in
    (x.0, x.1, (x.2, tt))

-- what the walks begin with, if it stays
pub walks_same : (o : CaseImage) (xs : List ExecutableView) (u v : UnwoundCore) → v.process ≡ u.process → v.pieces.items ≡ u.pieces.items → BeginsWalks o xs u → BeginsWalks o xs v
walks_same o xs u v process pieces walks = record {
  own = subst (λ p. o.front.now ≡ core_of p.space) (sym process) walks.own;
  some = subst (λ ps. (image : List ℕ) × BeginsWith o ps image) (sym pieces) walks.some;
  begins = λ t w begins image has.
      subst (λ p. IsWalkOf image xs t p w) (sym process) (walks.begins t w begins image (subst (λ ps. BeginsWith o ps image) pieces has));
}
