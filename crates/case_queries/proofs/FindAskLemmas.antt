-- What a line that searches a core shows, with the executables that are read beside it.
use Rattle.std.proofs.Common.{◌≡◌, ◌≤◌, arith, inl, inr, ⊎_elim, ℕ, List, [], ◌++◌, take, length, map, Option, None, Some, Ok, Err, Vec, Global, refl, ap, sym, ◌∙◌, subst}
use Rattle.std.proofs.lemmas.List.{append-nil, length-take, take_all}
use Rattle.elf_view.specs.Header.{segments_of}
use Rattle.elf_view.specs.Sound.{IsHeaderWhole, IsSound}
use Rattle.elf_view.specs.declared.faults.Want.TheVariants.{Core}
use Rattle.address_space.specs.Source.{ExecutableView}
use Rattle.address_space.specs.Whole.{AreHeldWithin, IsFrontOf}
use Rattle.archive_replies.specs.Reasons.{reason_of}
use Rattle.disk_model.specs.declared.disk.Disk as disk
use Rattle.image_replies.specs.Core.{core_fault_of}
use Rattle.image_replies.specs.Reasons.{core_reason}
use Rattle.image_replies.specs.declared.core_image.CoreFault.{CoreFault}
use Rattle.journal_layout.specs.declared.entry.Kind.{Kind}
use Rattle.memory_replies.specs.Window.{past_of}
use Rattle.windowed_search.specs.ScanWords.{Aim, for_bytes, for_texts}
use Rattle.script_lines.specs.declared.query.MemoryQuery.{MemoryQuery}
use Rattle.script_lines.specs.declared.query.MemoryQuery.TheVariants.{Dump, At, Find, Strings, Backtrace, Unwind, Lines, Frame, Builds}
use Rattle.memory_replies.specs.Answers.{Answers}
use Rattle.case_queries.specs.Inspecting.{answer_of}
use Rattle.case_queries.specs.Steps.{Asks, Shows, ShowsWithExecutables}
use Rattle.intake.specs.Parts.{Parts, state_of}
use Rattle.intake.specs.declared.faults.ArchiveFault.{ArchiveFault}
use Rattle.journal_layout.specs.Case.{Case}
use Rattle.memory_replies.specs.Memory.{mapped_files}
use Rattle.script_streams.specs.Replies.{no_reply}
use Rattle.case_queries.specs.Collecting.{Collects, CollectsAll, Wanted, debugs_for, gathered_with, wanted_for, wanted_of}
use Rattle.case_queries.specs.CollectingWords.{executable_view}
use Rattle.case_queries.specs.Asking.{Asking, asking_answer, asking_query, files_asked, files_asking, for_aim, for_builds, for_frames}
use Rattle.case_queries.specs.Finding.{AsksFront, IsFrontOfCase, ShowsFound}
use Rattle.case_queries.specs.Fronts.{HasSize, IsEnough, IsSoundFront, ReadsFront}
use Rattle.case_queries.specs.LeaveLaws.{Leaves, looks_leaves, own_still}
use Rattle.case_queries.specs.Windows.{IsSeenBy}
use Rattle.frame_replies.specs.declared.lines.Shown.TheVariants.{Stack, Source}
use Rattle.case_queries.specs.declared.asked.FramesAsked.TheVariants.{Shown, Registers}
use Rattle.case_queries.specs.declared.asked.AskedFiles.{AskedFiles}
use Rattle.case_queries.specs.declared.asked.AskedFiles.TheVariants as files
use Rattle.case_queries.specs.declared.collect_executables.StoredExecutable.{StoredExecutable}
use Rattle.case_queries.specs.declared.walk.CaseImage.{CaseImage}
use Rattle.case_queries.proofs.AgainLemmas.{seen_again}
use Rattle.case_queries.proofs.FindLemmas.{at_start, some_seen}
use Rattle.case_queries.proofs.GatherLemmas.{alone, unread}
use Rattle.case_queries.proofs.ShowLemmas.{enough_shows, wanted_enough}
use Rattle.case_queries.proofs.WindowLemmas.{all_within, enough_cut, seen_reads}

abbrev pub FilesLaw : Type 0
FilesLaw = (b : List ℕ) (n : ℕ) → IsHeaderWhole (take n b) → IsSound Core (take n b) → mapped_files (take n b) ≡ mapped_files b

-- a core that begins so wants the executables that its first bytes want
pub wanted_front : FilesLaw → (o : CaseImage) (image : List ℕ) → IsSoundFront Core o.front.now → IsFrontOf o.front.now o.size image → (cases : List Case) → wanted_of o.front.now cases ≡ wanted_of image cases
wanted_front law o image sound front cases = wanted_enough law o.front.now image (inr (front.1, sound)) cases

-- and so does the line that seeks it
aim_wanted : (aim : Aim) (b : List ℕ) (cases : List Case) → wanted_of b cases ≡ wanted_for (asking_query (for_aim aim)) b cases
aim_wanted (for_bytes needle) b cases = refl
aim_wanted (for_texts least) b cases = refl

-- with no debug file
aim_alone : (aim : Aim) (b : List ℕ) (cases : List Case) (xs : List ExecutableView) → debugs_for (asking_query (for_aim aim)) b cases xs ≡ []
aim_alone (for_bytes needle) b cases xs = refl
aim_alone (for_texts least) b cases xs = refl

-- what is answered to the line that asks it
pub aim_answered : (kind : Kind) (aim : Aim) (image : List ℕ) (cases : List Wanted) (xs : List ExecutableView) → asking_answer (for_aim aim) image xs ≡ answer_of kind (asking_query (for_aim aim)) image cases xs
aim_answered kind (for_bytes needle) image cases xs = refl
aim_answered kind (for_texts least) image cases xs = refl

pub files_answered : (kind : Kind) (a : AskedFiles) (image : List ℕ) (cases : List Wanted) (xs : List ExecutableView) → asking_answer (files_asking a cases) image xs ≡ answer_of kind (asking_query (files_asked a)) image cases xs
files_answered kind (files.Frames thread (Shown Stack)) image cases xs = refl
files_answered kind (files.Frames thread (Shown Source)) image cases xs = refl
files_answered kind (files.Frames thread (Registers frame)) image cases xs = refl
files_answered kind (files.Builds query) image cases xs = refl

-- such a line reads executables
shows_by : {D : Type 0} (g : disk.Ghosts D) (mid : Parts D) (kind : Kind) (asking : Asking) (image text : List ℕ) (new : Parts D) → ShowsWithExecutables g mid kind (asking_query asking) image (core_fault_of image) text new → Shows g mid kind (asking_query asking) image text new
shows_by g mid kind (for_aim (for_bytes needle)) image text new shows = shows
shows_by g mid kind (for_aim (for_texts least)) image text new shows = shows
shows_by g mid kind (for_frames thread (Shown Stack)) image text new shows = shows
shows_by g mid kind (for_frames thread (Shown Source)) image text new shows = shows
shows_by g mid kind (for_frames thread (Registers frame)) image text new shows = shows
shows_by g mid kind (for_builds query cases) image text new shows = shows

module _ {D : Type 0} (g : disk.Ghosts D) where
  -- what was read of the case is read again with no byte
  pub reads_again : (now : Parts D) (o : CaseImage) → ((c : List ℕ) → g.left_since now.disk (g.clock now.disk) c → g.may_leave now.disk c) → IsFrontOfCase g now o → ReadsFront g now o.seq o.front.now now
  reads_again now o only own = seen_reads g now now o.seq own.0 o.front.now (seen_again g now only o.seq own.0 own.1) own.2

  pub own_after : (old new : Parts D) (o : CaseImage) → Leaves g old new → IsFrontOfCase g old o → IsFrontOfCase g new o
  own_after old new o leaves own = (own.0, own_still g old new o.seq own.0 leaves own.1, own.2)

  pub found_leaves : (old new : Parts D) (o : CaseImage) (xs : List ExecutableView) (asking : Asking) (text : List ℕ) → ShowsFound g old o xs asking text new → Leaves g old new
  found_leaves old new o xs asking text shows = looks_leaves g old new o.seq shows.0 shows.1

  module _ (law : FilesLaw) (o : CaseImage) (sound : IsSoundFront Core o.front.now) (aim : Aim) where
    -- the answer is told
    pub found_asked : (before new : Parts D) (xs : Vec StoredExecutable Global) (text : List ℕ) → Collects g new (wanted_of o.front.now (state_of new).cases) (Ok (map executable_view xs.items)) new → ShowsFound g before o (map executable_view xs.items) (for_aim aim) text new → AsksFront g before o (for_aim aim) text new
    found_asked before new xs text stay (Ok image, looks, told) = (
      Ok image,
      new,
      looks,
      (
        told.0,
        λ kind. (
          gathered_with (wanted_for (asking_query (for_aim aim)) image (state_of new).cases) (map executable_view xs.items) (debugs_for (asking_query (for_aim aim)) image (state_of new).cases (map executable_view xs.items)) (Ok []),
          alone g (asking_query (for_aim aim)) image new new (map executable_view xs.items) (aim_alone aim image (state_of new).cases (map executable_view xs.items))
              (inr (subst (λ (ws : List Wanted). Collects g new ws (Ok (map executable_view xs.items)) new) (wanted_front law o image sound told.0 (state_of new).cases ∙ aim_wanted aim image (state_of new).cases) stay)),
          subst (λ a. Answers a text)
              (aim_answered kind aim image (wanted_for (asking_query (for_aim aim)) image (state_of new).cases ++ debugs_for (asking_query (for_aim aim)) image (state_of new).cases (map executable_view xs.items)) (map executable_view xs.items)
              ∙ ap (answer_of kind (asking_query (for_aim aim)) image (wanted_for (asking_query (for_aim aim)) image (state_of new).cases ++ debugs_for (asking_query (for_aim aim)) image (state_of new).cases (map executable_view xs.items))) (sym (append-nil (map executable_view xs.items)))) told.1,
        ),
      ),
    )
    found_asked before new xs text stay (Err f, looks, told) = (Err f, new, looks, (told, refl))

    -- an executable can't be read
    pub unread_asked : (before mid new : Parts D) (f : ArchiveFault) → HasSize (state_of mid) o.seq o.size → length o.front.now ≤ o.size → ReadsFront g before o.seq o.front.now mid → CollectsAll g mid (wanted_of o.front.now (state_of mid).cases) (Err f) new
        → AsksFront g before o (for_aim aim) (no_reply (reason_of f)) new
    unread_asked before mid new f sized short reads collects =
        let x = some_seen g before o mid mid o.front.now 0 o.front.now sized reads (at_start g before o mid reads short) in (
          Ok x.0,
          mid,
          x.1,
          (
            x.2,
            λ kind. (
              Err f,
              unread g (asking_query (for_aim aim)) x.0 mid new f (subst (λ (ws : List Wanted). CollectsAll g mid ws (Err f) new) (wanted_front law o x.0 sound x.2 (state_of mid).cases ∙ aim_wanted aim x.0 (state_of mid).cases) collects),
              refl,
            ),
          ),
        )

-- the whole image is seen, whatever the line
pub whole_seen : (q : MemoryQuery) (image : List ℕ) → IsSeenBy q image (length image) 0 image image
whole_seen (Dump first n) image =
    let end : past_of 0 image ≡ length image = omega arith in (
      inl refl,
      record {
        begins = (refl, sym (take_all (length image) image (omega arith)));
        has = sym (take_all (length image) image (omega arith));
        all = λ inside. subst (λ e. AreHeldWithin (length image) first n 0 e (segments_of image)) (sym end) (all_within (length image) first n (segments_of image));
      },
    )
whole_seen (At address) image = (inl refl, (refl, sym (take_all (length image) image (omega arith))))
whole_seen (Find aim) image = refl
whole_seen (Strings least) image = refl
whole_seen (Backtrace thread) image = (inl refl, record { begins = (refl, sym (take_all (length image) image (omega arith))); frames = λ less. absurd (omega (arith, less)) })
whole_seen (Unwind thread) image = refl
whole_seen (Lines thread) image = refl
whole_seen (Frame thread frame) image = refl
whole_seen (Builds query) image = refl

-- as many bytes as the image has are all of it
pub enough_whole : (front image : List ℕ) → IsEnough Core front image → length front ≡ length image → front ≡ image
enough_whole front image enough long = enough_cut Core front image enough ∙ ap (λ n. take n image) long ∙ take_all (length image) image (omega arith)

-- fewer are sound
pub enough_sound : (front image : List ℕ) (size : ℕ) → IsEnough Core front image → length image ≡ size → (length front ≡ size → ⊥) → IsSoundFront Core front
enough_sound front image size enough long short = ⊎_elim (λ is. absurd (short (ap length is ∙ long))) (λ cut. cut.1) enough

pub enough_short : (front image : List ℕ) (size : ℕ) → IsEnough Core front image → length image ≡ size → length front ≤ size
enough_short front image size enough long = (let cut = ap length (enough_cut Core front image enough) in let few = length-take (length front) image in omega (arith, cut, few, long))

module _ {D : Type 0} (g : disk.Ghosts D) where
  -- what is asked of a core that has no fault
  pub front_asked : ((b : List ℕ) (n : ℕ) → IsHeaderWhole (take n b) → IsSound Core (take n b) → core_fault_of (take n b) ≡ core_fault_of b) → (before new : Parts D) (o : CaseImage) (asking : Asking) (text : List ℕ) (kind : Kind) → IsSoundFront Core o.front.now → None ≡ core_fault_of o.front.now
      → AsksFront g before o asking text new → Asks g before o.seq (asking_query asking) (Ok kind) text new
  front_asked law before new o asking text kind sound none (Ok image, mid, looks, shows) =
      let same : core_fault_of o.front.now ≡ core_fault_of image = enough_shows core_fault_of law o.front.now image (inr (shows.0.1, sound)) in
      (Ok image, mid, looks, shows_by g mid kind asking image text new (subst (λ (f : Option CoreFault). ShowsWithExecutables g mid kind (asking_query asking) image f text new) (none ∙ same) (shows.1 kind)))
  front_asked law before new o asking text kind sound none (Err f, mid, looks, shows) = (Err f, mid, looks, shows)

  -- and of one that has
  pub fault_asked : ((b : List ℕ) (n : ℕ) → IsHeaderWhole (take n b) → IsSound Core (take n b) → core_fault_of (take n b) ≡ core_fault_of b) → (before now : Parts D) (o : CaseImage) (asking : Asking) (kind : Kind) (fault : CoreFault) → HasSize (state_of now) o.seq o.size → length o.front.now ≤ o.size
      → IsSoundFront Core o.front.now → Some fault ≡ core_fault_of o.front.now → ReadsFront g before o.seq o.front.now now → Asks g before o.seq (asking_query asking) (Ok kind) (no_reply (core_reason fault)) now
  fault_asked law before now o asking kind fault sized short sound is reads =
      let x = some_seen g before o now now o.front.now 0 o.front.now sized reads (at_start g before o now reads short) in
      let same : core_fault_of o.front.now ≡ core_fault_of x.0 = enough_shows core_fault_of law o.front.now x.0 (inr (x.2.1, sound)) in
      (Ok x.0, now, x.1, shows_by g now kind asking x.0 (no_reply (core_reason fault)) now (subst (λ (f : Option CoreFault). ShowsWithExecutables g now kind (asking_query asking) x.0 f (no_reply (core_reason fault)) now) (is ∙ same) (refl, refl)))
