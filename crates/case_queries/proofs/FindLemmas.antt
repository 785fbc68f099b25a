-- A aim in the memory of a core whose image is read window by window.
use Rattle.std.proofs.Common.{◌≡◌, inl, inr, ⊎_elim, ℕ, ◌+◌, ◌-◌, ◌≤◌, Bool, false, ◌^◌, List, [], ◌∷◌, ◌++◌, take, drop, length, None, Result, Ok, Err, refl, ap, sym, ◌∙◌, subst, arith}
use Rattle.std.specs.Prelude.{IsTrue, codes, is_ok}
use Rattle.std.specs.List.{flat_map}
use Rattle.std.proofs.lemmas.List.{take_all}
use Rattle.std.proofs.Math.Seq.{drop-append_seam, take-append_seam}
use Rattle.disk_model.specs.declared.disk.Disk as disk
use Rattle.elf_view.specs.Field.{part}
use Rattle.elf_view.specs.Sound.{IsHeaderWhole, IsSound}
use Rattle.elf_view.specs.declared.faults.Want.TheVariants.{Core}
use Rattle.address_space.specs.Occurrence.{strings_of, text_len}
use Rattle.address_space.specs.Source.{ExecutableView, Space, value_at}
use Rattle.address_space.specs.Whole.{IsFrontOf, space_in}
use Rattle.archive_replies.specs.Reasons.{reason_of}
use Rattle.image_replies.specs.Core.{core_fault_of}
use Rattle.case_journal.specs.Viewing.{OnlyReads}
use Rattle.intake.specs.Calls.{ChangesNoCase}
use Rattle.intake.specs.Parts.{Parts, contents_of, state_of}
use Rattle.intake.specs.QuietLaws.{quiet_then}
use Rattle.intake.specs.StayLaws.{stays_as, stays_then}
use Rattle.intake.specs.State.{ArchiveState}
use Rattle.intake.specs.declared.faults.ArchiveFault.{ArchiveFault}
use Rattle.memory_replies.specs.Answers.{AnswersWith, is_done, memory_reply}
use Rattle.memory_replies.specs.Find.{address_line}
use Rattle.memory_replies.specs.Memory.{memory_of}
use Rattle.memory_replies.specs.declared.outcome.Outcome.{Outcome}
use Rattle.memory_replies.specs.Texts.{text_line, values_between}
use Rattle.memory_replies.proofs.AnswerLemmas.{matches_shown}
use Rattle.memory_replies.proofs.TextLemmas.{AreTexts, strings_are, texts_told, text_values as text_has_values}
use Rattle.script_streams.specs.Replies.{IsOutcome, Printing, PrintsOutcome, PrintsReply, no_reply, ok_reply, reply_of}
use Rattle.case_queries.specs.Collecting.{Collects, CollectsAll, Wanted, with_executable}
use Rattle.case_queries.specs.LeaveLaws.{quiet_as}
use Rattle.case_queries.specs.Asking.{Asking, aim_answer, asking_answer, for_aim}
use Rattle.case_queries.specs.Finding.{Finds, IsAllFound, ShowsFound, found_lines, found_reply, line_of_text, lines_of_texts}
use Rattle.case_queries.specs.Fronts.{HasSize, IsSoundFront, ReadsFront, ReadsUpTo}
use Rattle.case_queries.specs.Seeing.{SeesImage}
use Rattle.case_queries.specs.Walking.{BeginsSo, IsAt, IsReadTo, Walks, address_after}
use Rattle.case_queries.specs.Pieces.{SeesPieces}
use Rattle.case_queries.specs.declared.walk.CaseImage.{CaseImage}
use Rattle.case_queries.specs.declared.window.Part.{Part}
use Rattle.case_queries.specs.declared.walk.Walk.{Walk}
use Rattle.case_queries.specs.declared.walk.WalkFault.{WalkFault}
use Rattle.case_queries.specs.declared.walk.WalkFault.TheVariants.{Unread, OutOfMemory}
use Rattle.case_queries.proofs.AgainLemmas.{given_not}
use Rattle.case_queries.proofs.FrontLemmas.{front_by}
use Rattle.case_queries.proofs.RestLemmas.{reads_on}
use Rattle.case_queries.proofs.WindowLemmas.{all_read}
use Rattle.case_queries.proofs.ShowLemmas.{answered, outcome_with}
use Rattle.case_queries.proofs.WalkLemmas.{begins_front}
use Rattle.windowed_search.specs.Runs.{values_from}
use Rattle.windowed_search.specs.ScanWords.{Aim, for_bytes, for_texts, HasScanned, IsFound, aimed_at, next_address}
use Rattle.windowed_search.specs.TextWords.{text_values}
use Rattle.windowed_search.specs.declared.memory_scan.Found.{Found}
use Rattle.windowed_search.specs.declared.memory_scan.Found.TheVariants as found
use Rattle.windowed_search.specs.StepWords.{Leads, count_of, place_after}
use Rattle.windowed_search.specs.declared.steps.Step.{Step}

-- a text's values, as the search and the reply name them
values_same : (space : Space) (x : ℕ × ℕ) → text_values space x ≡ values_between space x.0 x.1
unfolding values_from values_between
values_same space x = refl

values_long : (space : Space) (x : ℕ × ℕ) → x.1 ≡ text_len space x.0 (2 ^ 64 - x.0) → length (text_values space x) ≡ x.1
values_long space x is =
    ap length (values_same space x)
    ∙ ap (λ n. length (values_between space x.0 n)) is
    ∙ text_has_values space (2 ^ 64 - x.0) x.0
    ∙ sym is

pub leads_address : (image : List ℕ) (space : Space) (steps : List Step) (p a q b : ℕ) → Leads image space p a steps q b → address_after a steps ≡ b
leads_address image space [] p a q b leads = leads.1
leads_address image space (s ∷ ss) p a q b leads = leads_address image space ss (place_after p s) (a + count_of s) q b leads.2

-- the lines of texts are those of their values
texts_lines : (space : Space) (places : List (ℕ × ℕ)) → AreTexts space places → lines_of_texts places (flat_map (text_values space) places) ≡ flat_map (text_line space) places
texts_lines space [] are = refl
texts_lines space (x ∷ xs) are =
    let values = text_values space x in
    let rest = flat_map (text_values space) xs in
    let long : length values ≡ x.1 = values_long space x are.0 in
    let first : take x.1 (values ++ rest) ≡ values = ap (λ n. take n (values ++ rest)) (sym long) ∙ take-append_seam values rest in
    let behind : drop x.1 (values ++ rest) ≡ rest = ap (λ n. drop n (values ++ rest)) (sym long) ∙ drop-append_seam values rest in
    ap (λ b. line_of_text x b ++ lines_of_texts xs (drop x.1 (values ++ rest))) (first ∙ values_same space x)
    ∙ ap (λ b. text_line space x ++ lines_of_texts xs b) behind
    ∙ ap (λ t. text_line space x ++ t) (texts_lines space xs are.1)

-- what is told of all that was found
all_told : (image : List ℕ) (xs : List ExecutableView) (aim : Aim) (space : Space) (f : Found) → space ≡ memory_of image xs → IsAllFound space aim f → found_lines f ++ ok_reply ≡ reply_of (aim_answer aim image xs)
all_told image xs (for_bytes needle) space (found.Addresses v) memory all =
    ap (λ (t : List ℕ). flat_map address_line t ++ ok_reply) all ∙ ap reply_of (matches_shown image xs needle space memory)
all_told image xs (for_texts least) space (found.Texts t) memory (places, bytes) =
    ap (λ b. lines_of_texts t.places.items b ++ ok_reply) bytes
    ∙ ap (λ ps. lines_of_texts ps (flat_map (text_values space) ps) ++ ok_reply) places
    ∙ ap (λ (ls : List ℕ). ls ++ ok_reply) (texts_lines space (strings_of space least) (strings_are space least))
    ∙ ap reply_of (texts_told image xs least space memory)
all_told image xs (for_bytes needle) space (found.Texts t) memory all = absurd all
all_told image xs (for_texts least) space (found.Addresses v) memory all = absurd all

module _ {D : Type 0} (g : disk.Ghosts D) (before : Parts D) (o : CaseImage) where
  -- the first bytes alone are read
  pub at_start : (start : Parts D) → ReadsFront g before o.seq o.front.now start → length o.front.now ≤ o.size → IsReadTo g before o 0 o.front.now start
  at_start start reads short = record {
    reads = reads;
    long = omega arith;
    begins = sym (take_all (length o.front.now) o.front.now (omega arith));
    within = short;
  }

  -- an image that is seen, whatever was read of it
  pub some_seen : (start now : Parts D) (first : List ℕ) (at : ℕ) (bytes : List ℕ) → HasSize (state_of start) o.seq o.size → ReadsFront g before o.seq first start → IsReadTo g before o at bytes now
      → (image : List ℕ) × SeesImage g before o.seq image now × IsFrontOf o.front.now o.size image × BeginsSo o bytes image
  some_seen start now first at bytes sized reads read =
      let has = subst (λ (s : ArchiveState). HasSize s o.seq o.size) reads.state sized in
      let within = read.within in
      let x = front_by g before now o.seq bytes has.0 has.1.1 (omega (arith, within, has.2)) read.reads (g.is_honest before.disk) refl in
      let begins : BeginsSo o bytes x.0 = (x.3 ∙ has.2, x.2) in
      (x.0, x.1, begins_front g before o at bytes x.0 now read begins, begins)

  module _ (space : Space) (aim : Aim) where
    -- nothing is searched yet
    pub walk_begins : (start : Parts D) (w : Walk) → ReadsFront g before o.seq o.front.now start → length o.front.now ≤ o.size → w.at ≡ 0 → w.buffer.items ≡ [] → aimed_at w.search ≡ aim → ((sp : Space) → HasScanned sp w.search) → IsAt g before space aim o w start
    walk_begins start w reads short at none asked searched = record {
      bytes = o.front.now;
      read = subst (λ p. IsReadTo g before o p o.front.now start) (sym at) (at_start start reads short);
      window = λ image begins. subst (λ (xs : List ℕ). xs ≡ part image (w.at - length xs) (length xs)) (sym none) refl;
      searched = λ image begins. searched (space_in image space);
      asked = asked;
    }

    -- a walk that stopped
    pub finds_none : (start now : Parts D) (w : Walk) (f : WalkFault) → HasSize (state_of start) o.seq o.size → ReadsFront g before o.seq o.front.now start → Walks g before space aim o w now (Err f) → Finds g before space aim o now (Err f)
    finds_none start now w (Unread f) sized reads walked = walked
    finds_none start now w OutOfMemory sized reads walked =
        let x = some_seen start now o.front.now walked.0 walked.1 sized reads walked.2 in
        (x.0, x.1, x.2)

    -- one that came to the end, with no memory for what was found last
    pub finds_no_memory : (start now : Parts D) (w : Walk) → HasSize (state_of start) o.seq o.size → ReadsFront g before o.seq o.front.now start → IsAt g before space aim o w now → Finds g before space aim o now (Err OutOfMemory)
    finds_no_memory start now w sized reads walked =
        let x = some_seen start now o.front.now w.at walked.bytes sized reads walked.read in
        (x.0, x.1, x.2)

    -- one that came to the end
    pub finds_all : (start now : Parts D) (w : Walk) (f : Found) (last : ℕ) → HasSize (state_of start) o.seq o.size → ReadsFront g before o.seq o.front.now start → IsAt g before space aim o w now
        → ((image : List ℕ) → IsFrontOf o.front.now o.size image → next_address w.search ≡ last)
        → ((image : List ℕ) → IsFrontOf o.front.now o.size image → (value_at (space_in image space) last ≡ None) × (IsFound (space_in image space) aim last f → IsAllFound (space_in image space) aim f))
        → ((sp : Space) → HasScanned sp w.search → value_at sp (next_address w.search) ≡ None → IsFound sp (aimed_at w.search) (next_address w.search) f)
        → Finds g before space aim o now (Ok f)
    finds_all start now w f last sized reads walked address means found =
        let x = some_seen start now o.front.now w.at walked.bytes sized reads walked.read in
        let sp = space_in x.0 space in
        let there = address x.0 x.2 in
        let last_is = means x.0 x.2 in
        let own = found sp (walked.searched x.0 x.3) (ap (value_at sp) there ∙ last_is.0) in (
          x.0,
          x.1,
          x.2,
          last_is.1 (subst (λ a. IsFound sp aim a f) there (subst (λ m. IsFound sp m (next_address w.search) f) walked.asked own)),
        )

  -- the reply to what was found
  module _ (space : Space) (aim : Aim) (xs : List ExecutableView) (memory : (image : List ℕ) → IsFrontOf o.front.now o.size image → space_in image space ≡ memory_of image xs) where
    pub found_shown : (now : Parts D) (r : Result Found WalkFault) → Finds g before space aim o now r → ShowsFound g before o xs (for_aim aim) (found_reply r) now
    found_shown now (Ok f) finds = (
      Ok finds.0,
      finds.1,
      (finds.2, inl (all_told finds.0 xs aim (space_in finds.0 space) f (memory finds.0 finds.2) finds.3)),
    )
    found_shown now (Err (Unread f)) finds = (Err f, finds, refl)
    found_shown now (Err OutOfMemory) finds = (Ok finds.0, finds.1, (finds.2, inr refl))

  -- there is no memory before anything else is read
  pub none_shown : (start : Parts D) (xs : List ExecutableView) (asking : Asking) → HasSize (state_of start) o.seq o.size → length o.front.now ≤ o.size → ReadsFront g before o.seq o.front.now start → ShowsFound g before o xs asking memory_reply start
  none_shown start xs asking sized short reads =
      let x = some_seen start start o.front.now 0 o.front.now sized reads (at_start start reads short) in
      (Ok x.0, x.1, (x.2, inr refl))

-- the first bytes stay the first
pub front_kept : (front bytes all : List ℕ) → all ≡ front ++ bytes → front ≡ take (length front) all
front_kept front bytes all is = sym (take-append_seam front bytes) ∙ ap (take (length front)) (sym is)

module _ {D : Type 0} (g : disk.Ghosts D) (before now new : Parts D) (o : CaseImage) (xs : List ExecutableView) (asking : Asking) (sized : HasSize (state_of now) o.seq o.size) (reads : ReadsFront g before o.seq o.front.now now) where
  has_before : HasSize (state_of before) o.seq o.size
  has_before = subst (λ (s : ArchiveState). HasSize s o.seq o.size) reads.state sized

  -- an image that was read whole
  pub whole_found : (bytes : List ℕ) (outcome : Outcome) (t : Printing) → ReadsUpTo g now o.seq o.front.now o.size (Ok tt) bytes new → length bytes ≡ o.size → PrintsReply t (AnswersWith outcome (asking_answer asking bytes xs))
      → PrintsOutcome t (λ text. ShowsFound g before o xs asking text new) (is_done outcome)
  whole_found bytes outcome t up long told =
      let all = reads_on g before now new o.seq o.size o.size o.front.now bytes (Ok tt) has_before reads up in
      let sees = all_read g before new o.seq o.size bytes has_before all long in
      let begins : IsFrontOf o.front.now o.size bytes = (long, front_kept o.front.now up.0 bytes up.2) in
      (told.0, (Ok bytes, sees, (begins, answered outcome (asking_answer asking bytes xs) told.0 told.1)), outcome_with outcome (asking_answer asking bytes xs) told.0 told.1, told.2)

  pub whole_unread : (bytes : List ℕ) (f : ArchiveFault) → ReadsUpTo g now o.seq o.front.now o.size (Err f) bytes new → ShowsFound g before o xs asking (no_reply (reason_of f)) new
  whole_unread bytes f up = (Err f, reads_on g before now new o.seq o.size o.size o.front.now bytes (Err f) has_before reads up, refl)

pub found_outcome : (r : Result Found WalkFault) (done : Bool) → done ≡ is_ok r → IsOutcome done (found_reply r)
found_outcome (Ok f) done is = subst (λ t. IsOutcome t (found_reply (Ok f))) (sym is) (found_lines f, refl)
found_outcome (Err (Unread f)) done is = subst (λ t. IsOutcome t (no_reply (reason_of f))) (sym is) (reason_of f, refl)
found_outcome (Err OutOfMemory) done is = subst (λ t. IsOutcome t memory_reply) (sym is) (codes "OutOfMemory", refl)

pub memory_outcome : (done : Bool) → done ≡ false → IsOutcome done memory_reply
memory_outcome done is = subst (λ t. IsOutcome t memory_reply) (sym is) (codes "OutOfMemory", refl)

-- a core whose first bytes are sound, and have no fault
pub still_clean : (front image : List ℕ) → ((b : List ℕ) (n : ℕ) → IsHeaderWhole (take n b) → IsSound Core (take n b) → core_fault_of (take n b) ≡ core_fault_of b) → front ≡ take (length front) image → IsSoundFront Core front → core_fault_of front ≡ None → core_fault_of image ≡ None
still_clean front image law cut sound clean =
    sym (law image (length front) (subst IsHeaderWhole cut sound.0) (subst (IsSound Core) cut sound.1)) ∙ ap core_fault_of (sym cut) ∙ clean

-- what reads leave as it was
pub record LeavesAll {D : Type 0} (g : disk.Ghosts D) (old new : Parts D) : Type 0 where
  pub state : state_of new ≡ state_of old
  pub contents : IsTrue (g.is_honest old.disk) → contents_of g.seen new ≡ contents_of g.seen old
  pub quiet : OnlyReads g old.disk new.disk
  pub stays : ChangesNoCase g old new

module _ {D : Type 0} (g : disk.Ghosts D) (only : (d : D) (c : List ℕ) → g.left_since d (g.clock d) c → g.may_leave d c) where
  all_as : (old new : Parts D) → new ≡ old → LeavesAll g old new
  all_as old new is = record {
    state = ap state_of is;
    contents = λ honest. ap (contents_of g.seen) is;
    quiet = quiet_as g only old new is;
    stays = stays_as g old new is;
  }

  all_then : (a b c : Parts D) → LeavesAll g a b → LeavesAll g b c → LeavesAll g a c
  all_then a b c first second = record {
    state = second.state ∙ first.state;
    contents = λ honest. second.contents (first.stays.honesty ∙ honest) ∙ first.contents honest;
    quiet = quiet_then g a.disk b.disk c.disk first.quiet second.quiet;
    stays = stays_then g a b c first.stays second.stays;
  }

  sees_all : (old new : Parts D) (seq : ℕ) (image : List ℕ) → SeesImage g old seq image new → LeavesAll g old new
  sees_all old new seq image sees = record { state = sees.state; contents = sees.contents; quiet = sees.quiet; stays = sees.stays }

  one_all : (old mid new : Parts D) (x : Wanted) (xs : List Wanted) (image : List ℕ) (views : List ExecutableView) (r : Result (List ExecutableView) ArchiveFault)
      → ((list : List ExecutableView) → Collects g mid xs (Ok list) new → LeavesAll g mid new) → SeesImage g old x.0 image mid → Collects g mid xs r new → Ok views ≡ with_executable x.1 image r → LeavesAll g old new
  one_all old mid new x xs image views (Ok list) more looks collects is = all_then old mid new (sees_all old mid x.0 image looks) (more list collects)
  one_all old mid new x xs image views (Err f) more looks collects is = absurd (given_not views f is)

  -- executables that are read leave all as it was
  collects_all : (old new : Parts D) (xs : List Wanted) (views : List ExecutableView) → Collects g old xs (Ok views) new → LeavesAll g old new
  collects_all old new [] views collects = all_as old new collects.1
  collects_all old new (x ∷ xs) views (Ok image, mid, looks, more) =
      ⊎_elim
      (λ short. absurd (given_not views _ short.0))
      (λ rest. one_all old mid new x xs image views rest.0 (λ list. collects_all mid new xs list) looks rest.1 rest.2)
      more
  collects_all old new (x ∷ xs) views (Err f, mid, looks, more) = absurd (given_not views f more.0)

  pub gathered_all : (old new : Parts D) (xs : List Wanted) (views : List ExecutableView) → CollectsAll g old xs (Ok views) new → LeavesAll g old new
  gathered_all old new xs views all = ⊎_elim (λ short. absurd (given_not views _ short.0)) (λ collects. collects_all old new xs views collects) all

  pub still_front : (before mid new : Parts D) (seq : ℕ) (front : List ℕ) (xs : List Wanted) (views : List ExecutableView) → ReadsFront g before seq front mid → CollectsAll g mid xs (Ok views) new → ReadsFront g before seq front new
  still_front before mid new seq front xs views reads all =
      let left = gathered_all mid new xs views all in record {
        own = reads.own;
        state = left.state ∙ reads.state;
        contents = λ honest. left.contents (reads.stays.honesty ∙ honest) ∙ reads.contents honest;
        quiet = quiet_then g before.disk mid.disk new.disk reads.quiet left.quiet;
        stays = stays_then g before mid new reads.stays left.stays;
      }

  pub still_pieces : (before mid new : Parts D) (o : CaseImage) (ps : List Part) (xs : List Wanted) (views : List ExecutableView) → SeesPieces g before o ps mid → CollectsAll g mid xs (Ok views) new → SeesPieces g before o ps new
  still_pieces before mid new o ps xs views (image, sees, begins) all =
      let left = gathered_all mid new xs views all in (
        image,
        record {
          own = sees.own;
          state = left.state ∙ sees.state;
          contents = λ honest. left.contents (sees.stays.honesty ∙ honest) ∙ sees.contents honest;
          quiet = quiet_then g before.disk mid.disk new.disk sees.quiet left.quiet;
          stays = stays_then g before mid new sees.stays left.stays;
        },
        begins,
      )

  pub still_sized : (old new : Parts D) (seq size : ℕ) (xs : List Wanted) (views : List ExecutableView) → HasSize (state_of old) seq size → CollectsAll g old xs (Ok views) new → HasSize (state_of new) seq size
  still_sized old new seq size xs views has all = subst (λ (s : ArchiveState). HasSize s seq size) (sym (gathered_all old new xs views all).state) has

  pub runs_after : (old new : Parts D) (xs : List Wanted) (views : List ExecutableView) → (state_of old).stopped ≡ false → CollectsAll g old xs (Ok views) new → (state_of new).stopped ≡ false
  runs_after old new xs views runs all = ap (λ (s : ArchiveState). s.stopped) (gathered_all old new xs views all).state ∙ runs
