-- An image of which the first bytes are seen, and one part after them.
use Rattle.std.proofs.Common.{◌≡◌, inl, inr, ⊎_elim, ℕ, zero, suc, ◌+◌, ◌-◌, ◌<◌, ◌≤◌, min, Bool, true, false, List, [], ◌∷◌, ◌++◌, take, drop, length, replicate, Some, Ok, Err, Vec, Global, refl, ap, sym, ◌∙◌, subst, arith}
use Rattle.std.proofs.lemmas.Bool.{cases_lt, false≢true}
use Rattle.std.proofs.lemmas.Option.{same_Some}
use Rattle.std.proofs.lemmas.List.{length-append, length-replicate, length-take, length-drop, take_all, take_min, take-take, drop-take, drop-drop}
use Rattle.std.proofs.Math.Seq.{take-append_seam, take-add, drop-append_seam, drop-append-add}
use Rattle.disk_model.specs.Places.{part as disk_part}
use Rattle.disk_model.specs.PartLaws.{part_is}
use Rattle.disk_model.specs.declared.disk.Disk as disk
use Rattle.elf_view.specs.Field.{part}
use Rattle.elf_view.specs.Header.{SegmentView, segments_of}
use Rattle.elf_view.specs.declared.faults.Want.{Want}
use Rattle.elf_view.specs.declared.faults.Want.TheVariants.{Core}
use Rattle.address_space.specs.Whole.{AreHeldWithin, IsFrontOf}
use Rattle.intake.specs.Contents.{Contents, image_at}
use Rattle.intake.specs.Part.{PartCall}
use Rattle.intake.specs.Parts.{Parts, state_of, contents_of}
use Rattle.intake.specs.State.{ArchiveState}
use Rattle.intake.specs.declared.faults.ArchiveFault.{ArchiveFault}
use Rattle.intake.specs.QuietLaws.{quiet_then}
use Rattle.intake.specs.StayLaws.{stays_then}
use Rattle.memory_replies.specs.Stack.{HasFrames}
use Rattle.memory_replies.specs.Window.{IsAtHand, IsPartOf, past_of}
use Rattle.script_lines.specs.declared.query.MemoryQuery.{MemoryQuery}
use Rattle.script_lines.specs.declared.query.MemoryQuery.TheVariants.{Dump, At, Find, Strings, Backtrace, Unwind, Lines, Frame, Builds}
use Rattle.case_queries.specs.Fronts.{HasSize, IsEnough, ReadsFront, ReadsUpTo, SeesEnough}
use Rattle.case_queries.specs.LeaveLaws.{Leaves, own_still}
use Rattle.case_queries.specs.Seeing.{IsKept, SeesImage}
use Rattle.case_queries.specs.Windows.{IsSeenBy, IsWanted, ReadsRange, SeesDump, SeesFor, part_at, part_bytes}
use Rattle.case_queries.specs.declared.kept_image.KeptImage.{KeptImage}
use Rattle.case_queries.specs.declared.window.Seen.{Seen}
use Rattle.case_queries.proofs.FrontLemmas.{front_by, later_refused, next_read, up_refused}
use Rattle.journal_layout.specs.Soundness.{case_numbered}
use Rattle.journal_layout.specs.Case.{Case}

-- an image that has some first bytes and a part after them
made : (front read : List ℕ) (p m size : ℕ) → length read ≡ m → length front ≤ size → p + m ≤ size → (0 < m → length front ≤ p) → (image : List ℕ) × (front ≡ take (length front) image) × (read ≡ take m (drop p image)) × (length image ≡ size)
made front read p m size long within fits after =
    let gap = p - length front in
    let rest = size - (length front + gap + m) in
    let before : List ℕ = replicate gap 0 in
    let last : List ℕ = replicate rest 0 in
    let tail : List ℕ = read ++ last in
    let others : List ℕ = before ++ tail in
    let image : List ℕ = front ++ others in
    let n1 : length image ≡ length front + length others = length-append front others in
    let n2 : length others ≡ length before + length tail = length-append before tail in
    let n3 : length tail ≡ length read + length last = length-append read last in
    let n4 : length before ≡ gap = length-replicate gap 0 in
    let n5 : length last ≡ rest = length-replicate rest 0 in
    let sized : length image ≡ size = elim (cases_lt 0 m) as (λ _. length image ≡ size) [
      | inl some ↦ (let low = after some in omega (arith, n1, n2, n3, n4, n5, long, low, fits, within))
      | inr none ↦ omega (arith, n1, n2, n3, n4, n5, long, none, fits, within)
    ] in
    let has : read ≡ take m (drop p image) = elim (cases_lt 0 m) as (λ _. read ≡ take m (drop p image)) [
      | inl some ↦
          let low = after some in
          let place : p ≡ length front + gap = omega (arith, low) in
          let behind : drop p image ≡ tail =
          ap (λ k. drop k image) place ∙ drop-append-add front others gap ∙ ap (λ k. drop k others) (sym n4) ∙ drop-append_seam before tail in
          sym (ap (take m) behind ∙ ap (λ k. take k tail) (sym long) ∙ take-append_seam read last)
      | inr none ↦
          let zero_is : m ≡ 0 = omega (arith, none) in
          empty read (long ∙ zero_is) ∙ sym (ap (λ k. take k (drop p image)) zero_is)
    ] in
    (image, sym (take-append_seam front others), has, sized)
  where
    empty : (xs : List ℕ) → length xs ≡ 0 → xs ≡ []
    empty [] h = refl
    empty (x ∷ xs) h = absurd (omega (arith, h))

-- the first bytes of the first bytes
first_of : (n k : ℕ) (xs : List ℕ) → take n (take k xs) ≡ take (length (take n (take k xs))) xs
first_of n k xs = elim (cases_lt k n) as (λ _. take n (take k xs) ≡ take (length (take n (take k xs))) xs) [
  | inl less ↦
      let l = length-take k xs in
      let short : take n (take k xs) ≡ take k xs = take_all n (take k xs) (omega (arith, l, less)) in
      short ∙ sym (take_min k xs) ∙ ap (λ j. take j xs) (sym (ap length short ∙ l))
  | inr more ↦
      let all : take n (take k xs) ≡ take n xs = take-take n k xs (omega (arith, more)) in
      all ∙ sym (take_min n xs) ∙ ap (λ j. take j xs) (sym (ap length all ∙ length-take n xs))
]

drop_past : (lo : ℕ) (xs : List ℕ) → length xs ≤ lo → drop lo xs ≡ []
drop_past zero [] h = refl
drop_past (suc lo) [] h = refl
drop_past zero (x ∷ xs) h = absurd (omega (arith, h))
drop_past (suc lo) (x ∷ xs) h = drop_past lo xs (omega (arith, h))

-- what the first bytes have of a range
pub front_part : (image front : List ℕ) (lo n : ℕ) → front ≡ take (length front) image → part front lo n ≡ take (length (part front lo n)) (drop lo image)
front_part image front lo n cut = elim (cases_lt lo (length front)) as (λ _. part front lo n ≡ take (length (part front lo n)) (drop lo image)) [
  | inl less ↦
      let whole : length front ≡ lo + (length front - lo) = omega (arith, less) in
      let inner : drop lo front ≡ take (length front - lo) (drop lo image) = ap (drop lo) (cut ∙ ap (λ k. take k image) whole) ∙ drop-take lo (length front - lo) image in
      ap (take n) inner ∙ first_of n (length front - lo) (drop lo image) ∙ ap (λ ys. take (length (take n ys)) (drop lo image)) (sym inner)
  | inr more ↦
      let none : part front lo n ≡ [] = ap (take n) (drop_past lo front (omega (arith, more))) ∙ nothing n in
      none ∙ sym (ap (λ ys. take (length ys) (drop lo image)) none)
]
  where
    nothing : (n : ℕ) → take {A = ℕ} n [] ≡ []
    nothing zero = refl
    nothing (suc n) = refl

pub part_long : (front : List ℕ) (lo n : ℕ) → length (part front lo n) ≡ min n (length front - lo)
part_long front lo n = length-take n (drop lo front) ∙ ap (min n) (length-drop lo front)

-- a range of which the first bytes have some, and the others are read
pub range_is : (image front read : List ℕ) (lo n : ℕ) → front ≡ take (length front) image → read ≡ take (n - length (part front lo n)) (drop (lo + length (part front lo n)) image) → part front lo n ++ read ≡ part image lo n
range_is image front read lo n cut is =
    let from = length (part front lo n) in
    let count = part_long front lo n in
    let whole : from + (n - from) ≡ n = omega (arith, count) in
    ap (λ xs. xs ++ read) (front_part image front lo n cut)
    ∙ ap (λ xs. take from (drop lo image) ++ xs) (is ∙ ap (take (n - from)) (sym (drop-drop from lo image)))
    ∙ sym (take-add from (n - from) (drop lo image))
    ∙ ap (λ k. take k (drop lo image)) whole

-- bytes that are enough are the first
pub enough_cut : (want : Want) (front image : List ℕ) → IsEnough want front image → front ≡ take (length front) image
enough_cut want front image enough = ⊎_elim (λ all. subst (λ x. front ≡ take (length front) x) all (sym (take_all (length front) front (omega arith)))) (λ cut. cut.0) enough

enough_again : (want : Want) (front image other : List ℕ) → IsEnough want front image → length image ≡ length other → front ≡ take (length front) other → IsEnough want front other
enough_again want front image other enough long cut =
    ⊎_elim
    (λ all. inl (cut ∙ take_all (length front) other (let same = ap length all in omega (arith, same, long))))
    (λ sound. inr (cut, sound.1))
    enough

front_short : (front image : List ℕ) → front ≡ take (length front) image → length front ≤ length image
front_short front image cut = let same = ap length cut in let l = length-take (length front) image in omega (arith, same, l)

-- all of an image stands in it
pub all_within : (size first n : ℕ) (ss : List SegmentView) → AreHeldWithin size first n 0 size ss
all_within size first n [] = tt
all_within size first n (s ∷ ss) = ((λ a after before covers file image. (omega arith, image)), all_within size first n ss)

-- what is lent
pub seen_by : (q : MemoryQuery) (front f : List ℕ) (size s at a : ℕ) (bytes b image : List ℕ) → f ≡ front → s ≡ size → a ≡ at → b ≡ bytes → IsSeenBy q front size at bytes image → IsSeenBy q f s a b image
seen_by q front f size s at a bytes b image is_front is_size is_at is_bytes by =
    subst (λ x. IsSeenBy q x s a b image) (sym is_front)
    (subst (λ x. IsSeenBy q front x a b image) (sym is_size)
    (subst (λ x. IsSeenBy q front size x b image) (sym is_at)
    (subst (λ x. IsSeenBy q front size at x image) (sym is_bytes) by)))

module _ {D : Type 0} (g : disk.Ghosts D) where
  -- what is seen was read
  pub seen_reads : (old new : Parts D) (seq : ℕ) (image front : List ℕ) → SeesImage g old seq image new → front ≡ take (length front) image → ReadsFront g old seq front new
  seen_reads old new seq image front sees cut = record {
    own = λ honest. (image, sees.own.bytes honest, cut, sees.own.long);
    state = sees.state;
    contents = sees.contents;
    quiet = sees.quiet;
    stays = sees.stays;
  }

  pub sized : (old new : Parts D) (seq size : ℕ) (image : List ℕ) → HasSize (state_of old) seq size → SeesImage g old seq image new → length image ≡ size
  sized old new seq size image has sees = sees.own.long has.0 has.1.1 ∙ has.2

  -- The image of which the first bytes were read, and a part: of the case's own where the disk is honest, and of one of that length
  -- on any disk.
  part_by : (old mid new : Parts D) (seq p m size : ℕ) (front read : List ℕ) → HasSize (state_of old) seq size → length front ≤ size → p + m ≤ size → (0 < m → length front ≤ p) → ReadsFront g old seq front mid → PartCall g mid seq p m (Ok tt) read new → (t : Bool) → g.is_honest old.disk ≡ t
      → (image : List ℕ) × SeesImage g old seq image new × (front ≡ take (length front) image) × (read ≡ take m (drop p image)) × (length image ≡ size)
  part_by old mid new seq p m size front read has within fits after reads call true e =
      let a = reads.own e in
      let b = call.bytes (reads.stays.honesty ∙ e) in
      let moved : image_at seq (state_of mid).cases (contents_of g.seen mid).images ≡ image_at seq (state_of old).cases (contents_of g.seen old).images =
      ap (λ (s : ArchiveState). image_at seq s.cases (contents_of g.seen mid).images) reads.state
      ∙ ap (λ (x : Contents). image_at seq (state_of old).cases x.images) (reads.contents e) in
      let is : b.0 ≡ a.0 = same_Some b.0 a.0 (sym b.1 ∙ moved ∙ a.1) in
      let sees : SeesImage g old seq a.0 new = record {
        own = record { bytes = λ honest. a.1; long = a.3 };
        state = call.step.2 ∙ reads.state;
        contents = λ honest. b.4 ∙ reads.contents honest;
        quiet = quiet_then g old.disk mid.disk new.disk reads.quiet call.quiet;
        stays = stays_then g old mid new reads.stays call.stays;
      } in
      (a.0, sees, a.2, b.2 ∙ ap (λ x. disk_part x p m) is ∙ part_is a.0 p m, a.3 has.0 has.1.1 ∙ has.2)
  part_by old mid new seq p m size front read has within fits after reads call false e =
      let x = made front read p m size call.count within fits after in
      let sees : SeesImage g old seq x.0 new = record {
        own = record {
          bytes = λ honest. absurd (false≢true (sym e ∙ honest));
          long = λ d found. x.3 ∙ sym has.2 ∙ ap (λ (c : Case). c.len) (same_Some has.0 d (sym has.1.1 ∙ found));
        };
        state = call.step.2 ∙ reads.state;
        contents = λ honest. absurd (false≢true (sym e ∙ honest));
        quiet = quiet_then g old.disk mid.disk new.disk reads.quiet call.quiet;
        stays = stays_then g old mid new reads.stays call.stays;
      } in
      (x.0, sees, x.1, x.2, x.3)

  -- a part that was read: the image begins with the first bytes, and has it
  pub range_read : (before mid new : Parts D) (seq size start n : ℕ) (k : KeptImage) (bytes : List ℕ) → HasSize (state_of before) seq size → SeesEnough g before seq Core (Ok k) mid → start + n ≤ size → ReadsRange g mid seq k.image.items start n (Ok tt) bytes new
      → (image : List ℕ) × SeesImage g before seq image new × IsEnough Core k.image.items image × IsFrontOf k.image.items size image × IsPartOf image start bytes × (length bytes ≡ n)
  range_read before mid new seq size start n k bytes has seen within reads =
      let front = k.image.items in
      let cut = enough_cut Core front seen.0 seen.2 in
      let long = sized before mid seq size seen.0 has seen.1 in
      let short = front_short front seen.0 cut in
      let few = part_long front start n in
      let x = part_by before mid new seq (start + length (part front start n)) (n - length (part front start n)) size front reads.0 has (omega (arith, long, short)) (omega (arith, few, within))
      (λ some. omega (arith, few, some)) (seen_reads before mid seq seen.0 front seen.1 cut) reads.1 (g.is_honest before.disk) refl in
      let is : bytes ≡ part x.0 start n = reads.2 ∙ range_is x.0 front reads.0 start n x.2 x.3 in
      let count : length bytes ≡ n = ap length is ∙ part_long x.0 start n ∙ (let all = x.4 in omega (arith, all, within)) in
      (x.0, x.1, enough_again Core front seen.0 x.0 seen.2 (long ∙ sym x.4) x.2, (x.4, x.2), is ∙ ap (part x.0 start) (sym count), count)

  -- a window that was read
  pub window_is_seen : (before mid new : Parts D) (seq size first n start past : ℕ) (k : KeptImage) (bytes : Vec ℕ Global) → HasSize (state_of before) seq size → SeesEnough g before seq Core (Ok k) mid → IsWanted k.image.items size first n start past
      → ReadsRange g mid seq k.image.items start (past - start) (Ok tt) bytes.items new → SeesDump g before seq first n (Ok (record { kept = k; size = size; part = Some (record { at = start; bytes = bytes }) })) new
  window_is_seen before mid new seq size first n start past k bytes has seen wanted reads =
      let range = wanted.range in
      let x = range_read before mid new seq size start (past - start) k bytes.items has seen (omega (arith, range.0, range.1)) reads in
      let count = x.5 in
      let end : past_of start bytes.items ≡ past = omega (arith, count, range.0) in
      let hand : IsAtHand k.image.items size start bytes.items first n x.0 = record {
        begins = x.3;
        has = x.4;
        all = λ inside. subst (λ e. AreHeldWithin size first n start e (segments_of k.image.items)) (sym end) (wanted.held inside);
      } in
      (x.0, x.1, (x.2, hand))

  -- first bytes that are enough, and no window
  pub first_is_seen : (before mid : Parts D) (seq size address : ℕ) (k : KeptImage) (s : Seen) → HasSize (state_of before) seq size → SeesEnough g before seq Core (Ok k) mid → s.kept ≡ k → s.size ≡ size → SeesFor g before seq (At address) (Ok s) mid
  first_is_seen before mid seq size address k s has seen kept long =
      let own = sized before mid seq size seen.0 has seen.1 in
      rw (kept, long) (seen.0, seen.1, (seen.2, (own, enough_cut Core k.image.items seen.0 seen.2)))

  -- a stack that was read, and shows its frames
  pub stack_is_seen : (before mid new : Parts D) (seq size thread start n : ℕ) (k : KeptImage) (bytes : Vec ℕ Global) → HasSize (state_of before) seq size → SeesEnough g before seq Core (Ok k) mid → start + n ≤ size
      → ReadsRange g mid seq k.image.items start n (Ok tt) bytes.items new → ((image : List ℕ) → IsFrontOf k.image.items size image → IsPartOf image start bytes.items → HasFrames k.image.items size bytes.items thread image)
      → SeesFor g before seq (Backtrace thread) (Ok (record { kept = k; size = size; part = Some (record { at = start; bytes = bytes }) })) new
  stack_is_seen before mid new seq size thread start n k bytes has seen within reads shows =
      let x = range_read before mid new seq size start n k bytes.items has seen within reads in
      (x.0, x.1, (x.2, shows x.0 x.3 x.4))

  pub window_refused : (before mid new : Parts D) (seq size first n start count : ℕ) (k : KeptImage) (bytes : List ℕ) (f : ArchiveFault) → HasSize (state_of before) seq size → SeesEnough g before seq Core (Ok k) mid
      → ReadsRange g mid seq k.image.items start count (Err f) bytes new → SeesDump g before seq first n (Err f) new
  window_refused before mid new seq size first n start count k bytes f has seen reads =
      let front = k.image.items in
      later_refused g before mid new seq (start + length (part front start count)) (count - length (part front start count)) front reads.0 f has.0 has.1
      (seen_reads before mid seq seen.0 front seen.1 (enough_cut Core front seen.0 seen.2)) reads.1

  -- all of an image that was read
  pub all_read : (before new : Parts D) (seq size : ℕ) (bytes : List ℕ) → HasSize (state_of before) seq size → ReadsFront g before seq bytes new → length bytes ≡ size → SeesImage g before seq bytes new
  all_read before new seq size bytes has reads count =
      let x = front_by g before new seq bytes has.0 has.1.1 (omega (arith, count, has.2)) reads (g.is_honest before.disk) refl in
      let all : bytes ≡ x.0 = x.2 ∙ take_all (length bytes) x.0 (let long = x.3 in omega (arith, long, count, has.2)) in
      subst (λ b. SeesImage g before seq b new) (sym all) x.1

  pub rest_sees : (before mid new : Parts D) (seq size : ℕ) (k : KeptImage) (bytes : List ℕ) → HasSize (state_of before) seq size → SeesEnough g before seq Core (Ok k) mid → ReadsUpTo g mid seq k.image.items size (Ok tt) bytes new → length bytes ≡ size → SeesImage g before seq bytes new
  rest_sees before mid new seq size k bytes has seen up count =
      let front = k.image.items in
      let cut = enough_cut Core front seen.0 seen.2 in
      let reads = subst (λ x. ReadsFront g before seq x new) (sym up.2) (next_read g before mid new seq (size - length front) front up.0 (seen_reads before mid seq seen.0 front seen.1 cut) up.1) in
      all_read before new seq size bytes has reads count

  pub rest_refused : (before mid new : Parts D) (seq size : ℕ) (q : MemoryQuery) (k : KeptImage) (bytes : List ℕ) (f : ArchiveFault) → HasSize (state_of before) seq size → SeesEnough g before seq Core (Ok k) mid → ReadsUpTo g mid seq k.image.items size (Err f) bytes new
      → SeesFor g before seq q (Err f) new
  rest_refused before mid new seq size q k bytes f has seen up =
      let front = k.image.items in
      up_refused g before mid new seq size size front bytes f has (seen_reads before mid seq seen.0 front seen.1 (enough_cut Core front seen.0 seen.2)) up

  -- all of an image
  pub all_seen : (old new : Parts D) (seq : ℕ) (q : MemoryQuery) (s : Seen) (image : List ℕ) → SeesImage g old seq image new → s.kept.image.items ≡ image → s.size ≡ length image → part_at s.part ≡ 0 → part_bytes s.kept.image.items s.part ≡ image
      → SeesFor g old seq q (Ok s) new
  all_seen old new seq (Dump first n) s image sees is size at bytes =
      let end : past_of 0 image ≡ length image = omega arith in
      let hand : IsAtHand image (length image) 0 image first n image = record {
        begins = (refl, sym (take_all (length image) image (omega arith)));
        has = sym (take_all (length image) image (omega arith));
        all = λ inside. subst (λ e. AreHeldWithin (length image) first n 0 e (segments_of image)) (sym end) (all_within (length image) first n (segments_of image));
      } in
      (image, sees, (inl is, rw (bytes, is, size, at) hand))
  all_seen old new seq (At address) s image sees is size at bytes = (image, sees, (inl is, rw (is, size) (refl, sym (take_all (length image) image (omega arith)))))
  all_seen old new seq (Find needle) s image sees is size at bytes = (image, sees, is)
  all_seen old new seq (Strings least) s image sees is size at bytes = (image, sees, is)
  all_seen old new seq (Unwind thread) s image sees is size at bytes = (image, sees, is)
  all_seen old new seq (Lines thread) s image sees is size at bytes = (image, sees, is)
  all_seen old new seq (Frame thread frame) s image sees is size at bytes = (image, sees, is)
  all_seen old new seq (Builds query) s image sees is size at bytes = (image, sees, is)
  all_seen old new seq (Backtrace thread) s image sees is size at bytes =
      let frames : HasFrames image (length image) image thread image = record {
        begins = (refl, sym (take_all (length image) image (omega arith)));
        frames = λ less. absurd (omega (arith, less));
      } in
      (image, sees, (inl is, rw (bytes, is, size) frames))

  -- first bytes that are all
  pub whole_front_seen : (old new : Parts D) (seq size : ℕ) (want : Want) (k : KeptImage) → HasSize (state_of old) seq size → SeesEnough g old seq want (Ok k) new → IsKept g new (Some k) → k.seq ≡ seq → k.is_whole ≡ true → SeesImage g old seq k.image.items new
  whole_front_seen old new seq size want k has seen kept at whole =
      let long = sized old new seq size seen.0 has seen.1 in
      let found : case_numbered k.seq (state_of new).cases ≡ Some has.0 = ap (λ (s : ArchiveState). case_numbered k.seq s.cases) seen.1.state ∙ ap (λ i. case_numbered i (state_of old).cases) at ∙ has.1.1 in
      let own = kept.1.long has.0 found in
      let same = ap length (kept.3 whole) in
      let all : k.image.items ≡ seen.0 = enough_cut want k.image.items seen.0 seen.2 ∙ take_all (length k.image.items) seen.0 (omega (arith, long, own, same, has.2)) in
      subst (λ b. SeesImage g old seq b new) (sym all) seen.1

  -- no more is kept than there is
  pub kept_short : (a : Parts D) (seq size : ℕ) (k : KeptImage) → HasSize (state_of a) seq size → IsKept g a (Some k) → k.seq ≡ seq → length k.image.items ≤ size
  kept_short a seq size k has kept at =
      let found : case_numbered k.seq (state_of a).cases ≡ Some has.0 = ap (λ i. case_numbered i (state_of a).cases) at ∙ has.1.1 in
      let own = kept.1.long has.0 found in
      let short = front_short k.image.items kept.0 kept.2 in
      omega (arith, own, short, has.2)

  pub still_sized : (old new : Parts D) (seq size : ℕ) (want : Want) (k : KeptImage) → HasSize (state_of old) seq size → SeesEnough g old seq want (Ok k) new → HasSize (state_of new) seq size
  still_sized old new seq size want k has seen = subst (λ (s : ArchiveState). HasSize s seq size) (sym seen.1.state) has

  -- what a part that was read leaves
  part_leaves : (old new : Parts D) (seq at n : ℕ) (read : List ℕ) → PartCall g old seq at n (Ok tt) read new → Leaves g old new
  part_leaves old new seq at n read call = record {
    stays = call.stays;
    halts = λ stopped. ap (λ (b : ArchiveState). b.stopped) call.step.2 ∙ stopped;
    cases = ap (λ (b : ArchiveState). b.cases) call.step.2;
    streams = inl (ap (λ (b : ArchiveState). b.streams) call.step.2);
    images = λ honest. ap (λ (c : Contents). c.images) (call.bytes honest).4;
    taken = λ honest. inl (ap (λ (c : Contents). c.taken) (call.bytes honest).4);
  }

  pub range_leaves : (old new : Parts D) (seq start n : ℕ) (front bytes : List ℕ) → ReadsRange g old seq front start n (Ok tt) bytes new → Leaves g old new
  range_leaves old new seq start n front bytes reads = part_leaves old new seq _ _ reads.0 reads.1

  pub kept_after : (old new : Parts D) (k : KeptImage) → Leaves g old new → IsKept g old (Some k) → IsKept g new (Some k)
  kept_after old new k leaves kept = (kept.0, own_still g old new k.seq kept.0 leaves kept.1, kept.2, kept.3)
