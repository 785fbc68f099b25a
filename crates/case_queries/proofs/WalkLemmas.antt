-- The image of a core, read window by window while its memory is searched.
use Rattle.std.proofs.Common.{◌≡◌, inl, inr, ℕ, suc, ◌+◌, ◌-◌, ◌<◌, ◌≤◌, List, [], ◌∷◌, ◌++◌, take, drop, get_or, length, Result, Ok, Err, refl, ap, sym, ◌∙◌, subst, arith}
use Rattle.std.specs.Prelude.{OnErr, OnOk}
use Rattle.std.proofs.lemmas.Bool.{cases_lt}
use Rattle.std.proofs.lemmas.List.{append-nil, length-append, take-append-le, take-take, drop-take}
use Rattle.std.proofs.Math.Seq.{drop-append_seam, drop-cons}
use Rattle.disk_model.specs.declared.disk.Disk as disk
use Rattle.elf_view.specs.Field.{part}
use Rattle.address_space.specs.Source.{Space}
use Rattle.address_space.specs.Whole.{IsFrontOf, space_in}
use Rattle.intake.specs.Part.{PartCall}
use Rattle.intake.specs.Parts.{Parts, state_of}
use Rattle.intake.specs.State.{ArchiveState}
use Rattle.intake.specs.QuietLaws.{quiet_then}
use Rattle.intake.specs.StayLaws.{stays_then}
use Rattle.intake.specs.declared.faults.ArchiveFault.{ArchiveFault}
use Rattle.case_queries.specs.Fronts.{HasSize, ReadsFront}
use Rattle.case_queries.specs.Seeing.{LooksAt}
use Rattle.case_queries.specs.Walking.{BeginsSo, HasStep, HasValues, IsAt, IsReadTo, LeadsOn, Walks, address_after}
use Rattle.case_queries.specs.Windows.{ReadsRange}
use Rattle.case_queries.specs.declared.walk.CaseImage.{CaseImage}
use Rattle.case_queries.specs.declared.walk.Walk.{Walk}
use Rattle.case_queries.specs.declared.walk.WalkFault.{WalkFault}
use Rattle.case_queries.specs.declared.walk.WalkFault.TheVariants.{Unread, OutOfMemory}
use Rattle.case_queries.proofs.FrontLemmas.{later_refused, next_read}
use Rattle.case_queries.proofs.WindowLemmas.{part_long, range_is}
use Rattle.windowed_search.specs.ScanWords.{Aim, HasScanned, aimed_at, next_address}
use Rattle.windowed_search.specs.Runs.{values_from}
use Rattle.windowed_search.specs.StepWords.{Leads, StepsFit, count_of, place_after}
use Rattle.windowed_search.specs.declared.steps.Step.{Step}
use Rattle.windowed_search.proofs.Values.{values_cut}

empty : (xs : List ℕ) → length xs ≡ 0 → xs ≡ []
empty [] h = refl
empty (x ∷ xs) h = absurd (omega (arith, h))

-- an image that begins with more bytes begins with the first of them
pub begins_less : (o : CaseImage) (xs ys image : List ℕ) → BeginsSo o (xs ++ ys) image → BeginsSo o xs image
begins_less o xs ys image begins =
    let long = length-append xs ys in
    (begins.0, sym (ap (take (length xs)) (sym begins.1) ∙ take-append-le (length xs) xs ys (omega arith) ∙ all xs) ∙ take-take (length xs) (length (xs ++ ys)) image (omega (arith, long)))
  where
    all : (zs : List ℕ) → take (length zs) zs ≡ zs
    all [] = refl
    all (z ∷ zs) = ap (λ t. z ∷ t) (all zs)

-- the first bytes of the image
pub begins_front : {D : Type 0} (g : disk.Ghosts D) (before : Parts D) (o : CaseImage) (at : ℕ) (bytes image : List ℕ) (now : Parts D) → IsReadTo g before o at bytes now → BeginsSo o bytes image → IsFrontOf o.front.now o.size image
begins_front g before o at bytes image now read begins =
    let long = read.long in
    (begins.0, read.begins ∙ ap (take (length o.front.now)) begins.1 ∙ take-take (length o.front.now) (length bytes) image (omega (arith, long)))

-- the bytes after the first
after : (o : CaseImage) (xs ys image : List ℕ) → BeginsSo o (xs ++ ys) image → ys ≡ take (length ys) (drop (length xs) image)
after o xs ys image begins =
    sym (drop-append_seam xs ys) ∙ ap (drop (length xs)) (begins.1 ∙ ap (λ k. take k image) (length-append xs ys)) ∙ drop-take (length xs) (length ys) image

module _ {D : Type 0} (g : disk.Ghosts D) (before : Parts D) (o : CaseImage) where
  -- what was read stays so while a part is read
  still_read : (mid new : Parts D) (p m : ℕ) (bytes read : List ℕ) → ReadsFront g before o.seq bytes mid → PartCall g mid o.seq p m (Ok tt) read new → ReadsFront g before o.seq bytes new
  still_read mid new p m bytes read reads call = record {
    own = reads.own;
    state = call.step.2 ∙ reads.state;
    contents = λ honest. (call.bytes (reads.stays.honesty ∙ honest)).4 ∙ reads.contents honest;
    quiet = quiet_then g before.disk mid.disk new.disk reads.quiet call.quiet;
    stays = stays_then g before mid new reads.stays call.stays;
  }

  -- n more bytes, and what they are
  pub record ReadsMore (at n : ℕ) (bytes buffer : List ℕ) (new : Parts D) : Type 0 where
    pub read : List ℕ
    pub to : IsReadTo g before o (at + n) (bytes ++ read) new
    pub window : (image : List ℕ) → BeginsSo o (bytes ++ read) image → buffer ≡ part image at n

  pub reads_more : (mid new : Parts D) (at n : ℕ) (bytes buffer : List ℕ) → IsReadTo g before o at bytes mid → at + n ≤ o.size → ReadsRange g mid o.seq o.front.now at n (Ok tt) buffer new → ReadsMore at n bytes buffer new
  reads_more mid new at n bytes buffer so_far fits range =
      let front = o.front.now in
      let read = range.0 in
      let call = range.1 in
      let k = length (part front at n) in
      let count : k ≡ _ = part_long front at n in
      let long = so_far.long in
      let within = so_far.within in
      let own = call.count in
      let both = length-append bytes read in
      let reads : ReadsFront g before o.seq (bytes ++ read) new = elim (cases_lt 0 (n - k)) as (λ _. ReadsFront g before o.seq (bytes ++ read) new) [
        | inl some ↦
            let place : at + k ≡ length bytes = omega (arith, count, long, some) in
            next_read g before mid new o.seq (n - k) bytes read so_far.reads (subst (λ p. PartCall g mid o.seq p (n - k) (Ok tt) read new) place call)
        | inr none ↦
            let nothing : read ≡ [] = empty read (omega (arith, own, none)) in
            subst (λ xs. ReadsFront g before o.seq xs new) (sym (ap (λ ys. bytes ++ ys) nothing ∙ append-nil bytes)) (still_read mid new (at + k) (n - k) bytes read so_far.reads call)
      ] in
      record {
        read = read;
        to = record {
          reads = reads;
          long = omega (arith, both, long, own, count);
          begins = so_far.begins ∙ sym (take-append-le (length front) bytes read (omega (arith, long)));
          within = omega (arith, both, long, own, count, within, fits);
        };
        window = λ image begins.
            let first : front ≡ take (length front) image = (begins_front g before o at bytes image mid so_far (begins_less o bytes read image begins)).1 in
            let rest : read ≡ take (n - k) (drop (at + k) image) = elim (cases_lt 0 (n - k)) as (λ _. read ≡ take (n - k) (drop (at + k) image)) [
              | inl some ↦
                  let place : length bytes ≡ at + k = omega (arith, count, long, some) in
                  after o bytes read image begins ∙ ap (λ m. take m (drop (length bytes) image)) own ∙ ap (λ p. take (n - k) (drop p image)) place
              | inr none ↦
                  let zero_is : n - k ≡ 0 = omega (arith, none) in
                  empty read (own ∙ zero_is) ∙ sym (ap (λ m. take m (drop (at + k) image)) zero_is)
            ] in
            range.2 ∙ range_is image front read at n first rest;
      }

  module _ (space : Space) (aim : Aim) where
    -- the next bytes of the image are in the window
    pub walk_reads : (mid new : Parts D) (w v : Walk) (n : ℕ) → IsAt g before space aim o w mid → w.at + n ≤ o.size → ReadsRange g mid o.seq o.front.now w.at n (Ok tt) v.buffer.items new → v.at ≡ w.at + n → length v.buffer.items ≡ n → v.search ≡ w.search
        → IsAt g before space aim o v new
    walk_reads mid new w v n so_far fits range at count same =
        let more = reads_more mid new w.at n so_far.bytes v.buffer.items so_far.read fits range in
        let place : w.at ≡ v.at - length v.buffer.items = omega (arith, at, count) in
        record {
          bytes = so_far.bytes ++ more.read;
          read = subst (λ p. IsReadTo g before o p (so_far.bytes ++ more.read) new) (sym at) more.to;
          window = λ image begins. more.window image begins ∙ ap (λ p. part image p n) place ∙ ap (part image (v.at - length v.buffer.items)) (sym count);
          searched = λ image begins. subst (HasScanned (space_in image space)) (sym same) (so_far.searched image (begins_less o so_far.bytes more.read image begins));
          asked = ap aimed_at same ∙ so_far.asked;
        }

    pub walk_refused : (mid new : Parts D) (w : Walk) (n : ℕ) (buffer : List ℕ) (f : ArchiveFault) → HasSize (state_of mid) o.seq o.size → IsAt g before space aim o w mid → ReadsRange g mid o.seq o.front.now w.at n (Err f) buffer new → LooksAt g before o.seq (Err f) new
    walk_refused mid new w n buffer f now so_far range =
        let has = subst (λ (s : ArchiveState). HasSize s o.seq o.size) so_far.read.reads.state now in
        later_refused g before mid new o.seq (w.at + length (part o.front.now w.at n)) (n - length (part o.front.now w.at n)) so_far.bytes range.0 f has.0 has.1 so_far.read.reads range.1

    -- the values in the window
    pub walk_takes : (now : Parts D) (w v : Walk) (a p n : ℕ) → IsAt g before space aim o w now → w.at ≡ p + n → length w.buffer.items ≡ n → next_address w.search ≡ a → HasValues space o a p n → v.at ≡ w.at → v.buffer ≡ w.buffer → aimed_at v.search ≡ aimed_at w.search
        → ((sp : Space) → HasScanned sp w.search → values_from sp (next_address w.search) (length w.buffer.items) ≡ w.buffer.items → HasScanned sp v.search) → IsAt g before space aim o v now
    walk_takes now w v a p n so_far at count address has same_at same needles fed =
        let place : w.at - length w.buffer.items ≡ p = omega (arith, at, count) in
        record {
          bytes = so_far.bytes;
          read = subst (λ q. IsReadTo g before o q so_far.bytes now) (sym same_at) so_far.read;
          window = λ image begins. rw (same, same_at) (so_far.window image begins);
          searched = λ image begins.
              fed (space_in image space) (so_far.searched image begins)
              (
              ap (λ b. values_from (space_in image space) b (length w.buffer.items)) address
              ∙ ap (values_from (space_in image space) a) count
              ∙ has image (begins_front g before o w.at so_far.bytes image now so_far.read begins)
              ∙ ap (part image p) (sym count)
              ∙ ap (λ q. part image q (length w.buffer.items)) (sym place)
              ∙ sym (so_far.window image begins)
              );
          asked = needles ∙ so_far.asked;
        }

    -- values that are at hand, or addresses that have none
    pub walk_feeds : (now : Parts D) (w v : Walk) → IsAt g before space aim o w now → v.at ≡ w.at → v.buffer ≡ w.buffer → aimed_at v.search ≡ aimed_at w.search
        → ((image : List ℕ) → IsFrontOf o.front.now o.size image → HasScanned (space_in image space) w.search → HasScanned (space_in image space) v.search) → IsAt g before space aim o v now
    walk_feeds now w v so_far same_at same needles fed = record {
      bytes = so_far.bytes;
      read = subst (λ q. IsReadTo g before o q so_far.bytes now) (sym same_at) so_far.read;
      window = λ image begins. rw (same, same_at) (so_far.window image begins);
      searched = λ image begins. fed image (begins_front g before o w.at so_far.bytes image now so_far.read begins) (so_far.searched image begins);
      asked = needles ∙ so_far.asked;
    }

-- the values of the next addresses, and of those after them
pub has_cut : (space : Space) (o : CaseImage) (a p m n : ℕ) → p + (m + n) ≤ o.size → HasValues space o a p (m + n) → HasValues space o a p m × HasValues space o (a + m) (p + m) n
has_cut space o a p m n fits has = (
  λ image front. (values_cut (space_in image space) image a p m n (subst (λ k. p + (m + n) ≤ k) (sym front.0) fits) (has image front)).0,
  λ image front. (values_cut (space_in image space) image a p m n (subst (λ k. p + (m + n) ≤ k) (sym front.0) fits) (has image front)).1,
)

module _ {D : Type 0} (g : disk.Ghosts D) (before : Parts D) (o : CaseImage) (space : Space) (aim : Aim) where
  -- the values of the next addresses, for which there may be no memory
  pub walk_file : (now : Parts D) (w v : Walk) (n : ℕ) (bytes : List ℕ) (r : Result (Unit {0}) WalkFault) → IsAt g before space aim o w now → v.at ≡ w.at → v.buffer ≡ w.buffer → aimed_at v.search ≡ aimed_at w.search
      → ((sp : Space) → HasScanned sp w.search → values_from sp (next_address w.search) n ≡ bytes → OnOk r (HasScanned sp v.search))
      → ((image : List ℕ) → IsFrontOf o.front.now o.size image → values_from (space_in image space) (next_address w.search) n ≡ bytes)
      → OnErr r (r ≡ Err OutOfMemory) → Walks g before space aim o v now r
  walk_file now w v n bytes (Ok u) so_far at buffer aims fed has full = walk_feeds g before o space aim now w v so_far at buffer aims (λ image front searched. fed (space_in image space) searched (has image front))
  walk_file now w v n bytes (Err (Unread f)) so_far at buffer aims fed has full = cc
  walk_file now w v n bytes (Err OutOfMemory) so_far at buffer aims fed has full = (w.at, so_far.bytes, so_far.read)

-- the steps that are left: the next, and those after it
one_left : (steps : List Step) (i : ℕ) (d s : Step) → i < length steps → s ≡ get_or steps i d → drop i steps ≡ s ∷ drop (i + 1) steps
one_left steps i d s within is = let next : suc i ≡ i + 1 = omega arith in drop-cons steps i d within ∙ ap (λ x. x ∷ drop (suc i) steps) (sym is) ∙ ap (λ n. s ∷ drop n steps) next

module _ (space : Space) (o : CaseImage) (steps : List Step) (i : ℕ) (d s : Step) (within : i < length steps) (is : s ≡ get_or steps i d) where
  pub step_has : (p a b : ℕ) → LeadsOn space o p a (drop i steps) b → HasStep space o p a s
  step_has p a b leads image front = (subst (λ (xs : List Step). (q : ℕ) × Leads image (space_in image space) p a xs q b) (one_left steps i d s within is) (leads image front)).1.0

  pub step_leads : (p a b p' a' : ℕ) → p' ≡ place_after p s → a' ≡ a + count_of s → LeadsOn space o p a (drop i steps) b → LeadsOn space o p' a' (drop (i + 1) steps) b
  step_leads p a b p' a' place address leads image front =
      let all = subst (λ (xs : List Step). (q : ℕ) × Leads image (space_in image space) p a xs q b) (one_left steps i d s within is) (leads image front) in
      (all.0, subst (λ k. Leads image (space_in image space) k a' (drop (i + 1) steps) all.0 b) (sym place) (subst (λ k. Leads image (space_in image space) (place_after p s) k (drop (i + 1) steps) all.0 b) (sym address) all.1.2))

module _ (steps : List Step) (i : ℕ) (d s : Step) (within : i < length steps) (is : s ≡ get_or steps i d) where
  pub step_fits : (size p a p' a' : ℕ) → p' ≡ place_after p s → a' ≡ a + count_of s → StepsFit size p a (drop i steps) → StepsFit size p' a' (drop (i + 1) steps)
  step_fits size p a p' a' place address fit =
      let all = subst (StepsFit size p a) (one_left steps i d s within is) fit in
      subst (λ k. StepsFit size k a' (drop (i + 1) steps)) (sym place) (subst (λ k. StepsFit size (place_after p s) k (drop (i + 1) steps)) (sym address) all.2)

  pub step_after : (a a' : ℕ) → a' ≡ a + count_of s → address_after a' (drop (i + 1) steps) ≡ address_after a (drop i steps)
  step_after a a' address = ap (λ k. address_after k (drop (i + 1) steps)) address ∙ sym (ap (address_after a) (one_left steps i d s within is))
