-- The first bytes of an image, read one part after the other.
use Rattle.std.proofs.Common.{◌≡◌, ◌≢◌, ◌⊎◌, inl, inr, ⊎_elim, ℕ, ◌+◌, ◌-◌, ◌≤◌, Bool, true, false, List, [], ◌∷◌, ◌++◌, min, take, length, replicate, Option, None, Some, Result, Ok, Err, Vec, Global, refl, ap, sym, ◌∙◌, subst, arith}
use Rattle.std.proofs.lemmas.Bool.{false≢true}
use Rattle.std.proofs.lemmas.Option.{same_Some}
use Rattle.std.proofs.lemmas.List.{length-append, length-replicate, take_all}
use Rattle.std.proofs.Math.Seq.{take-append_seam, take-add}
use Rattle.disk_model.specs.Places.{part}
use Rattle.disk_model.specs.PartLaws.{part_is}
use Rattle.disk_model.specs.declared.disk.Disk as disk
use Rattle.elf_view.specs.declared.faults.Want.{Want}
use Rattle.intake.specs.Contents.{Contents, UnmovedBytes, image_at}
use Rattle.intake.specs.Part.{PartCall}
use Rattle.intake.specs.Parts.{Parts, state_of, contents_of}
use Rattle.intake.specs.QuietLaws.{quiet_none, quiet_then}
use Rattle.intake.specs.State.{ArchiveState}
use Rattle.intake.specs.StayLaws.{stays_none, stays_then}
use Rattle.intake.specs.Step.{ImageStep, HasCase}
use Rattle.intake.specs.Untouched.{RefusalSpares}
use Rattle.intake.specs.declared.faults.ArchiveFault.{ArchiveFault}
use Rattle.intake.specs.declared.faults.ArchiveFault.TheVariants.{Stopped, NoCase, OutOfMemory, Disk}
use Rattle.case_queries.specs.Fronts.{HasSize, IsSoundFront, ReadsEnough, ReadsFront, ReadsUpTo, SeesEnough}
use Rattle.case_queries.specs.LeaveLaws.{own_still, looks_leaves}
use Rattle.case_queries.specs.Seeing.{AreOfCase, IsKept, LooksAt, SeesImage, image_held}
use Rattle.case_queries.specs.declared.kept_image.KeptImage.{KeptImage}
use Rattle.case_queries.proofs.AgainLemmas.{seen_again}
use Rattle.journal_layout.specs.Soundness.{case_numbered}
use Rattle.journal_layout.specs.Case.{Case}

-- the first bytes of an image, and those after them
behind : (image front bytes : List ℕ) (n : ℕ) → front ≡ take (length front) image → bytes ≡ part image (length front) n → length bytes ≡ n → front ++ bytes ≡ take (length (front ++ bytes)) image
behind image front bytes n first second long =
    ap (λ x. x ++ bytes) first
    ∙ ap (λ x. take (length front) image ++ x) (second ∙ part_is image (length front) n)
    ∙ sym (take-add (length front) n image)
    ∙ ap (λ k. take k image) (ap (λ k. length front + k) (sym long) ∙ sym (length-append front bytes))

-- a part that begins the image
begins : (image bytes : List ℕ) (n : ℕ) → bytes ≡ part image 0 n → length bytes ≡ n → bytes ≡ take (length bytes) image
begins image bytes n is long = is ∙ part_is image 0 n ∙ ap (λ k. take k image) (sym long)

memory_not : OutOfMemory ≡ Disk → ⊥
memory_not e = cc

-- Reading a part of a case's image fails by the disk alone.
module _ (s t : ArchiveState) (seq : ℕ) (c : Case) (has : HasCase s seq c) where
  part_step : (f : ArchiveFault) → ImageStep {T = Unit {0}} s seq (Err f) t → ImageStep {T = Vec ℕ Global} s seq (Err f) t
  part_step Stopped step = step
  part_step NoCase step = step
  part_step OutOfMemory step = step
  part_step Disk step = step
  part_step _ step = absurd step

  part_spares : {D : Type 0} (old new : D) (f : ArchiveFault) → ImageStep {T = Unit {0}} s seq (Err f) t → f ≢ OutOfMemory → RefusalSpares {T = Vec ℕ Global} (Err f) old new
  part_spares old new Disk step never = tt
  part_spares old new Stopped step never = absurd (false≢true (sym has.0 ∙ step.0))
  part_spares old new NoCase step never = absurd (none_some (sym step.1 ∙ has.1))
    where
      none_some : ◌≡◌ {A = Option Case} None (Some c) → ⊥
      none_some e = cc
  part_spares old new OutOfMemory step never = absurd (never refl)
  part_spares old new _ step never = absurd step

module _ {D : Type 0} (g : disk.Ghosts D) where
  -- nothing is read yet
  pub none_refused : (old : Parts D) (seq : ℕ) (c : Case) → ((x : List ℕ) → g.left_since old.disk (g.clock old.disk) x → g.may_leave old.disk x) → HasCase (state_of old) seq c → LooksAt g old seq (Err OutOfMemory) old
  none_refused old seq c only has = record {
    step = (c, has, refl);
    bytes = λ honest. refl;
    cause = λ is. absurd (memory_not is);
    quiet = quiet_none g old.disk only;
    stays = stays_none g old;
    untouched = λ never. absurd (never refl);
  }

  -- no memory for more than these bytes, which are read
  pub memory_refused : (old new : Parts D) (seq size : ℕ) (front : List ℕ) → HasSize (state_of old) seq size → ReadsFront g old seq front new → LooksAt g old seq (Err OutOfMemory) new
  memory_refused old new seq size front has reads = record {
    step = (has.0, has.1, reads.state);
    bytes = reads.contents;
    cause = λ is. absurd (memory_not is);
    quiet = reads.quiet;
    stays = reads.stays;
    untouched = λ never. absurd (never refl);
  }

  pub first_refused : (old new : Parts D) (seq at n : ℕ) (bytes : List ℕ) (f : ArchiveFault) (c : Case) → HasCase (state_of old) seq c → PartCall g old seq at n (Err f) bytes new → LooksAt g old seq (Err f) new
  first_refused old new seq at n bytes f c has call = record {
    step = part_step (state_of old) (state_of new) seq c has f call.step;
    bytes = call.bytes;
    cause = call.cause;
    quiet = call.quiet;
    stays = call.stays;
    untouched = λ never. part_spares (state_of old) (state_of new) seq c has old.disk new.disk f call.step never;
  }

  -- a part that can't be read, of an image of which the first bytes were
  pub later_refused : (old mid new : Parts D) (seq at n : ℕ) (front bytes : List ℕ) (f : ArchiveFault) (c : Case) → HasCase (state_of old) seq c → ReadsFront g old seq front mid
      → PartCall g mid seq at n (Err f) bytes new → LooksAt g old seq (Err f) new
  later_refused old mid new seq at n front bytes f c has reads call =
      let step : ImageStep {T = Unit {0}} (state_of old) seq (Err f) (state_of new) = subst (λ (s : ArchiveState). ImageStep {T = Unit {0}} s seq (Err f) (state_of new)) reads.state call.step in
      let later = reads.stays.later in
      record {
        step = part_step (state_of old) (state_of new) seq c has f step;
        bytes = λ honest. subst (λ (x : Contents). UnmovedBytes x f (contents_of g.seen new)) (reads.contents honest) (call.bytes (reads.stays.honesty ∙ honest));
        cause = λ is. (let risen = call.cause is in grind (arith, risen, later));
        quiet = quiet_then g old.disk mid.disk new.disk reads.quiet call.quiet;
        stays = stays_then g old mid new reads.stays call.stays;
        untouched = λ never. part_spares (state_of old) (state_of new) seq c has old.disk new.disk f step never;
      }

  -- more can't be read of an image of which the first bytes were
  pub up_refused : (old mid new : Parts D) (seq size end : ℕ) (front front' : List ℕ) (f : ArchiveFault) → HasSize (state_of old) seq size → ReadsFront g old seq front mid → ReadsUpTo g mid seq front end (Err f) front' new → LooksAt g old seq (Err f) new
  up_refused old mid new seq size end front front' f has reads up =
      ⊎_elim
      (λ memory. subst (λ e. LooksAt g old seq (Err e) new) (sym memory.0) (subst (LooksAt g old seq (Err OutOfMemory)) (sym memory.1) (memory_refused old mid seq size front has reads)))
      (λ call. later_refused old mid new seq (length front) (end - length front) front call.0 f has.0 has.1 reads call.1)
      up

  pub first_read : (old new : Parts D) (seq n : ℕ) (bytes : List ℕ) → PartCall g old seq 0 n (Ok tt) bytes new → ReadsFront g old seq bytes new
  first_read old new seq n bytes call = record {
    own = λ honest. (let p = call.bytes honest in (p.0, p.1, begins p.0 bytes n p.2 call.count, p.3));
    state = call.step.2;
    contents = λ honest. (call.bytes honest).4;
    quiet = call.quiet;
    stays = call.stays;
  }

  pub next_read : (old mid new : Parts D) (seq n : ℕ) (front bytes : List ℕ) → ReadsFront g old seq front mid → PartCall g mid seq (length front) n (Ok tt) bytes new → ReadsFront g old seq (front ++ bytes) new
  next_read old mid new seq n front bytes reads call = record {
    own = λ honest.
        let a = reads.own honest in
        let p = call.bytes (reads.stays.honesty ∙ honest) in
        let moved : image_at seq (state_of mid).cases (contents_of g.seen mid).images ≡ image_at seq (state_of old).cases (contents_of g.seen old).images =
        ap (λ (s : ArchiveState). image_at seq s.cases (contents_of g.seen mid).images) reads.state
        ∙ ap (λ (x : Contents). image_at seq (state_of old).cases x.images) (reads.contents honest) in
        let is : p.0 ≡ a.0 = same_Some p.0 a.0 (sym p.1 ∙ moved ∙ a.1) in
        (a.0, a.1, behind a.0 front bytes n a.2 (p.2 ∙ ap (λ x. part x (length front) n) is) call.count, a.3);
    state = call.step.2 ∙ reads.state;
    contents = λ honest. (call.bytes (reads.stays.honesty ∙ honest)).4 ∙ reads.contents honest;
    quiet = quiet_then g old.disk mid.disk new.disk reads.quiet call.quiet;
    stays = stays_then g old mid new reads.stays call.stays;
  }

  -- What is read is the first bytes of an image that a line may see: of the case's own where the disk is honest, and of one of that
  -- length on any disk.
  pub front_by : (old new : Parts D) (seq : ℕ) (front : List ℕ) (c : Case) → case_numbered seq (state_of old).cases ≡ Some c → length front ≤ c.len → ReadsFront g old seq front new → (t : Bool) → g.is_honest old.disk ≡ t
      → (image : List ℕ) × SeesImage g old seq image new × (front ≡ take (length front) image) × (length image ≡ c.len)
  front_by old new seq front c at fits reads true e =
      let a = reads.own e in
      let sees : SeesImage g old seq a.0 new = record {
        own = record { bytes = λ honest. a.1; long = a.3 };
        state = reads.state;
        contents = reads.contents;
        quiet = reads.quiet;
        stays = reads.stays;
      } in
      (a.0, sees, a.2, a.3 c at)
  front_by old new seq front c at fits reads false e =
      let image = front ++ replicate (c.len - length front) 0 in
      let long : length image ≡ c.len = length-append front (replicate (c.len - length front) 0) ∙ ap (λ k. length front + k) (length-replicate (c.len - length front) 0) ∙ omega (arith, fits) in
      let sees : SeesImage g old seq image new = record {
        own = record {
          bytes = λ honest. absurd (false≢true (sym e ∙ honest));
          long = λ d found. long ∙ ap (λ (x : Case). x.len) (same_Some c d (sym at ∙ found));
        };
        state = reads.state;
        contents = λ honest. absurd (false≢true (sym e ∙ honest));
        quiet = reads.quiet;
        stays = reads.stays;
      } in
      (image, sees, sym (take-append_seam front (replicate (c.len - length front) 0)), long)

  -- What is read so far: it is no longer than the image, and has the bytes that are read at first.
  pub record FrontIsRead (old : Parts D) (seq size : ℕ) (front : List ℕ) (now : Parts D) : Type 0 where
    pub reads : ReadsFront g old seq front now
    pub short : length front ≤ size
    pub first : min size 65536 ≤ length front

  -- no more is asked for than there is
  pub size_fits : (s t : ArchiveState) (seq size end : ℕ) → HasSize s seq size → t ≡ s → end ≤ size → (c : Case) → case_numbered seq t.cases ≡ Some c → end ≤ c.len
  size_fits s t seq size end has same within c at =
      let found = ap (λ (x : ArchiveState). case_numbered seq x.cases) (sym same) ∙ at in
      let is = ap (λ (x : Case). x.len) (same_Some has.0 c (sym has.1.1 ∙ found)) in
      omega (arith, within, is, has.2)

  pub read_first : (old new : Parts D) (seq size end : ℕ) (front front' : List ℕ) → length front ≡ 0 → ReadsUpTo g old seq front end (Ok tt) front' new → length front' ≤ size → min size 65536 ≤ length front'
      → FrontIsRead old seq size front' new
  read_first old new seq size end [] front' none up short first = record {
    reads = subst (λ x. ReadsFront g old seq x new) (sym up.2) (first_read old new seq (end - 0) up.0 up.1);
    short = short;
    first = first;
  }
  read_first old new seq size end (x ∷ xs) front' none up short first = absurd (omega (arith, none))

  pub read_next : (old mid new : Parts D) (seq size end : ℕ) (front front' : List ℕ) → FrontIsRead old seq size front mid → ReadsUpTo g mid seq front end (Ok tt) front' new → length front' ≤ size
      → FrontIsRead old seq size front' new
  read_next old mid new seq size end front front' so_far up short = record {
    reads = subst (λ x. ReadsFront g old seq x new) (sym up.2) (next_read old mid new seq (end - length front) front up.0 so_far.reads up.1);
    short = short;
    first = (let least = so_far.first in omega (arith, least, ap length up.2, length-append front up.0));
  }

  pub refused_first : (old new : Parts D) (seq size end : ℕ) (front front' : List ℕ) (f : ArchiveFault) → ((x : List ℕ) → g.left_since old.disk (g.clock old.disk) x → g.may_leave old.disk x) → HasSize (state_of old) seq size
      → ReadsUpTo g old seq front end (Err f) front' new → LooksAt g old seq (Err f) new
  refused_first old new seq size end front front' f only has up =
      ⊎_elim
      (λ memory. subst (λ e. LooksAt g old seq (Err e) new) (sym memory.0) (subst (LooksAt g old seq (Err OutOfMemory)) (sym memory.1) (none_refused old seq has.0 only has.1)))
      (λ call. first_refused old new seq (length front) (end - length front) call.0 f has.0 has.1 call.1)
      up

  pub refused_next : (old mid new : Parts D) (seq size end : ℕ) (front front' : List ℕ) (f : ArchiveFault) → HasSize (state_of old) seq size → FrontIsRead old seq size front mid
      → ReadsUpTo g mid seq front end (Err f) front' new → LooksAt g old seq (Err f) new
  refused_next old mid new seq size end front front' f has so_far up = up_refused old mid new seq size end front front' f has so_far.reads up

  pub read_enough : (old new : Parts D) (seq size : ℕ) (want : Want) (image : Vec ℕ Global) → HasSize (state_of old) seq size → FrontIsRead old seq size image.items new
      → (length image.items ≡ size) ⊎ IsSoundFront want image.items → ReadsEnough g old seq want size (Ok image) new
  read_enough old new seq size want image has so_far enough =
      let short = so_far.short in
      let first = so_far.first in
      let p = front_by old new seq image.items has.0 has.1.1 (omega (arith, short, has.2)) so_far.reads (g.is_honest old.disk) refl in
      (p.0, p.1, p.2, p.3 ∙ has.2, enough, first)

  -- an image that was read now, or its first bytes
  pub enough_read : (old new : Parts D) (seq size : ℕ) (want : Want) (k : KeptImage) → ReadsEnough g old seq want size (Ok k.image) new → SeesEnough g old seq want (Ok k) new
  enough_read old new seq size want k reads =
      (reads.0, reads.1, ⊎_elim (λ all. inl (reads.2 ∙ ap (λ n. take n reads.0) (all ∙ sym reads.3) ∙ take_all (length reads.0) reads.0 (omega arith))) (λ sound. inr (reads.2, sound)) reads.4)

  pub read_is_kept : (old new : Parts D) (seq size : ℕ) (want : Want) (k : KeptImage) → k.seq ≡ seq → (k.is_whole ≡ true → length k.image.items ≡ size) → ReadsEnough g old seq want size (Ok k.image) new → IsKept g new (Some k)
  read_is_kept old new seq size want k at whole reads =
      let own = own_still g old new seq reads.0 (looks_leaves g old new seq (Ok reads.0) reads.1) reads.1.own in
      (reads.0, subst (λ n. AreOfCase g new n reads.0) (sym at) own, reads.2, λ is. reads.2 ∙ ap (λ n. take n reads.0) (whole is ∙ sym reads.3) ∙ take_all (length reads.0) reads.0 (omega arith))

  -- the whole image, read now
  pub whole_is_kept : (old new : Parts D) (seq : ℕ) (k : KeptImage) → k.seq ≡ seq → k.is_whole ≡ true → SeesImage g old seq k.image.items new → IsKept g new (Some k)
  whole_is_kept old new seq k at whole sees =
      let own = own_still g old new seq k.image.items (looks_leaves g old new seq (Ok k.image.items) sees) sees.own in
      (k.image.items, subst (λ n. AreOfCase g new n k.image.items) (sym at) own, sym (take_all (length k.image.items) k.image.items (omega arith)), λ is. refl)

  -- what is kept is seen without a read
  module _ (now : Parts D) (only : (x : List ℕ) → g.left_since now.disk (g.clock now.disk) x → g.may_leave now.disk x) where
    pub kept_is_seen : (kept : Option KeptImage) (k : KeptImage) (seq : ℕ) → kept ≡ Some k → k.seq ≡ seq → k.is_whole ≡ true → IsKept g now kept → SeesImage g now seq k.image.items now
    kept_is_seen kept k seq is at whole keeps =
        let held : IsKept g now (Some k) = subst (IsKept g now) is keeps in
        let own : AreOfCase g now seq held.0 = subst (λ n. AreOfCase g now n held.0) at held.1 in
        seen_again g now only seq k.image.items (subst (AreOfCase g now seq) (sym (held.3 whole)) own)

    pub kept_is_enough : (kept : Option KeptImage) (k : KeptImage) (seq : ℕ) (want : Want) → kept ≡ Some k → k.seq ≡ seq → (k.is_whole ≡ true) ⊎ IsSoundFront want k.image.items → IsKept g now kept → SeesEnough g now seq want (Ok k) now
    kept_is_enough kept k seq want is at enough keeps =
        let held : IsKept g now (Some k) = subst (IsKept g now) is keeps in
        let own : AreOfCase g now seq held.0 = subst (λ n. AreOfCase g now n held.0) at held.1 in
        (held.0, seen_again g now only seq held.0 own, ⊎_elim (λ whole. inl (held.3 whole)) (λ sound. inr (held.2, sound)) enough)

  -- the whole image is enough
  pub whole_is_enough : (old new : Parts D) (seq : ℕ) (want : Want) (r : Result KeptImage ArchiveFault) → LooksAt g old seq (image_held r) new → SeesEnough g old seq want r new
  whole_is_enough old new seq want (Ok k) looks = (k.image.items, looks, inl refl)
  whole_is_enough old new seq want (Err f) looks = looks
