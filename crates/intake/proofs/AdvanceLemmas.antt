-- How a stream's growth is a step of the archive.
use Rattle.std.proofs.Common.{◌≡◌, ◌≢◌, inl, inr, ⊎_elim, ℕ, zero, suc, ◌+◌, ◌/◌, ◌%◌, ◌^◌, ◌<◌, ◌≤◌, Bool, true, false, List, [], ◌∷◌, ◌++◌, length, map, set, take, drop, refl, sym, ap, ◌∙◌, subst, arith, Option, None, Some, Ok, Err}
use Rattle.std.specs.Prelude.{option_map, slice_set, nat_lt}
use Rattle.std.proofs.lemmas.Bool.{cases_eq}
use Rattle.std.specs.Str.{bytes_eq}
use Rattle.std.proofs.lemmas.List.{map-set, set-set, set-get_or, length-set}
use Rattle.std.proofs.lemmas.List.Sums.{sum_by-cons}
use Rattle.disk_model.specs.declared.disk.Disk as disk
use Rattle.extents.specs.FreeSet.{is_free, free_count, uses, one_if}
use Rattle.journal_layout.specs.Case.{Case}
use Rattle.journal_layout.specs.declared.shape.Shape.{Shape}
use Rattle.case_journal.specs.Journaled.{Journaled}
use Rattle.intake.specs.Guarding.{Guards}
use Rattle.intake.specs.declared.faults.ArchiveFault.{ArchiveFault}
use Rattle.intake.specs.declared.faults.ArchiveFault.TheVariants as fault
use Rattle.intake.specs.Balance.{Balances}
use Rattle.intake.specs.Blocks.{joined, image_in}
use Rattle.intake.specs.Contents.{Taken, advanced, with_taken, without_streams, RefusedBytes, AdvanceBytes}
use Rattle.intake.specs.Ending.{EndsStreams}
use Rattle.intake.specs.Growth.{AddsLowest, ChangesFree, NeedsBlock, Grows}
use Rattle.intake.proofs.LowestLemmas.{grown_fills}
use Rattle.intake.specs.Live.{case_uses}
use Rattle.intake.specs.Parts.{Parts, StreamParts, state_of, stream_facts, taken_in, contents_of}
use Rattle.intake.specs.Room.{FitsFree}
use Rattle.intake.specs.Slots.{stream_at, closed}
use Rattle.intake.specs.Sound.{IsArchiveSound, IsRunning, IsFine, IsFineIfOpen, held_by, stream_uses}
use Rattle.intake.specs.State.{StreamFacts, blocks_in}
use Rattle.intake.specs.Step.{AdvanceStep, MayGrow, FindsNoBlock, longer, with_stream, halted}
use Rattle.intake.proofs.BlockLemmas.{joined_other}
use Rattle.intake.proofs.SoundLemmas.{sound_with, sound_dropped, sound_halted, slot_below, in_use, fine_at, length-zero_block}
use Rattle.intake.proofs.StepLemmas.{state_with, some_there}

one_if_most : (t : Bool) → one_if t ≤ 1
one_if_most true = omega arith
one_if_most false = omega arith

-- no free block is one of these
abbrev AreApart : List Bool → List ℕ → Type 0
AreApart flags held = (k : ℕ) → is_free flags k ≡ true → uses held k ≡ 0

joined_spared : (shape : Shape) (flags : List Bool) (a b : List ℕ) (held : List ℕ) → AreApart flags held → ChangesFree shape flags a b → joined shape b held ≡ joined shape a held
joined_spared shape flags a b held apart changes =
    ⊎_elim (λ e. ap (λ (x : List ℕ). joined shape x held) e) (λ h. joined_other shape h.0 a b h.2 held (apart h.0 h.1)) changes

images_spared : (shape : Shape) (flags : List Bool) (a b : List ℕ) (cases : List Case) → ((k : ℕ) → is_free flags k ≡ true → case_uses cases k ≡ 0) → ChangesFree shape flags a b
    → map (λ (c : Case). image_in shape b c.blocks c.len) cases ≡ map (λ (c : Case). image_in shape a c.blocks c.len) cases
images_spared shape flags a b [] apart changes = refl
images_spared shape flags a b (c ∷ rest) apart changes =
    let s : (k : ℕ) → case_uses (c ∷ rest) k ≡ uses c.blocks k + case_uses rest k = λ k. sum_by-cons (λ (x : Case). uses x.blocks k) c rest in
    let image : image_in shape b c.blocks c.len ≡ image_in shape a c.blocks c.len =
    ap (take c.len) (joined_spared shape flags a b c.blocks (λ k free. (let h = apart k free in let e = s k in omega (arith, h, e))) changes) in
    ap (λ (x : List ℕ). x ∷ map (λ (y : Case). image_in shape b y.blocks y.len) rest) image
    ∙ ap (λ (xs : List (List ℕ)). image_in shape a c.blocks c.len ∷ xs) (images_spared shape flags a b rest (λ k free. (let h = apart k free in let e = s k in omega (arith, h, e))) changes)

taken_spared : (j : Journaled) (flags : List Bool) (a b : List ℕ) (streams : List (Option StreamParts)) → ((k : ℕ) → is_free flags k ≡ true → stream_uses streams k ≡ 0) → ChangesFree j.standing.shape flags a b
    → map (option_map (taken_in j b)) streams ≡ map (option_map (taken_in j a)) streams
taken_spared j flags a b [] apart changes = refl
taken_spared j flags a b (o ∷ rest) apart changes =
    ap (λ (x : Option Taken). x ∷ map (option_map (taken_in j b)) rest) (one o (λ k free. (let h = apart k free in let e = s k in omega (arith, h, e))))
    ∙ ap (λ (xs : List (Option Taken)). option_map (taken_in j a) o ∷ xs) (taken_spared j flags a b rest (λ k free. (let h = apart k free in let e = s k in omega (arith, h, e))) changes)
  where
    s : (k : ℕ) → stream_uses (o ∷ rest) k ≡ uses (held_by o) k + stream_uses rest k
    s k = sum_by-cons (λ (x : Option StreamParts). uses (held_by x) k) o rest

    one : (x : Option StreamParts) → AreApart flags (held_by x) → option_map (taken_in j b) x ≡ option_map (taken_in j a) x
    one None apart' = refl
    one (Some t) apart' =
        ap (λ (y : List ℕ). Some (record { bytes = y ++ take (t.facts.len % 4096) t.block; free = drop (t.facts.len % 4096) t.block })) (joined_spared j.standing.shape flags a b t.facts.blocks apart' changes)

closed_set : {X : Type 0} (xs : List (Option X)) (slot : ℕ) (o : Option X) → closed (set xs slot o) ≡ closed xs
closed_set [] slot o = refl
closed_set {X} (x ∷ xs) zero o = refl
closed_set {X} (x ∷ xs) (suc slot) o = ap (λ (l : List (Option X)). None ∷ l) (closed_set xs slot o)

pub closed_map : {X Y : Type 0} (f : X → Y) (xs : List (Option X)) → map (option_map f) (closed xs) ≡ closed (map (option_map f) xs)
closed_map f [] = refl
closed_map {Y = Y} f (x ∷ xs) = ap (λ (l : List (Option Y)). None ∷ l) (closed_map f xs)

pub none_set : {X : Type 0} (xs : List (Option X)) (slot : ℕ) → stream_at xs slot ≡ None → slice_set xs slot None ≡ xs
none_set xs slot e = ap (set xs slot) (sym e) ∙ set-get_or xs slot None

-- The bytes that a call leaves which changes one free block at most, and a slot.
module _ {D : Type 0} (g : disk.Ghosts D) (d d' : D) (j : Journaled) (most : ℕ) (flags : List Bool) (streams : List (Option StreamParts)) (slot : ℕ) (b b' : Bool)
    (running : IsRunning g d j most flags streams) (changes : ChangesFree j.standing.shape flags (g.seen d) (g.seen d')) where
  abbrev old : Parts D
  old = record { disk = d; journal = j; limit = most; streams = streams; stopped = b }

  cases_apart : (k : ℕ) → is_free flags k ≡ true → case_uses j.standing.cases k ≡ 0
  cases_apart k free = let h = running.once k in let e = ap one_if free in let m = one_if_most (nat_lt k j.standing.shape.data_blocks) in omega (arith, h, e, m)

  streams_apart : (k : ℕ) → is_free flags k ≡ true → stream_uses streams k ≡ 0
  streams_apart k free = let h = running.once k in let e = ap one_if free in let m = one_if_most (nat_lt k j.standing.shape.data_blocks) in omega (arith, h, e, m)

  images : map (λ (c : Case). image_in j.standing.shape (g.seen d') c.blocks c.len) j.standing.cases ≡ map (λ (c : Case). image_in j.standing.shape (g.seen d) c.blocks c.len) j.standing.cases
  images = images_spared j.standing.shape flags (g.seen d) (g.seen d') j.standing.cases cases_apart changes

  pub contents_moved : (o : Option StreamParts) → contents_of g.seen (record { disk = d'; journal = j; limit = most; streams = set streams slot o; stopped = b' })
      ≡ with_taken (contents_of g.seen old) slot (option_map (taken_in j (g.seen d')) o)
  contents_moved o =
      ap (λ (x : List (Option Taken)). record { images = map (λ (c : Case). image_in j.standing.shape (g.seen d') c.blocks c.len) j.standing.cases; taken = x })
      (map-set (option_map (taken_in j (g.seen d'))) streams slot o
      ∙ ap (λ (l : List (Option Taken)). set l slot (option_map (taken_in j (g.seen d')) o)) (taken_spared j flags (g.seen d) (g.seen d') streams streams_apart changes))
      ∙ ap (λ (x : List (List ℕ)). record { images = x; taken = set (map (option_map (taken_in j (g.seen d))) streams) slot (option_map (taken_in j (g.seen d')) o) }) images

  pub contents_closed : (o : Option StreamParts) → contents_of g.seen (record { disk = d'; journal = j; limit = most; streams = closed (set streams slot o); stopped = b' }) ≡ without_streams (contents_of g.seen old)
  contents_closed o =
      ap (λ (x : List (Option Taken)). record { images = map (λ (c : Case). image_in j.standing.shape (g.seen d') c.blocks c.len) j.standing.cases; taken = x })
      (ap (map (option_map (taken_in j (g.seen d')))) (closed_set streams slot o) ∙ closed_map (taken_in j (g.seen d')) streams ∙ sym (closed_same streams))
      ∙ ap (λ (x : List (List ℕ)). record { images = x; taken = closed (map (option_map (taken_in j (g.seen d))) streams) }) images
    where
      closed_same : (xs : List (Option StreamParts)) → closed (map (option_map (taken_in j (g.seen d))) xs) ≡ closed (map (option_map (taken_in j (g.seen d'))) xs)
      closed_same [] = refl
      closed_same (x ∷ xs) = ap (λ (l : List (Option Taken)). None ∷ l) (closed_same xs)

  -- a refused stream is gone, and a disk fault closes all
  pub refused_bytes : (f : ArchiveFault) (dropped streams' : List (Option StreamParts)) → dropped ≡ slice_set streams slot None → EndsStreams f dropped b' streams' → (f ≡ fault.Stopped → ⊥) → (f ≡ fault.NoStream → ⊥)
      → RefusedBytes (contents_of g.seen old) slot f (contents_of g.seen (record { disk = d'; journal = j; limit = most; streams = streams'; stopped = b' }))
  refused_bytes fault.Disk dropped streams' gone ends a c =
      ap (λ (x : List (Option StreamParts)). contents_of g.seen (record { disk = d'; journal = j; limit = most; streams = x; stopped = b' })) (ends.1 ∙ ap closed gone) ∙ contents_closed None
  refused_bytes fault.Stopped dropped streams' gone ends a c = absurd (a refl)
  refused_bytes fault.NoStream dropped streams' gone ends a c = absurd (c refl)
  refused_bytes _ dropped streams' gone ends a c =
      ap (λ (x : List (Option StreamParts)). contents_of g.seen (record { disk = d'; journal = j; limit = most; streams = x; stopped = b' })) (ends.1 ∙ gone) ∙ contents_moved None

-- a refused stream is gone, and a disk fault stops the archive
pub sound_refused : {D : Type 0} (g : disk.Ghosts D) (d d' : D) (j : Journaled) (most : ℕ) (flags flags' : List Bool) (streams dropped streams' : List (Option StreamParts)) (slot : ℕ) (s : StreamParts) (b b' : Bool) (f : ArchiveFault)
    → IsArchiveSound g d j most flags streams b → b ≡ false → stream_at streams slot ≡ Some s → dropped ≡ slice_set streams slot None → Guards g d' j → Balances flags s.facts.blocks flags' [] → EndsStreams f dropped b' streams'
    → IsArchiveSound g d' j most flags' streams' b'
sound_refused g d d' j most flags flags' streams dropped streams' slot s b b' fault.Disk sound on is gone keeps bal ends =
    subst (λ (t : Bool). IsArchiveSound g d' j most flags' streams' t) (sym ends.0)
    (subst (λ (x : List (Option StreamParts)). IsArchiveSound g d' j most flags' x true) (sym ends.1)
    (sound_halted g d d' j j most flags flags' streams dropped b sound keeps refl (ap length gone ∙ length-set streams slot None)))
sound_refused g d d' j most flags flags' streams dropped streams' slot s b b' _ sound on is gone keeps bal ends =
    subst (λ (t : Bool). IsArchiveSound g d' j most flags' streams' t) (on ∙ sym ends.0)
    (sound_dropped g d d' j most flags flags' streams streams' slot s b sound on is (ends.1 ∙ gone) keeps bal)

-- a stream that grows stays fine
same_blocks : (len n : ℕ) → len % 4096 + n ≤ 4096 → (NeedsBlock len n → ⊥) → len / 4096 ≡ (len + n) / 4096
same_blocks len zero fits no_need = let e : len ≡ len + zero = omega arith in ap (λ (k : ℕ). k / 4096) e
same_blocks len (suc n) fits no_need = elim (cases_eq (len % 4096 + suc n) 4096) as (λ _. len / 4096 ≡ (len + suc n) / 4096) [ inl full ↦ absurd (no_need ((λ e. omega (arith, e)), full)) | inr less ↦ omega (arith, less) ]

pub fine_grown : (free most : ℕ) (s s' : StreamParts) (n : ℕ) (u : Unit {0}) → IsFine most s → s.facts.len % 4096 + n ≤ 4096 → Grows free most s n (Ok u) s' → s.facts.len + n < 2 ^ 64 → IsFine most s'
fine_grown free most s s' n u fine fits grows small =
    ⊎_elim
    (λ h. subst (IsFine most) (sym h.1) (record {
      origin = fine.origin;
      small = small;
      limit = grows.0;
      filled = fine.filled ∙ same_blocks s.facts.len n fits h.0;
      block = fine.block;
    }))
    (λ h. subst (IsFine most) (sym h.3) (record {
      origin = fine.origin;
      small = small;
      limit = grows.0;
      filled = (let a = fine.filled in let w = h.0.1 in let m = h.2 in omega (arith, a, w, m));
      block = length-zero_block;
    }))
    grows.1

-- the steps
fills : (len n : ℕ) → n ≢ 0 → (len + n) % 4096 ≡ 0 → len % 4096 + n ≤ 4096 → len % 4096 + n ≡ 4096
fills len n some whole fits = omega arith

states_agree : (free most : ℕ) (s s' : StreamParts) (n : ℕ) (u : Unit {0}) → Grows free most s n (Ok u) s' → s'.facts ≡ longer s.facts n s'.facts.blocks
states_agree free most s s' n u grows =
    ⊎_elim
    (λ h. ap stream_facts h.1 ∙ ap (longer s.facts n) (sym (ap (λ (x : StreamParts). x.facts.blocks) h.1)))
    (λ h. ap stream_facts h.3) grows.1

module _ {D : Type 0} (g : disk.Ghosts D) (d d' : D) (j : Journaled) (most : ℕ) (flags : List Bool) (streams : List (Option StreamParts)) (slot n : ℕ) (s : StreamParts) (b : Bool)
    (running : IsRunning g d j most flags streams) (on : b ≡ false) (is : stream_at streams slot ≡ Some s) where
  abbrev before : Parts D
  before = record { disk = d; journal = j; limit = most; streams = streams; stopped = b }

  pub free_is : free_count flags + blocks_in (state_of before) ≡ j.standing.shape.data_blocks
  free_is = in_use g d j most flags streams b running

  may : s.facts.len + n ≤ most → MayGrow (state_of before) slot n s.facts
  may short = (on, some_there streams slot s is, short)

  there : NeedsBlock s.facts.len n → 0 < free_count flags → FindsNoBlock (state_of before) s.facts n → ⊥
  there needs some none = (let e = none.2 in omega (arith, free_is))

  not_there : NeedsBlock s.facts.len n → free_count flags ≡ 0 → FindsNoBlock (state_of before) s.facts n
  not_there needs none = (needs.0, (let e = needs.1 in omega arith), (omega (arith, free_is, none)))

  pub put_back : (dropped streams' : List (Option StreamParts)) (s' : StreamParts) → dropped ≡ slice_set streams slot None → streams' ≡ slice_set dropped slot (Some s') → streams' ≡ slice_set streams slot (Some s')
  put_back dropped streams' s' gone put = put ∙ ap (λ (x : List (Option StreamParts)). set x slot (Some s')) gone ∙ set-set streams slot None (Some s')

  pub advance_ok : (dropped streams' : List (Option StreamParts)) (s' : StreamParts) (u : Unit {0}) → dropped ≡ slice_set streams slot None → streams' ≡ slice_set dropped slot (Some s') → s.facts.len % 4096 + n ≤ 4096
      → Grows (free_count flags) most s n (Ok u) s' → (NeedsBlock s.facts.len n → AddsLowest flags s.facts.blocks s'.facts.blocks)
      → AdvanceStep (state_of before) slot n (Ok u) (state_of (record { disk = d'; journal = j; limit = most; streams = streams'; stopped = b }))
  advance_ok dropped streams' s' u gone put fits grows lowest = (
    s.facts,
    may grows.0,
    (λ none. ⊎_elim (λ h. h.0 (none.0, fills s.facts.len n none.0 none.1 fits)) (λ h. there h.0 h.1 none) grows.1),
    s'.facts.blocks,
    ap (λ (x : List (Option StreamParts)). state_of (record { disk = d'; journal = j; limit = most; streams = x; stopped = b })) (put_back dropped streams' s' gone put)
        ∙ state_with d d' j most streams slot (Some s') b
        ∙ ap (λ (t : StreamFacts). with_stream (state_of before) slot (Some t)) (states_agree (free_count flags) most s s' n u grows),
    grown_fills g d j most flags streams slot s b running is (free_count flags) n s' u fits grows lowest,
  )

  pub gone_state : (b' : Bool) (dropped streams' : List (Option StreamParts)) → dropped ≡ slice_set streams slot None → b' ≡ false → streams' ≡ dropped
      → state_of (record { disk = d'; journal = j; limit = most; streams = streams'; stopped = b' }) ≡ with_stream (state_of before) slot None
  gone_state b' dropped streams' gone still same =
      ap (λ (t : Bool). state_of (record { disk = d'; journal = j; limit = most; streams = streams'; stopped = t })) (still ∙ sym on)
      ∙ ap (λ (x : List (Option StreamParts)). state_of (record { disk = d'; journal = j; limit = most; streams = x; stopped = b })) (same ∙ gone)
      ∙ state_with d d' j most streams slot None b

  pub halted_state : (b' : Bool) (dropped streams' : List (Option StreamParts)) → dropped ≡ slice_set streams slot None → b' ≡ true → streams' ≡ closed dropped
      → state_of (record { disk = d'; journal = j; limit = most; streams = streams'; stopped = b' }) ≡ halted (state_of before)
  halted_state b' dropped streams' gone off same =
      ap (λ (t : Bool). state_of (record { disk = d'; journal = j; limit = most; streams = streams'; stopped = t })) off
      ∙ ap (λ (x : List (Option StreamFacts)). record (state_of before) { streams = x; stopped = true })
      (ap (map (option_map stream_facts)) (same ∙ ap closed gone ∙ closed_set streams slot None) ∙ closed_map stream_facts streams)

  pub advance_err : (b' : Bool) (dropped streams' : List (Option StreamParts)) (s' : StreamParts) (f : ArchiveFault) → dropped ≡ slice_set streams slot None → EndsStreams f dropped b' streams' → Grows (free_count flags) most s n (Err f) s'
      → AdvanceStep (state_of before) slot n (Err f) (state_of (record { disk = d'; journal = j; limit = most; streams = streams'; stopped = b' }))
  advance_err b' dropped streams' s' fault.TooLong gone ends grows = (s.facts, on, some_there streams slot s is, grows, gone_state b' dropped streams' gone ends.0 ends.1)
  advance_err b' dropped streams' s' fault.SpaceFull gone ends grows = (s.facts, may grows.0, not_there grows.1 grows.2, gone_state b' dropped streams' gone ends.0 ends.1)
  advance_err b' dropped streams' s' fault.OutOfMemory gone ends grows = (s.facts, may grows.0, there grows.1 grows.2, gone_state b' dropped streams' gone ends.0 ends.1)
  advance_err b' dropped streams' s' fault.Disk gone ends grows = (s.facts, may grows.0, there grows.1 grows.2, halted_state b' dropped streams' gone ends.0 ends.1)
  advance_err b' dropped streams' s' _ gone ends grows = absurd grows

  pub not_stopped : (s' : StreamParts) (f : ArchiveFault) → Grows (free_count flags) most s n (Err f) s' → f ≡ fault.Stopped → ⊥
  not_stopped s' f grows e = let x = subst (λ (h : ArchiveFault). Grows (free_count flags) most s n (Err h) s') e grows in absurd x

  pub not_missing : (s' : StreamParts) (f : ArchiveFault) → Grows (free_count flags) most s n (Err f) s' → f ≡ fault.NoStream → ⊥
  not_missing s' f grows e = let x = subst (λ (h : ArchiveFault). Grows (free_count flags) most s n (Err h) s') e grows in absurd x

  pub fits_in : FitsFree (stream_at streams slot) n → s.facts.len % 4096 + n ≤ 4096
  fits_in fits = let P : Option StreamParts → Type 0 = λ o. FitsFree o n in subst P is fits

  pub fine_of : IsFine most s
  fine_of = subst (IsFineIfOpen most) is (fine_at most streams slot running.streams_fine)

  pub sound_grown : (flags' : List Bool) (dropped streams' : List (Option StreamParts)) (s' : StreamParts) (u : Unit {0}) → IsArchiveSound g d j most flags streams b → dropped ≡ slice_set streams slot None → streams' ≡ slice_set dropped slot (Some s')
      → s.facts.len % 4096 + n ≤ 4096 → Grows (free_count flags) most s n (Ok u) s' → s.facts.len + n < 2 ^ 64 → Guards g d' j → Balances flags s.facts.blocks flags' s'.facts.blocks → IsArchiveSound g d' j most flags' streams' b
  sound_grown flags' dropped streams' s' u sound gone put fits grows small keeps bal =
      subst (λ (x : List (Option StreamParts)). IsArchiveSound g d' j most flags' x b) (sym (put_back dropped streams' s' gone put))
      (sound_with g d d' j most flags flags' streams slot (Some s) (Some s') b sound on (slot_below g d j most flags streams slot s b sound is) is keeps bal
      (fine_grown (free_count flags) most s s' n u fine_of fits grows small)
      (λ name. (let m = running.named name in
      let e : one_if (bytes_eq s'.facts.origin.name name) ≡ one_if (bytes_eq s.facts.origin.name name) = ap (λ (t : StreamFacts). one_if (bytes_eq t.origin.name name)) (states_agree (free_count flags) most s s' n u grows) in
      omega (arith, m, e))))

  pub advance_ok_bytes : (dropped streams' : List (Option StreamParts)) (s' : StreamParts) (u : Unit {0}) → ChangesFree j.standing.shape flags (g.seen d) (g.seen d') → dropped ≡ slice_set streams slot None → streams' ≡ slice_set dropped slot (Some s')
      → taken_in j (g.seen d') s' ≡ advanced n (taken_in j (g.seen d) s)
      → AdvanceBytes (contents_of g.seen before) slot n (Ok u) (contents_of g.seen (record { disk = d'; journal = j; limit = most; streams = streams'; stopped = b }))
  advance_ok_bytes dropped streams' s' u changes gone put took = (
    taken_in j (g.seen d) s,
    taken_at streams slot ∙ ap (option_map (taken_in j (g.seen d))) is,
    ap (λ (x : List (Option StreamParts)). contents_of g.seen (record { disk = d'; journal = j; limit = most; streams = x; stopped = b })) (put_back dropped streams' s' gone put)
        ∙ contents_moved g d d' j most flags streams slot b b running changes (Some s')
        ∙ ap (λ (t : Taken). with_taken (contents_of g.seen before) slot (Some t)) took,
  )
    where
      taken_at : (xs : List (Option StreamParts)) (i : ℕ) → stream_at (map (option_map (taken_in j (g.seen d))) xs) i ≡ option_map (taken_in j (g.seen d)) (stream_at xs i)
      taken_at [] i = refl
      taken_at (o ∷ rest) zero = refl
      taken_at (o ∷ rest) (suc i) = taken_at rest i
