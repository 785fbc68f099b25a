-- How calls are steps of the archive.
use Rattle.std.proofs.Common.{◌≡◌, ℕ, ◌+◌, ◌<◌, ◌≤◌, Bool, true, false, cond, List, [], ◌∷◌, length, map, set, refl, sym, ap, ◌∙◌, subst, arith, Option, None, Some, Ok, ◌||◌}
use Rattle.std.specs.Prelude.{option_map, slice_set, IsSome, IsTrue, ◌↔◌}
use Rattle.std.specs.List.{list_any, count_by}
use Rattle.std.specs.Str.{bytes_eq}
use Rattle.std.proofs.lemmas.List.{map-set, length-map}
use Rattle.std.proofs.lemmas.List.Sums.{sum_by-cons}
use Rattle.std.proofs.lemmas.Bool.{or_parts}
use Rattle.std.proofs.lemmas.Slice.Eq.{bytes_eq-Decides}
use Rattle.case_journal.specs.Journaled.{Journaled}
use Rattle.extents.specs.FreeSet.{one_if}
use Rattle.intake.specs.Contents.{Taken, zero_block, empty_taken, with_taken}
use Rattle.intake.specs.Live.{cases_named}
use Rattle.intake.specs.Parts.{Parts, StreamParts, state_of, stream_facts, taken_in, contents_of}
use Rattle.intake.specs.Slots.{stream_at}
use Rattle.intake.specs.Sound.{streams_named, is_called}
use Rattle.intake.specs.State.{StreamFacts}
use Rattle.intake.specs.Step.{has_name, is_taken, with_stream, is_named}
use Rattle.disk_model.specs.declared.disk.Disk as disk
use Rattle.intake.specs.Balance.{Balances}
use Rattle.intake.specs.Contents.{BeginBytes, AbandonBytes}
use Rattle.intake.specs.Sound.{IsArchiveSound, IsFine}
use Rattle.intake.specs.Step.{BeginStep, AbandonStep}
use Rattle.intake.proofs.SoundLemmas.{state_at, sound_with, nothing_moves}
use Rattle.journal_layout.specs.Case.{Case}

-- the same archive with something else in a slot
module _ {D : Type 0} (d d' : D) (j : Journaled) (most : ℕ) (streams : List (Option StreamParts)) (slot : ℕ) (o : Option StreamParts) (b : Bool) where
  abbrev pub before : Parts D
  before = record { disk = d; journal = j; limit = most; streams = streams; stopped = b }

  pub state_with : state_of (record { disk = d'; journal = j; limit = most; streams = set streams slot o; stopped = b }) ≡ with_stream (state_of before) slot (option_map stream_facts o)
  state_with = ap (λ (x : List (Option StreamFacts)). record (state_of before) { streams = x }) (map-set (option_map stream_facts) streams slot o)

-- and its bytes, on a disk that reads as before
module _ {D : Type 0} (seen : D → List ℕ) (d : D) (j : Journaled) (most : ℕ) (streams : List (Option StreamParts)) (slot : ℕ) (o : Option StreamParts) (b : Bool) where
  pub contents_with : contents_of seen (record { disk = d; journal = j; limit = most; streams = set streams slot o; stopped = b })
      ≡ with_taken (contents_of seen (record { disk = d; journal = j; limit = most; streams = streams; stopped = b })) slot (option_map (taken_in j (seen d)) o)
  contents_with = ap (λ (x : List (Option Taken)). record (contents_of seen (record { disk = d; journal = j; limit = most; streams = streams; stopped = b })) { taken = x }) (map-set (option_map (taken_in j (seen d))) streams slot o)

-- a new stream has no bytes
pub taken_new : (j : Journaled) (bytes : List ℕ) (s : StreamParts) → s.facts.len ≡ 0 → s.facts.blocks ≡ [] → s.block ≡ zero_block → taken_in j bytes s ≡ empty_taken
taken_new j bytes s none no_blocks zeros = rw (none, no_blocks, zeros) refl

-- whether something stands in a slot, in the words of the state without bytes
pub none_there : (streams : List (Option StreamParts)) (slot : ℕ) → stream_at streams slot ≡ None → stream_at (map (option_map stream_facts) streams) slot ≡ None
none_there streams slot e = state_at streams slot ∙ ap (option_map stream_facts) e

pub some_there : (streams : List (Option StreamParts)) (slot : ℕ) (s : StreamParts) → stream_at streams slot ≡ Some s → stream_at (map (option_map stream_facts) streams) slot ≡ Some s.facts
some_there streams slot s e = state_at streams slot ∙ ap (option_map stream_facts) e

pub not_open : (t : Bool) (o : Option StreamParts) → IsTrue t ↔ IsSome o → t ≡ false → o ≡ None
not_open t None both off = refl
not_open t (Some s) both off = absurd (let h : t ≡ true = both.1 refl in let e : true ≡ false = sym h ∙ off in cc)

-- a test of what is told of some, in words of these
pub list_any-map : {X Y : Type 0} (P : Y → Bool) (f : X → Y) (xs : List X) → list_any P (map f xs) ≡ list_any (λ x. P (f x)) xs
list_any-map P f [] = refl
list_any-map P f (x ∷ xs) = ap (λ b. P (f x) || b) (list_any-map P f xs)

-- a name that is not taken is that of no case and no stream
pub none_of : {X : Type 0} (P : X → Bool) (xs : List X) → list_any P xs ≡ false → count_by P xs ≡ 0
none_of P [] e = refl
none_of P (x ∷ xs) e =
    let h = or_parts (P x) (list_any P xs) e in
    let s = sum_by-cons (λ y. cond (P y) 1 0) x xs in
    let g : one_if (P x) ≡ 0 = ap one_if h.0 in
    omega (arith, s, g, none_of P xs h.1)

pub new_name : {D : Type 0} (a : Parts D) (name : List ℕ) → is_taken (state_of a) name ≡ false → (cases_named a.journal.standing.cases name ≡ 0) × (streams_named a.streams name ≡ 0)
new_name a name e =
    let h = or_parts (is_named name a.journal.standing.cases) (list_any (has_name name) (map (option_map stream_facts) a.streams)) e in (
      none_of (λ (c : Case). bytes_eq c.origin.name name) a.journal.standing.cases h.0,
      none_of (is_called name) a.streams (sym (list_any-map (has_name name) (option_map stream_facts) a.streams) ∙ h.1),
    )

of_true : (x y : List ℕ) → bytes_eq x y ≡ true → x ≡ y
of_true x y e = (let d = bytes_eq-Decides x y in d.0 e)

pub names_with : {D : Type 0} (a : Parts D) (s : StreamParts) → is_taken (state_of a) s.facts.origin.name ≡ false → ((name : List ℕ) → cases_named a.journal.standing.cases name + streams_named a.streams name ≤ 1)
    → (name : List ℕ) → cases_named a.journal.standing.cases name + streams_named a.streams name + one_if (bytes_eq s.facts.origin.name name) ≤ 1 + 0
names_with a s free once name = both (bytes_eq s.facts.origin.name name) refl
  where
    both : (t : Bool) → bytes_eq s.facts.origin.name name ≡ t → cases_named a.journal.standing.cases name + streams_named a.streams name + one_if t ≤ 1 + 0
    both false e = (let o = once name in omega (arith, o))
    both true e = (let n = new_name a s.facts.origin.name free in
        let same : s.facts.origin.name ≡ name = of_true s.facts.origin.name name e in
        let f = ap (cases_named a.journal.standing.cases) same in
        let g = ap (streams_named a.streams) same in
        let c = n.0 in let t = n.1 in omega (arith, f, g, c, t))

-- a stream is begun
module _ {D : Type 0} (g : disk.Ghosts D) (d : D) (j : Journaled) (most : ℕ) (flags : List Bool) (streams streams' : List (Option StreamParts)) (slot : ℕ) (s : StreamParts) (b : Bool)
    (sound : IsArchiveSound g d j most flags streams b) (on : b ≡ false) (low : slot < 8) (none : stream_at streams slot ≡ None)
    (free : is_taken (state_of (record { disk = d; journal = j; limit = most; streams = streams; stopped = b })) s.facts.origin.name ≡ false) (now : streams' ≡ slice_set streams slot (Some s)) where
  pub sound_begun : IsFine most s → s.facts.blocks ≡ [] → IsArchiveSound g d j most flags streams' b
  sound_begun fine no_blocks =
      subst (λ (x : List (Option StreamParts)). IsArchiveSound g d j most flags x b) (sym now)
      (sound_with g d d j most flags flags streams slot None (Some s) b sound on low none (sound.runs on).keeps
      (let f = ap length no_blocks in subst (λ (x : List ℕ). Balances flags [] flags x) (sym no_blocks) (nothing_moves flags []))
      fine
      (names_with (record { disk = d; journal = j; limit = most; streams = streams; stopped = b }) s free (sound.runs on).named))

  pub begin_step : (u : Unit {0}) → s.facts.blocks ≡ [] → BeginStep (state_of (record { disk = d; journal = j; limit = most; streams = streams; stopped = b })) slot (record s.facts { blocks = [] }) (Ok u) (state_of (record { disk = d; journal = j; limit = most; streams = streams'; stopped = b }))
  begin_step u no_blocks = (
    (on, (let e : length (map (option_map stream_facts) streams) ≡ length streams = simp length-map in let f = sound.slots in omega arith), none_there streams slot none, free),
    ap (λ (x : List (Option StreamParts)). state_of (record { disk = d; journal = j; limit = most; streams = x; stopped = b })) now
        ∙ state_with d d j most streams slot (Some s) b
        ∙ ap (λ (l : List ℕ). with_stream (state_of (record { disk = d; journal = j; limit = most; streams = streams; stopped = b })) slot (Some (record s.facts { blocks = l }))) no_blocks,
  )

  pub begin_bytes : (u : Unit {0}) → s.facts.len ≡ 0 → s.facts.blocks ≡ [] → s.block ≡ zero_block
      → BeginBytes (contents_of g.seen (record { disk = d; journal = j; limit = most; streams = streams; stopped = b })) slot (Ok u) (contents_of g.seen (record { disk = d; journal = j; limit = most; streams = streams'; stopped = b }))
  begin_bytes u no_bytes no_blocks zeros =
      ap (λ (x : List (Option StreamParts)). contents_of g.seen (record { disk = d; journal = j; limit = most; streams = x; stopped = b })) now
      ∙ contents_with g.seen d j most streams slot (Some s) b
      ∙ ap (λ (t : Taken). with_taken (contents_of g.seen (record { disk = d; journal = j; limit = most; streams = streams; stopped = b })) slot (Some t)) (taken_new j (g.seen d) s no_bytes no_blocks zeros)

-- a stream is dropped
module _ {D : Type 0} (g : disk.Ghosts D) (d : D) (j : Journaled) (most : ℕ) (streams streams' : List (Option StreamParts)) (slot : ℕ) (s : StreamParts) (b : Bool)
    (on : b ≡ false) (is : stream_at streams slot ≡ Some s) (now : streams' ≡ slice_set streams slot None) where
  pub abandon_step : (u : Unit {0}) → AbandonStep (state_of (record { disk = d; journal = j; limit = most; streams = streams; stopped = b })) slot (Ok u) (state_of (record { disk = d; journal = j; limit = most; streams = streams'; stopped = b }))
  abandon_step u = (
    on,
    (λ none. let e : Some s.facts ≡ None = sym (some_there streams slot s is) ∙ none in cc),
    ap (λ (x : List (Option StreamParts)). state_of (record { disk = d; journal = j; limit = most; streams = x; stopped = b })) now ∙ state_with d d j most streams slot None b,
  )

  pub abandon_bytes : (u : Unit {0}) → AbandonBytes (contents_of g.seen (record { disk = d; journal = j; limit = most; streams = streams; stopped = b })) slot (Ok u) (contents_of g.seen (record { disk = d; journal = j; limit = most; streams = streams'; stopped = b }))
  abandon_bytes u =
      ap (λ (x : List (Option StreamParts)). contents_of g.seen (record { disk = d; journal = j; limit = most; streams = x; stopped = b })) now
      ∙ contents_with g.seen d j most streams slot None b
