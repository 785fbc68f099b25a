-- How far the records of a half are read.
use Rattle.std.proofs.Common.{◌≡◌, ◌⊎◌, inl, inr, ℕ, zero, suc, max, min, nat_lt, ◌+◌, ◌-◌, ◌*◌, ◌/◌, ◌%◌, ◌^◌, ◌<◌, ◌≤◌, Bool, true, false, List, length, drop, slice_index, refl, sym, subst, arith}
use Rattle.std.proofs.lemmas.Bool.{cases_lt, lt-ltb}
use Rattle.std.proofs.lemmas.List.{length-take}
use Rattle.disk_model.specs.Places.{part}
use Rattle.salvage.specs.Alone.{IsBegin, IsPast, IsRowEnd, IsWithinOther, Reads, ReadsAt, between, was_open}
use Rattle.salvage.specs.Reads.{AreAllRead, IsTaken, StayNamed, StayRead}
use Rattle.salvage.specs.Records.{number_of}
use Rattle.salvage.specs.declared.records.Dropped.{Dropped}
use Rattle.salvage.specs.declared.records.Read.{Read}

-- what the record at this place says is taken
abbrev pub TakenAt : ℕ → List ℕ → ℕ → List Read → List Dropped → ℕ → Type 0
TakenAt blocks bytes end reads drops place = IsTaken blocks (between bytes place end) place reads drops

-- what becomes of the record at this place, of which this is to hold
abbrev pub IsHeard : ℕ → List ℕ → ℕ → ℕ → (ℕ → Type 0) → ℕ → Type 0
IsHeard blocks bytes begin end P place = P place ⊎ IsWithinOther blocks bytes end place ⊎ IsPast blocks bytes begin end place

-- The records before this place are read. If the last one reads, it ends there.
pub record AreReadTo (blocks : ℕ) (bytes : List ℕ) (begin end at in_row : ℕ) (P : ℕ → Type 0) : Type 0 where
  pub steps : ℕ
  pub there : at ≡ begin + 32 + 16 * steps
  pub row : 1 ≤ in_row → IsBegin blocks bytes begin end at
  pub rows : 2 ≤ in_row → IsRowEnd blocks bytes begin end at
  pub heard : (k place : ℕ) → place ≡ begin + 32 + 16 * k → place < at → IsHeard blocks bytes begin end P place

-- what was taken stays so
pub taken_still : (blocks : ℕ) (rest : List ℕ) (place : ℕ) (reads reads2 : List Read) (drops drops2 : List Dropped) → StayRead reads reads2 → StayNamed drops drops2
    → IsTaken blocks rest place reads drops → IsTaken blocks rest place reads2 drops2
taken_still blocks rest place reads reads2 drops drops2 stay kept taken = record {
  case = λ size c stores. stay place c (taken.case size c stores);
  numbers = λ size head body index below. kept (number_of rest (12 + 4 * index)) (taken.numbers size head body index below);
}

module _ (blocks : ℕ) (bytes : List ℕ) (begin end : ℕ) where
  -- before the first record
  pub none_read : (P : ℕ → Type 0) → AreReadTo blocks bytes begin end (begin + 32) 2 P
  none_read P = record {
    steps = 0;
    there = omega arith;
    row = λ in_row. inl refl;
    rows = λ in_row. inl refl;
    heard = λ k place is before. absurd (omega (arith, is, before));
  }

  still_heard : (P Q : ℕ → Type 0) → ((p : ℕ) → P p → Q p) → (place : ℕ) → IsHeard blocks bytes begin end P place → IsHeard blocks bytes begin end Q place
  still_heard P Q stay place (inl taken) = inl (stay place taken)
  still_heard P Q stay place (inr other) = inr other

  -- the size of a record that reads
  reads_whole : (rest : List ℕ) (size : ℕ) → Reads blocks rest size → (size % 16 ≡ 0) × (16 ≤ size)
  reads_whole rest size (inl stores) = (stores.1.head.whole, stores.1.head.some)
  reads_whole rest size (inr other) = (other.0.whole, other.0.some)

  reads_room : (rest : List ℕ) (size : ℕ) → Reads blocks rest size → size < length rest
  reads_room rest size (inl stores) = stores.1.head.room
  reads_room rest size (inr other) = other.0.room

  -- it ends before the half does
  pub reads_within : (at size : ℕ) → at < end → ReadsAt blocks bytes end at size → at + size < end
  unfolding part
  reads_within at size low reads = omega (arith, low, reads_room (between bytes at end) size reads, length-take (end - at) (drop at bytes))

  module _ (at : ℕ) (P Q : ℕ → Type 0) (in_row : ℕ) (stay : (p : ℕ) → P p → Q p) (to : AreReadTo blocks bytes begin end at in_row P) (here : Q at) where
    -- a record reads there
    pub read_more : (size : ℕ) → ReadsAt blocks bytes end at size → AreReadTo blocks bytes begin end (at + size) (in_row + 1) Q
    read_more size reads =
        let whole = reads_whole (between bytes at end) size reads in
        let sixteen = whole.0 in
        let start = to.there in
        record {
          steps = to.steps + size / 16;
          there = omega (arith, sixteen, start);
          row = λ one. inr (at, size, reads, refl);
          rows = λ two. inr (at, size, reads, refl, to.row (omega (arith, two)));
          heard = λ k place is before. by_place k place is before (cases_lt place at);
        }
      where
        at_or_behind : (place : ℕ) → place < at + size → (place ≡ at) ⊎ (at < place) → IsHeard blocks bytes begin end Q place
        at_or_behind place before (inl e) = inl (subst Q (sym e) here)
        at_or_behind place before (inr behind) = inr (inl (record { start = at; size = size; reads = reads; before = behind; behind = before }))

        which : (place : ℕ) → at ≤ place → (place ≡ at) ⊎ (at < place)
        which place low = elim (cases_lt at place) as (λ _. (place ≡ at) ⊎ (at < place)) [
          | inl behind ↦ inr behind
          | inr past ↦ inl (omega (arith, low, past))
        ]

        by_place : (k place : ℕ) → place ≡ begin + 32 + 16 * k → place < at + size → (place < at) ⊎ (at ≤ place) → IsHeard blocks bytes begin end Q place
        by_place k place is before (inl low) = still_heard P Q stay place (to.heard k place is low)
        by_place k place is before (inr high) = at_or_behind place before (which place high)

    -- none reads there
    pub none_more : AreReadTo blocks bytes begin end (at + 16) 0 Q
    none_more =
        let start = to.there in
        record {
          steps = to.steps + 1;
          there = omega (arith, start);
          row = λ one. absurd (omega (arith, one));
          rows = λ two. absurd (omega (arith, two));
          heard = λ k place is before. by_place k place is before (cases_lt place at);
        }
      where
        by_place : (k place : ℕ) → place ≡ begin + 32 + 16 * k → place < at + 16 → (place < at) ⊎ (at ≤ place) → IsHeard blocks bytes begin end Q place
        by_place k place is before (inl low) = still_heard P Q stay place (to.heard k place is low)
        by_place k place is before (inr high) =
            let e : place ≡ at = omega (arith, is, high, before, to.there) in
            inl (subst Q (sym e) here)

    -- one more step
    pub step_more : (size next row : ℕ) → at < end → end + 16 < 2 ^ 64 → (0 < size → ReadsAt blocks bytes end at size) → next ≡ min (at + max size 16) (2 ^ 64 - 1)
        → (size ≡ 0 → row ≡ 0) → (0 < size → row ≤ in_row + 1) → AreReadTo blocks bytes begin end next row Q
    step_more zero next row low small reads is none more =
        subst (λ (k : ℕ). AreReadTo blocks bytes begin end next k Q) (sym (none refl)) (subst (λ (n : ℕ). AreReadTo blocks bytes begin end n 0 Q) (omega (arith, is, low, small)) none_more)
    step_more (suc n) next row low small reads is none more =
        let there = reads (omega arith) in
        let long = reads_whole (between bytes at end) (suc n) there in
        let within = reads_within at (suc n) low there in
        fewer (in_row + 1) row (more (omega arith)) (subst (λ (k : ℕ). AreReadTo blocks bytes begin end k (in_row + 1) Q) (omega (arith, is, long.1, within, small)) (read_more (suc n) there))
      where
        fewer : (i j : ℕ) → j ≤ i → AreReadTo blocks bytes begin end next i Q → AreReadTo blocks bytes begin end next j Q
        fewer i j low2 to2 = record {
          steps = to2.steps;
          there = to2.there;
          row = λ one. to2.row (omega (arith, low2, one));
          rows = λ two. to2.rows (omega (arith, low2, two));
          heard = to2.heard;
        }

  pub still_to : (at in_row : ℕ) (P Q : ℕ → Type 0) → ((p : ℕ) → P p → Q p) → AreReadTo blocks bytes begin end at in_row P → AreReadTo blocks bytes begin end at in_row Q
  still_to at in_row P Q stay to = record {
    steps = to.steps;
    there = to.there;
    row = to.row;
    rows = to.rows;
    heard = λ k place is before. still_heard P Q stay place (to.heard k place is before);
  }

  -- what was taken of one half stays so while the other is read
  pub all_still : (reads reads2 : List Read) (drops drops2 : List Dropped) → StayRead reads reads2 → StayNamed drops drops2 → AreAllRead blocks bytes begin end reads drops
      → AreAllRead blocks bytes begin end reads2 drops2
  all_still reads reads2 drops drops2 stay kept all = λ opened k place is before.
      still_heard (TakenAt blocks bytes end reads drops) (TakenAt blocks bytes end reads2 drops2)
      (λ p taken. taken_still blocks (between bytes p end) p reads reads2 drops drops2 stay kept taken) place (all opened k place is before)

  module _ (at in_row : ℕ) (reads : List Read) (drops : List Dropped) where
    -- all is read where the half ends
    pub read_all : end ≤ at → AreReadTo blocks bytes begin end at in_row (TakenAt blocks bytes end reads drops) → AreAllRead blocks bytes begin end reads drops
    read_all past to = λ opened k place is before. to.heard k place is (omega (arith, past, before))

    -- and where a gate is closed right behind a record
    pub read_shut : was_open (slice_index bytes at) ≡ false → 2 ≤ in_row → AreReadTo blocks bytes begin end at in_row (TakenAt blocks bytes end reads drops)
        → AreAllRead blocks bytes begin end reads drops
    read_shut closed rowed to = λ opened k place is before. by_place k place is (cases_lt place at)
      where
        by_place : (k place : ℕ) → place ≡ begin + 32 + 16 * k → (place < at) ⊎ (at ≤ place) → IsHeard blocks bytes begin end (TakenAt blocks bytes end reads drops) place
        by_place k place is (inl low) = to.heard k place is low
        by_place k place is (inr high) = inr (inr (record { gate = at; before = high; closed = closed; behind = to.rows rowed }))
