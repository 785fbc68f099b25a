-- What a disk encodes while a record is published.
use Rattle.std.proofs.Common.{◌≡◌, ◌≢◌, ◌⊎◌, inl, inr, ⊎_elim, ℕ, ◌+◌, ◌-◌, ◌≤◌, List, [], ◌∷◌, ◌++◌, length, take, get_or, slice_index, refl, sym, ap, ◌∙◌, arith, Result, Ok, Err, OnOk}
use Rattle.std.proofs.lemmas.List.{length-append, take_at, get_or_at}
use Rattle.std.proofs.lemmas.Bool.{cases_eq}
use Rattle.disk_model.specs.Places.{part, overwritten, SameOutside}
use Rattle.disk_model.specs.PlaceLaws.{overwritten_outside, overwritten_length}
use Rattle.disk_model.specs.PartLaws.{part_is, part_split, part_overwritten, part_within, part_place, part_after, part_length, place_before, place_after, same_twice, widened}
use Rattle.journal_layout.specs.Layout.{half_start}
use Rattle.journal_layout.specs.Record.{Record, record_size, behind_gate, spelling}
use Rattle.journal_layout.specs.Standing.{Standing, lengthened}
use Rattle.journal_layout.specs.Stands.{Stands, records_area}
use Rattle.case_journal.specs.Publishing.{Publishes}
use Rattle.case_journal.proofs.StandLemmas.{gate_of, half_ends, limits_in, gate_within, area_place, still_stands, stands_after}

-- the gate of the next record is closed
pub closed_gate : (b : List ℕ) (s : Standing) → Stands b s → slice_index b (gate_of s) ≢ 165
closed_gate b s stands opened =
    let size = stands.records.size in
    let header = stands.header in
    let gate = gate_within b s stands in
    let e : half_start s.shape s.half + 32 + (s.used - 32) ≡ gate_of s = omega arith in
    stands.records.closed (ap (slice_index (records_area b s.shape s.half)) size ∙ area_place b s (s.used - 32) (omega arith) ∙ ap (slice_index b) e ∙ opened)

-- what follows from what an Ok says
pub on_ok : {T E : Type 0} → (r : Result T E) (P Q : Type 0) → (P → Q) → OnOk r P → OnOk r Q
on_ok (Ok x) P Q implies p = implies p
on_ok (Err e) P Q implies p = p

one_of : (l : List ℕ) → length l ≡ 1 → l ≡ get_or l 0 0 ∷ []
one_of [] e = absurd (omega arith)
one_of (x ∷ []) e = refl
one_of (x ∷ y ∷ l) e = absurd (omega arith)

-- a part of one byte
one_place : (b : List ℕ) (k : ℕ) → k + 1 ≤ length b → part b k 1 ≡ slice_index b k ∷ []
one_place b k below =
    one_of (part b k 1) (part_length b k 1 below)
    ∙ ap (λ (x : ℕ). x ∷ []) (part_place b k 1 0 0 (omega arith) ∙ ap (slice_index b) (let e : k + 0 ≡ k = omega arith in e))

pub zero_is_closed : ◌≡◌ {A = ℕ} 0 165 → ⊥
zero_is_closed e = omega (arith, e)

module _ (s : Standing) (r : Record) (gate : ℕ) (behind : List ℕ) (p : Publishes s r gate behind) (d : List ℕ) (stands : Stands d s) where
  lies : gate + 1 + length behind ≤ length d
  lies =
      let place = p.place in
      let in_half = p.in_half in
      let long = p.long in
      let ends = half_ends s.shape s.half in
      let l = (limits_in d s stands).1 in
      omega arith

  -- while the bytes after the gate are written
  pub before_gate : (c : List ℕ) → SameOutside (gate + 1) (length behind) d c → Stands c s
  before_gate c same =
      let place = p.place in
      let in_half = p.in_half in
      let long = p.long in
      let wide : SameOutside gate (1 + length behind) d c = widened (gate + 1) (length behind) d c same gate (1 + length behind) (omega arith) (omega arith) in
      let there : SameOutside (gate_of s) (1 + length behind) d c = rw (← place) wide in
      still_stands s (1 + length behind) d c stands there (omega arith)
      (λ opened. closed_gate d s stands (sym (place_before (gate + 1) (length behind) d c same (gate_of s) 0 (omega arith)) ∙ opened))

  abbrev pub once : List ℕ
  once = overwritten d (gate + 1) behind

  pub once_same : SameOutside gate (1 + length behind) d once
  once_same = widened (gate + 1) (length behind) d once (overwritten_outside d (gate + 1) behind lies) gate (1 + length behind) (omega arith) (omega arith)

  first_length : length behind ≡ length (behind_gate r) + 1
  first_length = ap length p.bytes ∙ length-append (behind_gate r) (0 ∷ [])

  -- the record's bytes after its gate
  behind_part : (c : List ℕ) → SameOutside gate 1 once c → part c (gate + 1) (length (behind_gate r)) ≡ behind_gate r
  behind_part c same =
      let first = first_length in
      let within = lies in
      let e : gate + 1 + 0 ≡ gate + 1 = omega arith in
      part_after gate 1 once c same (gate + 1) (length (behind_gate r)) (omega arith)
      ∙ ap (λ (k : ℕ). part once k (length (behind_gate r))) (sym e)
      ∙ part_within d (gate + 1) behind 0 (length (behind_gate r)) within (omega arith)
      ∙ part_is behind 0 (length (behind_gate r))
      ∙ ap (take (length (behind_gate r))) p.bytes
      ∙ take_at (behind_gate r) (0 ∷ []) (length (behind_gate r)) refl

  -- the gate after it
  next_gate : (c : List ℕ) → SameOutside gate 1 once c → slice_index c (gate + record_size r) ≡ 0
  next_gate c same =
      let first = first_length in
      let long = p.long in
      let within = lies in
      let k : ℕ = length (behind_gate r) in
      let e : gate + record_size r ≡ gate + 1 + k = omega arith in
      place_after gate 1 once c same (gate + record_size r) 0 (omega arith)
      ∙ ap (slice_index once) e
      ∙ sym (part_place once (gate + 1) (length behind) k 0 (omega arith))
      ∙ ap (λ (l : List ℕ). get_or l k 0) (part_overwritten d (gate + 1) behind within ∙ p.bytes)
      ∙ get_or_at (behind_gate r) 0 [] 0 k refl

  wide_same : (c : List ℕ) → SameOutside gate 1 once c → SameOutside (gate_of s) (1 + length behind) d c
  wide_same c same =
      let place = p.place in
      let all : SameOutside gate (1 + length behind) d c = same_twice gate (1 + length behind) d once c once_same (widened gate 1 once c same gate (1 + length behind) (omega arith) (omega arith)) in
      rw (← place) all

  long_enough : (c : List ℕ) → SameOutside gate 1 once c → gate + 1 ≤ length c
  long_enough c same =
      let within = lies in
      let e = same.same_length in
      let f = overwritten_length d (gate + 1) behind within in
      omega arith

  pub opened_gate : (c : List ℕ) → SameOutside gate 1 once c → slice_index c gate ≡ 165 → part c gate (record_size r) ≡ spelling r
  opened_gate c same opened =
      let first = first_length in
      let long = p.long in
      let k : ℕ = length (behind_gate r) in
      let e : record_size r ≡ 1 + k = omega arith in
      ap (part c gate) e ∙ part_split c gate 1 k
      ∙ ap (λ (l : List ℕ). l ++ part c (gate + 1) k) (one_place c gate (long_enough c same) ∙ ap (λ (x : ℕ). x ∷ []) opened)
      ∙ ap (λ (l : List ℕ). 165 ∷ l) (behind_part c same)

  pub after_gate : (c : List ℕ) → SameOutside gate 1 once c → slice_index c gate ≡ 165 → Stands c (lengthened s r)
  after_gate c same opened =
      let place = p.place in
      let in_half = p.in_half in
      let long = p.long in
      stands_after s r (1 + length behind) d c stands (wide_same c same) (omega arith) (omega arith) p.sound
      (ap (λ (k : ℕ). part c k (record_size r)) (sym place) ∙ opened_gate c same opened)
      (λ again. zero_is_closed (sym (next_gate c same) ∙ ap (λ (k : ℕ). slice_index c (k + record_size r)) place ∙ again))

  pub unopened : (c : List ℕ) → SameOutside gate 1 once c → (slice_index c gate ≡ 165 → ⊥) → Stands c s
  unopened c same closed =
      let place = p.place in
      let in_half = p.in_half in
      let long = p.long in
      still_stands s (1 + length behind) d c stands (wide_same c same) (omega arith) (λ opened. closed (ap (slice_index c) place ∙ opened))

  -- while the gate is written
  pub at_gate : (c : List ℕ) → SameOutside gate 1 once c → Stands c s ⊎ Stands c (lengthened s r)
  at_gate c same = ⊎_elim (λ opened. inr (after_gate c same opened)) (λ closed. inl (unopened c same closed)) (cases_eq (slice_index c gate) 165)

  -- once it is written
  pub made : Stands (overwritten once gate (165 ∷ [])) (lengthened s r)
  made =
      let within = lies in
      let f = overwritten_length d (gate + 1) behind within in
      after_gate (overwritten once gate (165 ∷ [])) (overwritten_outside once gate (165 ∷ []) (omega arith))
      (sym (part_place (overwritten once gate (165 ∷ [])) gate 1 0 0 (omega arith) ∙ ap (slice_index (overwritten once gate (165 ∷ []))) (let e : gate + 0 ≡ gate = omega arith in e))
      ∙ ap (λ (l : List ℕ). get_or l 0 0) (part_overwritten once gate (165 ∷ []) (omega arith)))
