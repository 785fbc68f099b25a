-- Bytes that agree where an opening reads encode the same.
use Rattle.std.proofs.Common.{◌≡◌, ◌≢◌, ◌⊎◌, inl, inr, ⊎_elim, ℕ, suc, ◌+◌, ◌-◌, ◌^◌, ◌<◌, ◌≤◌, List, [], ◌∷◌, length, drop, slice_index, Option, option_map, Ok, sym, ap, ◌∙◌, subst, arith}
use Rattle.std.proofs.lemmas.Bool.{cases_eq, cases_lt}
use Rattle.std.proofs.lemmas.List.{get_or-drop, length-take, ext_get_or}
use Rattle.std.proofs.lemmas.List.Elements.{All-contains, All-nil, All-cons}
use Rattle.std.specs.List.{All, Contains}
use Rattle.disk_model.specs.Places.{part}
use Rattle.disk_model.specs.PartLaws.{part_length, part_place}
use Rattle.journal_layout.specs.declared.shape.Shape.{Shape}
use Rattle.journal_layout.specs.declared.shape.Half.{Half}
use Rattle.journal_layout.specs.declared.shape.Half.TheVariants.{A, B}
use Rattle.journal_layout.specs.Layout.{IsWithinLimits, half_start, half_length, data_start, disk_length}
use Rattle.journal_layout.specs.Folding.{Folded, nothing_yet, replayed, sizes, last_start}
use Rattle.journal_layout.specs.Front.{front_opening}
use Rattle.journal_layout.specs.Standing.{Standing}
use Rattle.journal_layout.specs.Stands.{Stands, front_of, records_start, records_area}
use Rattle.journal_layout.specs.RecordLaws.{opened_first}
use Rattle.journal_layout.specs.ReadingLaws.{NoRecord, one_row}
use Rattle.journal_layout.specs.StandLaws.{stands_kept, stands_in_half}
use Rattle.journal_layout.specs.FrontLaws.{front_same}
use Rattle.journal_layout.specs.TakenLaws.{front_alone}
use Rattle.journal_layout.specs.Rewriting.{other_half, other_start}
use Rattle.case_journal.specs.Settling.{SameBut, HasLastGate, gates_of}
use Rattle.case_journal.specs.Doubting.{IsUnread, DiffersAlone, DiffersInDoubt}
use Rattle.case_journal.proofs.StandLemmas.{half_low, half_ends, limits_in}

-- the halves do not meet
apart : (shape : Shape) (half : Half) → (half_start shape half + half_length shape ≤ half_start shape (other_half half)) ⊎ (half_start shape (other_half half) + half_length shape ≤ half_start shape half)
apart shape A = inl (omega arith)
apart shape B = inr (omega arith)

-- parts are the same if their places are
part_by_places : (b c : List ℕ) (p n : ℕ) → p + n ≤ length b → length c ≡ length b → ((k : ℕ) → k < n → slice_index c (p + k) ≡ slice_index b (p + k)) → part c p n ≡ part b p n
part_by_places b c p n within long same =
    let first = part_length c p n (omega (arith, within, long)) in
    let second = part_length b p n within in
    ext_get_or 0 (part c p n) (part b p n) (first ∙ sym second)
    (λ k below. let low : k < n = omega (arith, below, first) in part_place c p n k 0 low ∙ same k low ∙ sym (part_place b p n k 0 low))

module _ (b c : List ℕ) (s : Standing) (stands : Stands b s) (long : length c ≡ length b) (agrees : (p : ℕ) → p < data_start s.shape → IsUnread b s p ⊎ (slice_index c p ≡ slice_index b p)) where
  limits : IsWithinLimits s.shape
  limits = (limits_in b s stands).0

  size : length b ≡ disk_length s.shape
  size = (limits_in b s stands).1

  read_place : (p : ℕ) → p < data_start s.shape → (IsUnread b s p → ⊥) → slice_index c p ≡ slice_index b p
  read_place p low read = ⊎_elim (λ unread. absurd (read unread)) (λ same. same) (agrees p low)

  -- the superblock is read
  superblock_same : part c 0 24 ≡ part b 0 24
  superblock_same =
      let low = half_low s.shape s.half in
      let other = half_low s.shape (other_half s.half) in
      part_by_places b c 0 24 (omega (arith, size)) long
      (λ k below. read_place (0 + k) (omega (arith, below)) (λ unread. ⊎_elim
      (λ behind. let after = behind.0 in omega (arith, after, low, below))
      (λ behind. let after = behind.1 in omega (arith, after, other, below)) unread))

  -- the taken half is read up to the gate behind its records
  taken_same : (n : ℕ) → n ≤ s.used + 1 → part c (half_start s.shape s.half) n ≡ part b (half_start s.shape s.half) n
  taken_same n most =
      let in_half = stands_in_half b s stands in
      let ends = half_ends s.shape s.half in
      let start = half_start s.shape s.half in
      part_by_places b c start n (omega (arith, ends, in_half, most, size)) long
      (λ k below. read_place (start + k) (omega (arith, below, most, in_half, ends)) (λ unread. ⊎_elim
      (λ behind. let after = behind.0 in omega (arith, after, below, most))
      (λ behind.
      let after = behind.1 in
      let before = behind.2 in
      ⊎_elim (λ first. omega (arith, first, after, below, most, in_half)) (λ second. omega (arith, second, before)) (apart s.shape s.half)) unread))

  other_low : other_start s + 32 ≤ data_start s.shape
  other_low =
      let ends = half_ends s.shape (other_half s.half) in
      let some = limits.some_half in
      omega (arith, ends, some)

  -- and so is the header of the other one, if it is open
  other_same : slice_index b (other_start s) ≡ 165 → part c (other_start s) 32 ≡ part b (other_start s) 32
  other_same opened =
      let some = limits.some_half in
      part_by_places b c (other_start s) 32 (omega (arith, other_low, size)) long
      (λ k below. read_place (other_start s + k) (omega (arith, below, other_low)) (λ unread. ⊎_elim
      (λ behind.
      let after = behind.0 in
      let before = behind.1 in
      ⊎_elim (λ first. omega (arith, first, before)) (λ second. omega (arith, second, after, below, some)) (apart s.shape s.half))
      (λ behind. behind.0 opened) unread))

  -- its gate is read
  other_gate : slice_index c (other_start s) ≡ slice_index b (other_start s)
  other_gate =
      let some = limits.some_half in
      read_place (other_start s) (omega (arith, other_low)) (λ unread. ⊎_elim
      (λ behind.
      let after = behind.0 in
      let before = behind.1 in
      ⊎_elim (λ first. omega (arith, first, before)) (λ second. omega (arith, second, after, some)) (apart s.shape s.half))
      (λ behind. let after = behind.1 in omega (arith, after)) unread)

  front : front_opening c ≡ Ok (front_of s)
  front = ⊎_elim opened closed (cases_eq (slice_index b (other_start s)) 165)
    where
      header : part c (half_start s.shape s.half) 32 ≡ part b (half_start s.shape s.half) 32
      header = let long_enough = stands.header in taken_same 32 (omega (arith, long_enough))

      both : (half : Half) → part c (half_start s.shape half) 32 ≡ part b (half_start s.shape half) 32 → part c (half_start s.shape (other_half half)) 32 ≡ part b (half_start s.shape (other_half half)) 32
          → front_opening c ≡ Ok (front_of s)
      both A first second = front_same b c (front_of s) stands.front long superblock_same first second
      both B first second = front_same b c (front_of s) stands.front long superblock_same second first

      opened : slice_index b (other_start s) ≡ 165 → front_opening c ≡ Ok (front_of s)
      opened is = both s.half header (other_same is)

      closed : (slice_index b (other_start s) ≡ 165 → ⊥) → front_opening c ≡ Ok (front_of s)
      closed shut =
          front_alone b c (front_of s) stands.front (record { long = long; superblock = superblock_same; taken = header }) (λ open_now. shut (sym other_gate ∙ open_now))

  -- they encode what an opening reads
  pub read_stands : Stands c s
  read_stands = stands_kept b c s front long (taken_same (s.used + 1) (omega arith)) stands

-- a number is one of these, or none of them
among_or_apart : (k : ℕ) (places : List ℕ) → Contains places k ⊎ All (λ (p : ℕ). k ≢ p) places
among_or_apart k [] = inr (All-nil (λ (p : ℕ). k ≢ p))
among_or_apart k (p ∷ rest) =
    ⊎_elim
    (λ same. inl (0, omega arith, sym same))
    (λ other. ⊎_elim (λ at. let low = at.1 in inl (suc at.0, omega (arith, low), at.2)) (λ none. inr (All-cons (λ (q : ℕ). k ≢ q) p rest other none)) (among_or_apart k rest))
    (cases_eq k p)

-- the last gate is one
module _ (b : List ℕ) (s : Standing) (stands : Stands b s) where
  abbrev area : List ℕ
  area = records_area b s.shape s.half

  closed_ends : (f : Folded) (n : ℕ) → n ≡ s.used - 32 → NoRecord s.shape.data_blocks (drop n area) f
  closed_ends f n is r first =
      let e : n + 0 ≡ n = omega arith in
      let at : sizes stands.records.records ≡ n = stands.records.size ∙ sym is in
      stands.records.closed (ap (slice_index area) at ∙ sym (ap (slice_index area) e) ∙ sym (get_or-drop n area 0 0) ∙ opened_first s.shape.data_blocks (drop n area) f r first)

  area_short : length area ≤ 2 ^ 32
  unfolding part
  area_short =
      let limits = (limits_in b s stands).0 in
      let most = limits.half in
      omega (arith, most, length-take (half_length s.shape - 32) (drop (records_start s.shape s.half) b))

  pub last_once : (last found : Option ℕ) → HasLastGate b s last → HasLastGate b s found → last ≡ found
  last_once last found one two =
      let limits = (limits_in b s stands).0 in
      let f = nothing_yet s.version in
      let same : one.ends.records ≡ two.ends.records =
      one_row s.shape.data_blocks area f one.ends.records two.ends.records limits.all_data area_short
      one.ends.row (closed_ends (replayed one.ends.records f) (sizes one.ends.records) one.ends.size)
      two.ends.row (closed_ends (replayed two.ends.records f) (sizes two.ends.records) two.ends.size) in
      let inside : one.inside ≡ two.inside = sym one.ends.ends ∙ ap last_start same ∙ two.ends.ends in
      one.place ∙ ap (option_map (λ (n : ℕ). records_start s.shape s.half + n)) inside ∙ sym two.place

pub enough : (b c new : List ℕ) (s : Standing) (last found : Option ℕ) → Stands b s → HasLastGate b s last → HasLastGate b s found → length c ≡ length b → DiffersInDoubt b c s last
    → SameBut (gates_of s found) c new → All (λ (p : ℕ). slice_index new p ≡ slice_index b p) (gates_of s found) → Stands new s
enough b c new s last found stands ends finds long differs same again =
    let one : last ≡ found = last_once b s stands last found ends finds in
    let gate : (p : ℕ) → Contains (gates_of s found) p → slice_index new p ≡ slice_index b p =
    λ p at. All-contains (λ (q : ℕ). slice_index new q ≡ slice_index b q) (gates_of s found) p again at in
    let kept : (p : ℕ) → slice_index c p ≡ slice_index b p → slice_index new p ≡ slice_index b p =
    λ p was. ⊎_elim (gate p) (λ others. same.same p others ∙ was) (among_or_apart p (gates_of s found)) in
    read_stands b new s stands (same.same_length ∙ long)
    (λ p low. ⊎_elim
    (λ alone. inr (⊎_elim
    (λ here. gate p (subst (λ (l : Option ℕ). Contains (gates_of s l) p) one (subst (Contains (gates_of s last)) (sym here) alone.1)))
    (kept p) (alone.2 p low)))
    (λ unread. ⊎_elim (λ at. inl at) (λ was. inr (kept p was)) (unread p low)) differs)

-- a stop while it goes on
module _ (b c left : List ℕ) (s t : Standing) (last : Option ℕ) (stands : Stands b s) (other : Stands c t) (shape : t.shape ≡ s.shape) (long : length c ≡ length b) (size : length left ≡ length b)
    (each : (p : ℕ) → p < data_start s.shape → (slice_index left p ≡ slice_index b p) ⊎ (slice_index left p ≡ slice_index c p)) where
  -- at this place it has what reads give
  as_read : (gate : ℕ) → DiffersAlone b c s gate → (gate < data_start s.shape → slice_index left gate ≡ slice_index b gate) → Stands left s
  as_read gate alone is =
      read_stands b left s stands size
      (λ p low. inr (⊎_elim
      (λ read. read)
      (λ kept. ⊎_elim (λ here. subst (λ (k : ℕ). k < data_start s.shape → slice_index left k ≡ slice_index b k) (sym here) is low) (λ same. kept ∙ same) (alone p low)) (each p low)))

  -- or what was left before
  as_left : (gate : ℕ) → DiffersAlone b c s gate → slice_index left gate ≡ slice_index c gate → Stands left t
  as_left gate alone is =
      read_stands c left t other (size ∙ sym long)
      (λ p below.
      let low : p < data_start s.shape = subst (λ (x : Shape). p < data_start x) shape below in
      inr (⊎_elim
      (λ read. ⊎_elim (λ here. subst (λ (k : ℕ). slice_index left k ≡ slice_index c k) (sym here) is) (λ same. read ∙ sym same) (alone p low))
      (λ kept. kept) (each p low)))

  pub one_before : DiffersInDoubt b c s last → Stands left s ⊎ Stands left t
  one_before (inr unread) =
      inl (read_stands b left s stands size (λ p low. ⊎_elim (λ read. inr read) (λ kept. ⊎_elim (λ at. inl at) (λ same. inr (kept ∙ same)) (unread p low)) (each p low)))
  one_before (inl alone) =
      ⊎_elim
      (λ low. ⊎_elim (λ read. inl (as_read alone.0 alone.2 (λ _. read))) (λ kept. inr (as_left alone.0 alone.2 kept)) (each alone.0 low))
      (λ high. inl (as_read alone.0 alone.2 (λ low. absurd (omega (arith, low, high)))))
      (cases_lt alone.0 (data_start s.shape))
