-- A look while nobody writes.
use Rattle.std.proofs.Common.{◌≡◌, ℕ, suc, ◌+◌, ◌-◌, ◌*◌, ◌%◌, ◌<◌, ◌≤◌, List, [], ◌∷◌, ◌++◌, length, slice_index, refl, sym, ap, ◌∙◌, subst, arith, append_assoc}
use Rattle.byteorder.specs.Endian.{little_from}
use Rattle.disk_model.specs.Places.{AreBytes}
use Rattle.disk_model.specs.PartLaws.{part_place}
use Rattle.journal_layout.specs.Layout.{field, half_start, half_length}
use Rattle.journal_layout.specs.Record.{Record, record_size}
use Rattle.journal_layout.specs.SpellLaws.{record_some}
use Rattle.journal_layout.specs.Folding.{nothing_yet, sizes}
use Rattle.journal_layout.specs.RowLaws.{sizes_push}
use Rattle.journal_layout.specs.Standing.{Standing}
use Rattle.journal_layout.specs.Stands.{Stands, front_of, records_start, records_area}
use Rattle.journal_layout.specs.StandLaws.{stands_limits, stands_in_half}
use Rattle.shared_disk.specs.GrowLaws.{area_short, RowAt}
use Rattle.shared_disk.specs.History.{moment, AreMoments, AreMarked}
use Rattle.shared_disk.specs.HistoryLaws.{stands_at}
use Rattle.shared_disk.specs.RowsLaws.{row_gate, row_length, field_by_places, sizes_append}
use Rattle.shared_disk.specs.JournalLooks.{OpensInTurn, IsChain, IsLook}

-- the places of the gates of records, of which the first is there
abbrev gates_from : ℕ → List Record → List ℕ
gates_from at [] = []
gates_from at (r ∷ rest) = at ∷ gates_from (at + record_size r) rest

module _ (b : List ℕ) (s : Standing) (stands : Stands b s) where
  abbrev there : List Record
  there = stands.records.records

  abbrev first : ℕ
  first = records_start s.shape s.half

  abbrev area : List ℕ
  area = records_area b s.shape s.half

  there_size : sizes there + 33 ≤ half_length s.shape
  there_size =
      let room = stands_in_half b s stands in
      let header = stands.header in
      let size = stands.records.size in
      omega (arith, room, header, size)

  area_place : (k : ℕ) → k < half_length s.shape - 32 → slice_index area k ≡ slice_index b (first + k)
  area_place k below = part_place b first (half_length s.shape - 32) k 0 below

  -- its records are a chain
  chain_there : (ps qs : List Record) (at : ℕ) → there ≡ ps ++ qs → at ≡ first + sizes ps → IsChain b at (gates_from at qs) (first + sizes there)
  chain_there ps [] at whole place =
      let size = ap sizes whole ∙ sizes_append ps [] in
      let here : at ≡ first + sizes there = omega (arith, place, size) in
      let space = there_size in
      (here, λ opened. stands.records.closed (area_place (sizes there) (omega (arith, space)) ∙ ap (slice_index b) (sym here) ∙ opened))
  chain_there ps (q ∷ qs) at whole place =
      let size = ap sizes whole ∙ sizes_append ps (q ∷ qs) in
      let some = record_some q in
      let space = there_size in
      let pushed = sizes_push ps q in
      let limits = stands_limits b s stands in
      let row : RowAt b (ps ++ q ∷ qs) (front_of s) = subst (λ (l : List Record). RowAt b l (front_of s)) whole stands.records.row in
      let opened : slice_index b at ≡ 165 =
      ap (slice_index b) place ∙ sym (area_place (sizes ps) (omega (arith, size, some, space))) ∙ row_gate s.shape.data_blocks area (nothing_yet s.version) ps q qs row in
      let long : field b (at + 4) 4 ≡ record_size q =
      field_by_places b area (at + 4) (sizes ps + 4) 4
      (λ k below.
      let e : at + 4 + k ≡ first + (sizes ps + 4 + k) = omega (arith, place) in
      ap (slice_index b) e ∙ sym (area_place (sizes ps + 4 + k) (omega (arith, below, size, some, space))))
      ∙ row_length s.shape.data_blocks area (nothing_yet s.version) ps q qs (area_short b s.shape s.half limits) row in (
        refl,
        opened,
        omega (arith, long, some),
        subst (λ (n : ℕ). IsChain b (at + n) (gates_from (at + record_size q) qs) (first + sizes there)) (sym long)
            (chain_there (ps ++ q ∷ []) qs (at + record_size q) (whole ∙ sym (append_assoc ps (q ∷ []) qs)) (omega (arith, place, pushed))),
      )

still_turn : (moments : List (List ℕ)) (k at : ℕ) (places : List ℕ) (behind : ℕ) → IsChain (moment moments k) at places behind → OpensInTurn moments k k places
still_turn moments k at [] behind chain = omega arith
still_turn moments k at (p ∷ rest) behind chain =
    (k, omega arith, ap (slice_index (moment moments k)) chain.0 ∙ chain.1, still_turn moments k (at + field (moment moments k) (at + 4) 4) rest behind chain.3)

pub a_still_look_is_taken : (moments : List (List ℕ)) (standing : ℕ → Standing) (k : ℕ) → AreMoments moments standing → k < length moments
    → (look : IsLook moments (moment moments k) (front_of (standing k))) × (look.begin ≡ k) × (look.finish ≡ k)
a_still_look_is_taken moments standing k are within =
    let stands = stands_at moments standing are k within in
    let start = records_start (standing k).shape (standing k).half in
    let chain = chain_there (moment moments k) (standing k) stands [] stands.records.records start refl (omega arith) in (
      record {
        begin = k;
        has_generations = k;
        has_gates = k;
        has_order = k;
        has_records = k;
        has_gates_again = k;
        finish = k;
        last = within;
        long = refl;
        front = stands.front;
        places = gates_from start stands.records.records;
        behind = start + sizes stands.records.records;
        chain = chain;
        generations = λ p there. (k, omega arith, omega arith, refl);
        gates = λ p there. (k, omega arith, omega arith, refl);
        order = still_turn moments k start (gates_from start stands.records.records) (start + sizes stands.records.records) chain;
        records = λ p there. (k, omega arith, omega arith, refl);
        gates_again = λ p there. (k, omega arith, omega arith, refl);
        generations_again = λ p there. (k, omega arith, omega arith, refl);
      },
      refl,
      refl,
    )

pub lowest_of : (b : List ℕ) (p : ℕ) → AreBytes b → slice_index b p ≡ field b p 8 % 256
lowest_of b p are =
    let small : slice_index b p < 256 = are p in
    let whole : field b p 8 ≡ slice_index b p + 256 * little_from (suc p) 7 b = refl in
    omega (arith, small, whole)

one_is_zero : (k : ℕ) → k < 1 → k ≡ 0
one_is_zero k below = omega (arith, below)

pub a_disk_at_rest_is_honest : (b : List ℕ) (s : Standing) → AreBytes b → Stands b s
    → AreMoments (b ∷ []) (λ k. s) × AreMarked (b ∷ []) s.shape (λ half k. field b (half_start s.shape half + 8) 8)
a_disk_at_rest_is_honest b s are stands = (
  record { some = omega arith; first = stands; steps = λ k within. absurd (omega (arith, within)) },
  record {
    lowest = λ h k within. ap (λ (m : ℕ). slice_index (moment (b ∷ []) m) (half_start s.shape h + 8)) (one_is_zero k within) ∙ lowest_of b (half_start s.shape h + 8) are;
    rises = λ h k within. absurd (omega (arith, within));
    whole = λ h k within opened. ap (λ (m : ℕ). field (moment (b ∷ []) m) (half_start s.shape h + 8) 8) (sym (one_is_zero k within));
  },
)
