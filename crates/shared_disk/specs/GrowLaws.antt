-- While a half's generation stays, its records are those that it had, and maybe more after them.
use Rattle.std.proofs.Common.{◌≡◌, inl, ⊎_elim, ℕ, ◌+◌, ◌-◌, ◌^◌, ◌<◌, ◌≤◌, List, [], ◌++◌, length, drop, slice_index, refl, sym, ap, ◌∙◌, subst, arith}
use Rattle.std.proofs.lemmas.List.{length-take, append-nil}
use Rattle.disk_model.specs.Places.{part}
use Rattle.journal_layout.specs.declared.shape.Shape.{Shape}
use Rattle.journal_layout.specs.declared.shape.Half.{Half}
use Rattle.journal_layout.specs.Layout.{IsWithinLimits, half_start, half_length}
use Rattle.journal_layout.specs.Record.{Record}
use Rattle.journal_layout.specs.Folding.{nothing_yet, sizes}
use Rattle.journal_layout.specs.Front.{Front}
use Rattle.journal_layout.specs.Standing.{Standing}
use Rattle.journal_layout.specs.Stands.{Stands, StandInRow, front_of, records_start, records_area}
use Rattle.journal_layout.specs.StandLaws.{stands_limits, stands_size, stands_in_half, area_length, half_lies}
use Rattle.shared_disk.specs.CourseLaws.{along, later, held}
use Rattle.shared_disk.specs.History.{moment, AreMoments, AreRecordsOf, HasGrown}
use Rattle.shared_disk.specs.HistoryLaws.{stands_at, shape_at, long_at, course}
use Rattle.shared_disk.specs.StepLaws.{step_version}
use Rattle.shared_disk.specs.RowsLaws.{Extends, rows_meet, area_agrees, part_by_places, sizes_append, sizes_none}

pub area_short : (b : List ℕ) (s : Shape) (half : Half) → IsWithinLimits s → length (records_area b s half) ≤ 2 ^ 32
unfolding part
area_short b s half limits =
    let most = limits.half in
    let x = length-take (half_length s - 32) (drop (records_start s half) b) in
    omega (arith, most, x)

same_front : (shape shape2 : Shape) (half half2 : Half) (version version2 generation generation2 : ℕ) → shape ≡ shape2 → half ≡ half2 → version ≡ version2 → generation ≡ generation2
    → ◌≡◌ {A = Front} (record { shape = shape; half = half; version = version; generation = generation }) (record { shape = shape2; half = half2; version = version2; generation = generation2 })
same_front shape shape2 half half2 version version2 generation generation2 a b c d = cc

-- a row in the taken half that a front gives
abbrev pub RowAt : List ℕ → List Record → Front → Type 0
RowAt b records f = StandInRow f.shape.data_blocks (records_area b f.shape f.half) (nothing_yet f.version) records

module _ (moments : List (List ℕ)) (standing : ℕ → Standing) (are : AreMoments moments standing) where
  -- the records that a moment encodes
  abbrev pub records_at : (k : ℕ) → k < length moments → List Record
  records_at k within = (stands_at moments standing are k within).records.records

  pub used_at : (k : ℕ) (within : k < length moments) → 32 + sizes (records_at k within) ≡ (standing k).used
  used_at k within =
      let stands = stands_at moments standing are k within in
      let header = stands.header in
      let size = stands.records.size in
      omega (arith, header, size)

  module _ (i j : ℕ) (le : i ≤ j) (earlier : i < length moments) (within : j < length moments) (same : (standing j).generation ≡ (standing i).generation) where
    abbrev s : Standing
    s = standing i

    abbrev t : Standing
    t = standing j

    abbrev b : List ℕ
    b = moment moments i

    abbrev c : List ℕ
    c = moment moments j

    version_same : t.version ≡ s.version
    version_same =
        (along (λ (k : ℕ). k ≤ j → (standing k).version ≡ s.version) i j le (λ last. refl)
        (λ k low high so last.
        let crs = course moments standing are in
        let before = later _ _ _ _ _ _ _ crs i k low (omega (arith, high, within)) in
        let after = later _ _ _ _ _ _ _ crs (k + 1) j last within in
        let now = later _ _ _ _ _ _ _ crs k (k + 1) (omega arith) (omega (arith, last, within)) in
        let still : (standing (k + 1)).generation ≡ (standing k).generation = omega (arith, before, after, now, same) in
        step_version (moment moments k) (moment moments (k + 1)) (standing k) (standing (k + 1)) (stands_at moments standing are k (omega (arith, high, within))) (are.steps k (omega (arith, last, within))) still
        ∙ so (omega (arith, high))))
        (omega arith)

    shape_same : t.shape ≡ s.shape
    shape_same = shape_at moments standing are j within ∙ sym (shape_at moments standing are i earlier)

    long_same : length c ≡ length b
    long_same = long_at moments standing are j within ∙ sym (long_at moments standing are i earlier)

    abbrev stands_s : Stands b s
    stands_s = stands_at moments standing are i earlier

    abbrev stands_t : Stands c t
    stands_t = stands_at moments standing are j within

    -- the bytes that were in use stay
    in_use : (p : ℕ) → half_start s.shape s.half ≤ p → p < half_start s.shape s.half + s.used → (t.half ≡ s.half) × (s.used ≤ t.used) × (slice_index c p ≡ slice_index b p)
    in_use p from below =
        let place : half_start s.shape s.half ≡ half_start (standing 0).shape s.half = ap (λ (x : Shape). half_start x s.half) (shape_at moments standing are i earlier) in
        let h = held _ _ _ _ _ _ _ (course moments standing are) i j p le within same (omega (arith, place, from)) (omega (arith, place, below)) in
        (h.half_same, h.more, h.byte_same)

    header : 32 ≤ s.used
    header = stands_s.header

    pub half_same : t.half ≡ s.half
    half_same = let h = header in (in_use (half_start s.shape s.half) (omega arith) (omega (arith, h))).0

    pub used_more : s.used ≤ t.used
    used_more = let h = header in (in_use (half_start s.shape s.half) (omega arith) (omega (arith, h))).1

    lies : half_start s.shape s.half + half_length s.shape ≤ length b
    lies =
        let x = half_lies s.shape s.half (stands_limits b s stands_s) in
        let y = stands_size b s stands_s in
        omega (arith, x, y)

    fronts : front_of t ≡ front_of s
    fronts = same_front t.shape s.shape t.half s.half t.version s.version t.generation s.generation shape_same half_same version_same same

    row_s : RowAt b (records_at i earlier) (front_of s)
    row_s = stands_s.records.row

    row_t : RowAt c (records_at j within) (front_of s)
    row_t = subst (RowAt c (records_at j within)) fronts stands_t.records.row

    pub records_grow : Extends (records_at i earlier) (records_at j within)
    records_grow =
        let limits = stands_limits b s stands_s in
        let one = used_at i earlier in
        let two = used_at j within in
        let more = used_more in
        let room = stands_in_half b s stands_s in
        let q = sizes (records_at i earlier) in
        let area = area_length b s.shape s.half limits (stands_size b s stands_s) in
        let area2 = area_length c s.shape s.half limits (stands_size b s stands_s ∙ sym long_same) in
        ⊎_elim
        (λ extends. extends)
        (λ back.
        let whole = ap sizes back.1 ∙ sizes_append (records_at j within) back.0 in
        let none : back.0 ≡ [] = sizes_none back.0 (omega (arith, whole, one, two, more)) in
        ([], sym (back.1 ∙ ap (λ (l : List Record). records_at j within ++ l) none ∙ append-nil (records_at j within)) ∙ sym (append-nil (records_at i earlier))))
        (rows_meet s.shape.data_blocks q (records_area b s.shape s.half) (records_area c s.shape s.half) (nothing_yet s.version) (records_at i earlier) (records_at j within)
        limits.all_data (area_short b s.shape s.half limits) (area2 ∙ sym area)
        (area_agrees b c s.shape s.half q lies long_same (omega (arith, one, room))
        (λ p from below. (in_use p (omega (arith, from)) (omega (arith, below, one))).2))
        (inl (omega arith)) row_s row_t)

    bytes_same : part c (half_start s.shape s.half) s.used ≡ part b (half_start s.shape s.half) s.used
    bytes_same =
        let room = stands_in_half b s stands_s in
        let on_disk = lies in
        part_by_places b c (half_start s.shape s.half) s.used (omega (arith, room, on_disk)) long_same
        (λ k below. (in_use (half_start s.shape s.half + k) (omega arith) (omega (arith, below))).2)

    -- a half grows only
    pub grown : HasGrown b s c t
    grown =
        let extends = records_grow in
        record {
          half = half_same;
          records = records_at i earlier;
          more = extends.0;
          before = (row_s, used_at i earlier);
          now = subst (AreRecordsOf c t) extends.1 (stands_t.records.row, used_at j within);
          bytes = bytes_same;
        }

pub a_half_grows_only : (moments : List (List ℕ)) (standing : ℕ → Standing) (i j : ℕ) → AreMoments moments standing → i ≤ j → j < length moments
    → (standing j).generation ≡ (standing i).generation → HasGrown (moment moments i) (standing i) (moment moments j) (standing j)
a_half_grows_only moments standing i j are le within same = grown moments standing are i j le (omega (arith, le, within)) within same
