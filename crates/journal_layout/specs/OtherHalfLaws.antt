-- Laws of the half that is not taken: whatever is written there while its gate is not open, the bytes encode the same; once it is opened over a snapshot, they encode
-- that.
use Rattle.std.proofs.Common.{◌≡◌, ◌≢◌, ◌⊎◌, inl, inr, ℕ, ◌+◌, ◌-◌, ◌≤◌, List, [], ◌∷◌, ◌++◌, length, take, slice_index, sym, ap, ◌∙◌, subst, arith, Ok}
use Rattle.std.specs.List.{flat_map}
use Rattle.disk_model.specs.Places.{part, SameOutside}
use Rattle.disk_model.specs.PartLaws.{part_before, part_after, part_spared, part_split, part_part, part_place, place_after, widened}
use Rattle.journal_layout.specs.declared.shape.Shape.{Shape}
use Rattle.journal_layout.specs.declared.shape.Half.{Half}
use Rattle.journal_layout.specs.declared.shape.Half.TheVariants.{A, B}
use Rattle.journal_layout.specs.Layout.{half_length, half_start, half_header}
use Rattle.journal_layout.specs.Record.{spelling}
use Rattle.journal_layout.specs.Folding.{Folded, nothing_yet, sizes}
use Rattle.journal_layout.specs.Front.{header_at, front_opening}
use Rattle.journal_layout.specs.FrontLaws.{known_small}
use Rattle.journal_layout.specs.FoundLaws.{byte_part}
use Rattle.journal_layout.specs.TakenLaws.{HasSameTaken, front_alone, front_switched, header_told}
use Rattle.journal_layout.specs.Standing.{Standing}
use Rattle.journal_layout.specs.Stands.{AreRead, records_area, front_of, Stands}
use Rattle.journal_layout.specs.StandLaws.{stands_limits, stands_size, stands_in_half, stands_kept, half_lies, area_length, opened_part}
use Rattle.journal_layout.specs.Rewriting.{other_half, other_start, snapshot, snapshot_size, rewritten, HoldsSnapshot, MayRewrite}
use Rattle.journal_layout.specs.SnapshotLaws.{a_snapshot_is_read}

-- places

-- the superblock lies before the halves
pub half_behind : (s : Shape) (half : Half) → 4096 ≤ half_start s half
half_behind s A = omega arith
half_behind s B = omega arith

-- the halves lie apart
pub halves_apart : (s : Shape) (half : Half) (n : ℕ) → n ≤ half_length s
    → (half_start s half + n ≤ half_start s (other_half half)) ⊎ (half_start s (other_half half) + half_length s ≤ half_start s half)
halves_apart s A n low = inl (omega arith)
halves_apart s B n low = inr (omega arith)

module _ (b c : List ℕ) (s : Standing) (stands : Stands b s) (same : SameOutside (other_start s) (half_length s.shape) b c) where
  -- parts of the taken half
  taken_same : (n : ℕ) → n ≤ half_length s.shape → part c (half_start s.shape s.half) n ≡ part b (half_start s.shape s.half) n
  taken_same n low =
      part_spared (other_start s) (half_length s.shape) b c same (half_start s.shape s.half) n (halves_apart s.shape s.half n low)

  front_stays : HasSameTaken (front_of s) b c
  front_stays =
      let some = (stands_limits b s stands).some_half in
      record {
        long = same.same_length;
        superblock = part_before (other_start s) (half_length s.shape) b c same 0 24 (omega (arith, half_behind s.shape (other_half s.half)));
        taken = taken_same 32 (omega arith);
      }

-- Whatever is written into the other half while its gate is not open, the bytes encode the same.
pub the_other_half_is_apart : (b c : List ℕ) (s : Standing) → Stands b s → SameOutside (other_start s) (half_length s.shape) b c
    → slice_index c (other_start s) ≢ 165 → Stands c s
the_other_half_is_apart b c s stands same closed =
    stands_kept b c s (front_alone b c (front_of s) stands.front (front_stays b c s stands same) closed) same.same_length
    (taken_same b c s stands same (s.used + 1) (stands_in_half b s stands)) stands

-- the gate of the other half is open, and a snapshot follows it
module _ (b c : List ℕ) (s : Standing) (f : Folded) (stands : Stands b s) (may : MayRewrite s f) (holds : HoldsSnapshot s f b)
    (same : SameOutside (other_start s) 1 b c) (opened : slice_index c (other_start s) ≡ 165) where
  abbrev start : ℕ
  start = other_start s

  abbrev area : List ℕ
  area = records_area c s.shape (other_half s.half)

  -- the other half lies on the disk
  half_within : start + half_length s.shape ≤ length c
  half_within =
      let limits = stands_limits b s stands in
      omega (arith, half_lies s.shape (other_half s.half) limits, stands_size b s stands, same.same_length)

  header_spelled : part c start 32 ≡ 165 ∷ half_header f.version (s.generation + 1)
  header_spelled =
      let some = (stands_limits b s stands).some_half in
      part_split c start 1 31
      ∙ ap (λ (l : List ℕ). l ++ part c (start + 1) 31) (byte_part c start (omega (arith, half_within)) ∙ ap (λ (n : ℕ). n ∷ []) opened)
      ∙ ap (λ (l : List ℕ). 165 ∷ l) (part_after start 1 b c same (start + 1) 31 (omega arith) ∙ holds.header)

  front_opens : front_opening c ≡ Ok (front_of (rewritten s f))
  front_opens =
      let some = (stands_limits b s stands).some_half in
      let wide = widened start 1 b c same start (half_length s.shape) (omega arith) (omega arith) in
      front_switched b c (front_of s) stands.front (front_stays b c s stands wide) f.version may.known
      (ap header_at header_spelled ∙ header_told f.version (s.generation + 1) (known_small f.version may.known) may.generation)

  records_spelled : take (sizes (snapshot f)) area ≡ flat_map spelling (snapshot f)
  records_spelled =
      let n = sizes (snapshot f) in
      let in_half = may.in_half in
      opened_part area 0 n (flat_map spelling (snapshot f))
      (part_part c (start + 32) (half_length s.shape - 32) 0 n (omega arith)
      ∙ ap (λ (p : ℕ). part c p n) (omega arith)
      ∙ part_after start 1 b c same (start + 32) n (omega arith)
      ∙ holds.records)

  gate_behind : slice_index area (sizes (snapshot f)) ≢ 165
  gate_behind e =
      let n = sizes (snapshot f) in
      let in_half = may.in_half in
      let place : slice_index area n ≡ slice_index b (start + snapshot_size f) =
      part_place c (start + 32) (half_length s.shape - 32) n 0 (omega arith)
      ∙ ap (slice_index c) (omega arith)
      ∙ place_after start 1 b c same (start + snapshot_size f) 0 (omega arith) in
      holds.closed (sym place ∙ e)

  records_read : AreRead s.shape.data_blocks area (nothing_yet f.version) f (snapshot_size f - 32)
  records_read =
      let limits = stands_limits b s stands in
      let long = area_length c s.shape (other_half s.half) limits (stands_size b s stands ∙ sym same.same_length) in
      let in_half = may.in_half in
      let n : sizes (snapshot f) ≡ snapshot_size f - 32 = omega arith in
      subst (λ (m : ℕ). AreRead s.shape.data_blocks area (nothing_yet f.version) f m) n
      (a_snapshot_is_read s.shape.data_blocks area f may.live may.labels (omega (arith, long)) records_spelled gate_behind)

-- Once the gate of the other half is open over a snapshot, the bytes encode the snapshot instead of the old cases.
pub an_opened_half_stands : (b c : List ℕ) (s : Standing) (f : Folded) → Stands b s → MayRewrite s f → HoldsSnapshot s f b
    → SameOutside (other_start s) 1 b c → slice_index c (other_start s) ≡ 165 → Stands c (rewritten s f)
an_opened_half_stands b c s f stands may holds same opened = record {
  front = front_opens b c s f stands may holds same opened;
  header = omega arith;
  records = records_read b c s f stands may holds same opened;
}
