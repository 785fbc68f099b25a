-- What a list of bytes encodes depends on a few parts of it: how it stays the same, and how it grows by a record.
use Rattle.std.proofs.Common.{◌≡◌, ◌≢◌, ℕ, ◌+◌, ◌-◌, ◌<◌, ◌≤◌, List, length, take, drop, slice_index, sym, ap, ◌∙◌, subst, arith}
use Rattle.std.proofs.lemmas.List.{take-take}
use Rattle.disk_model.specs.Places.{part, SameOutside}
use Rattle.disk_model.specs.PartLaws.{part_is, part_length, part_place, part_before, part_after}
use Rattle.journal_layout.specs.declared.shape.Shape.{Shape}
use Rattle.journal_layout.specs.declared.shape.Half.{Half}
use Rattle.journal_layout.specs.declared.shape.Half.TheVariants.{A, B}
use Rattle.journal_layout.specs.Layout.{IsWithinLimits, disk_length, half_start, half_length, data_start}
use Rattle.journal_layout.specs.Record.{Record, record_size, spelling}
use Rattle.journal_layout.specs.Folding.{nothing_yet}
use Rattle.journal_layout.specs.Standing.{Standing, folded_of, lengthened}
use Rattle.journal_layout.specs.Stands.{AreRead, Stands, records_start, records_area, front_of}
use Rattle.journal_layout.specs.RowLaws.{row_same}
use Rattle.case_journal.specs.Append.{MayFollow}
use Rattle.journal_snapshot.specs.Holding.{SameFront, SameHeaders}
use Rattle.journal_layout.specs.FrontLaws.{front_same}
use Rattle.journal_layout.specs.StandLaws.{stands_limits, stands_size, stands_in_half, HasSameFront, stands_grown}

-- the place of the next record's gate
abbrev pub gate_of : Standing → ℕ
gate_of s = half_start s.shape s.half + s.used

pub half_low : (shape : Shape) (half : Half) → 4096 ≤ half_start shape half
half_low shape A = omega arith
half_low shape B = omega arith

pub half_ends : (shape : Shape) (half : Half) → half_start shape half + half_length shape ≤ data_start shape
half_ends shape A = omega arith
half_ends shape B = omega arith

-- what is changed in the taken half after its header leaves both headers
pub headers_stay : (shape : Shape) (half : Half) (at n : ℕ) (d c : List ℕ) → IsWithinLimits shape → SameOutside at n d c
    → half_start shape half + 32 ≤ at → at + n ≤ half_start shape half + half_length shape → SameHeaders shape d c
headers_stay shape A at n d c limits same low high = let some = limits.some_half in record {
  first = part_before at n d c same (half_start shape A) 32 (omega arith);
  second = part_after at n d c same (half_start shape B) 32 (omega arith);
}
headers_stay shape B at n d c limits same low high = let some = limits.some_half in record {
  first = part_before at n d c same (half_start shape A) 32 (omega arith);
  second = part_before at n d c same (half_start shape B) 32 (omega arith);
}

pub limits_in : (b : List ℕ) (s : Standing) → Stands b s → IsWithinLimits s.shape × (length b ≡ disk_length s.shape)
limits_in b s stands = (stands_limits b s stands, sym (stands_size b s stands))

area_length : (b : List ℕ) (s : Standing) → Stands b s → length (records_area b s.shape s.half) ≡ half_length s.shape - 32
area_length b s stands =
    let l = limits_in b s stands in
    let some = l.0.some_half in
    let long = l.1 in
    let ends = half_ends s.shape s.half in
    part_length b (records_start s.shape s.half) (half_length s.shape - 32) (omega arith)

-- the gate of the next record lies in the half
pub gate_within : (b : List ℕ) (s : Standing) → Stands b s → s.used + 1 ≤ half_length s.shape
gate_within b s stands = stands_in_half b s stands

pub front_part : (b : List ℕ) (p n q : ℕ) → q ≤ n → take q (part b p n) ≡ part b p q
front_part b p n q low =
    ap (take q) (part_is b p n) ∙ take-take q n (drop p b) low ∙ sym (part_is b p q)

-- the records' bytes are the same where the half is changed from the next gate on
front_stays : (s : Standing) (n : ℕ) (d c : List ℕ) → 32 ≤ s.used → s.used ≤ half_length s.shape → SameOutside (gate_of s) n d c
    → take (s.used - 32) (records_area c s.shape s.half) ≡ take (s.used - 32) (records_area d s.shape s.half)
front_stays s n d c header within same =
    front_part c (records_start s.shape s.half) (half_length s.shape - 32) (s.used - 32) (omega arith)
    ∙ part_before (gate_of s) n d c same (records_start s.shape s.half) (s.used - 32) (omega arith)
    ∙ sym (front_part d (records_start s.shape s.half) (half_length s.shape - 32) (s.used - 32) (omega arith))

-- a place of the records' bytes
pub area_place : (b : List ℕ) (s : Standing) (k : ℕ) → k < half_length s.shape - 32 → slice_index (records_area b s.shape s.half) k ≡ slice_index b (records_start s.shape s.half + k)
area_place b s k below = part_place b (records_start s.shape s.half) (half_length s.shape - 32) k 0 below

-- a disk that encodes this still does where only the half from the next gate on is changed, and that gate is not open
pub still_stands : (s : Standing) (n : ℕ) (d c : List ℕ) → Stands d s → SameOutside (gate_of s) n d c → s.used + n ≤ half_length s.shape
    → slice_index c (gate_of s) ≢ 165 → Stands c s
still_stands s n d c stands same within closed =
    let l = limits_in d s stands in
    let some = l.0.some_half in
    let low = half_low s.shape s.half in
    let header = stands.header in
    let size = stands.records.size in
    let gate = gate_within d s stands in
    let long : length c ≡ length d = same.same_length in
    let area = area_length d s stands in
    let ends = half_ends s.shape s.half in
    let headers : SameHeaders s.shape d c = headers_stay s.shape s.half (gate_of s) n d c l.0 same (omega arith) (omega arith) in
    let area_c : length (records_area c s.shape s.half) ≡ length (records_area d s.shape s.half) =
    part_length c (records_start s.shape s.half) (half_length s.shape - 32) (let e = l.1 in omega arith) ∙ sym area in
    let e : half_start s.shape s.half + 32 + (s.used - 32) ≡ gate_of s = omega arith in
    record {
      front = front_same d c (front_of s) stands.front long (part_before (gate_of s) n d c same 0 24 (omega arith))
          headers.first headers.second;
      header = header;
      records = record {
        records = stands.records.records;
        row = row_same s.shape.data_blocks (s.used - 32) (records_area d s.shape s.half) (records_area c s.shape s.half) (nothing_yet s.version) stands.records.records
            area_c (omega arith) (front_stays s n d c header (omega arith) same) stands.records.row;
        closed = λ opened. closed (sym (ap (slice_index c) e) ∙ sym (area_place c s (s.used - 32) (omega arith)) ∙ sym (ap (slice_index (records_area c s.shape s.half)) size) ∙ opened);
        folded = stands.records.folded;
        size = size;
      };
    }

-- it encodes one record more where that is spelled from the next gate on, with a gate after it that is not open
pub stands_after : (s : Standing) (r : Record) (n : ℕ) (d c : List ℕ) → Stands d s → SameOutside (gate_of s) n d c → s.used + n ≤ half_length s.shape
    → record_size r + 1 ≤ n → MayFollow s r → part c (gate_of s) (record_size r) ≡ spelling r → slice_index c (gate_of s + record_size r) ≢ 165
    → Stands c (lengthened s r)
stands_after s r n d c stands same within fits sound spelled closed =
    let l = limits_in d s stands in
    let low = half_low s.shape s.half in
    let header = stands.header in
    let headers : SameHeaders s.shape d c = headers_stay s.shape s.half (gate_of s) n d c l.0 same (omega arith) (omega arith) in
    let front : HasSameFront s.shape d c = record {
      long = same.same_length;
      superblock = part_before (gate_of s) n d c same 0 24 (omega arith);
      first = headers.first;
      second = headers.second;
    } in
    stands_grown d c s r front (part_before (gate_of s) n d c same (half_start s.shape s.half) s.used (omega arith)) (omega arith) sound spelled closed stands

-- a change of the data blocks leaves what a disk encodes, and the superblock and both halves
pub data_apart : (s : Standing) (at n : ℕ) (d c : List ℕ) → Stands d s → SameOutside at n d c → data_start s.shape ≤ at → Stands c s × SameFront s.shape d c
data_apart s at n d c stands same low =
    let l = limits_in d s stands in
    let some = l.0.some_half in
    let ends = half_ends s.shape s.half in
    let first = half_ends s.shape A in
    let second = half_ends s.shape B in
    let headers : SameHeaders s.shape d c = record {
      first = part_before at n d c same (half_start s.shape A) 32 (omega arith);
      second = part_before at n d c same (half_start s.shape B) 32 (omega arith);
    } in
    let area : records_area c s.shape s.half ≡ records_area d s.shape s.half =
    part_before at n d c same (records_start s.shape s.half) (half_length s.shape - 32) (omega arith) in (
      record {
        front = front_same d c (front_of s) stands.front same.same_length (part_before at n d c same 0 24 (omega arith)) headers.first headers.second;
        header = stands.header;
        records = subst (λ (x : List ℕ). AreRead s.shape.data_blocks x (nothing_yet s.version) (folded_of s) (s.used - 32)) (sym area) stands.records;
      },
      part_before at n d c same 0 (data_start s.shape) (omega arith),
    )
