-- Laws of the archive that a disk encodes: its limits, the bytes on which it depends, and one more record.
use Rattle.std.proofs.Common.{◌≡◌, ◌≢◌, ℕ, ◌+◌, ◌-◌, ◌<◌, ◌≤◌, List, [], ◌∷◌, ◌++◌, length, take, drop, slice_index, refl, sym, ap, ◌∙◌, subst, arith, Ok}
use Rattle.std.proofs.lemmas.List.{get_or-take, length-drop, take-take}
use Rattle.disk_model.specs.Places.{part}
use Rattle.disk_model.specs.PartLaws.{part_length, part_part, part_place}
use Rattle.journal_layout.specs.declared.shape.Shape.{Shape}
use Rattle.journal_layout.specs.declared.shape.Half.{Half}
use Rattle.journal_layout.specs.declared.shape.Half.TheVariants.{A, B}
use Rattle.journal_layout.specs.Layout.{IsWithinLimits, half_length, half_start, disk_length}
use Rattle.journal_layout.specs.Record.{Record, record_size, spelling}
use Rattle.journal_layout.specs.Folding.{Folded, after, replayed, sizes, nothing_yet}
use Rattle.journal_layout.specs.Soundness.{IsSound}
use Rattle.journal_layout.specs.Front.{Front, front_opening}
use Rattle.journal_layout.specs.Standing.{Standing, folded_of, fresh, lengthened}
use Rattle.journal_layout.specs.Stands.{StandsFirst, AreRead, records_start, records_area, front_of, Stands}
use Rattle.journal_layout.specs.RowLaws.{row_push, row_same, row_in_half, replayed_push, sizes_push}
use Rattle.journal_layout.specs.FrontLaws.{front_limits, front_size, front_same}

-- records that are read

-- they end within their bytes, with room for a gate
pub read_in_half : (limit : ℕ) (bytes : List ℕ) (f said : Folded) (n : ℕ) → 0 < length bytes → AreRead limit bytes f said n → n + 1 ≤ length bytes
read_in_half limit bytes f said n some read = omega (arith, row_in_half limit bytes f read.records some read.row, read.size)

-- they depend on their bytes and the gate after them alone
pub read_same : (limit q : ℕ) (b c : List ℕ) (f said : Folded) (n : ℕ) → length c ≡ length b → n + 1 ≤ q → take q c ≡ take q b → AreRead limit b f said n → AreRead limit c f said n
read_same limit q b c f said n long low same read =
    let size = read.size in
    let place : slice_index c (sizes read.records) ≡ slice_index b (sizes read.records) =
    sym (get_or-take q c (sizes read.records) 0 (omega arith)) ∙ ap (λ (l : List ℕ). slice_index l (sizes read.records)) same ∙ get_or-take q b (sizes read.records) 0 (omega arith) in
    record {
      records = read.records;
      row = row_same limit q b c f read.records long (omega arith) same read.row;
      closed = λ e. read.closed (sym place ∙ e);
      folded = read.folded;
      size = read.size;
    }

-- one record more after the same bytes, and a closed gate
pub read_grown : (limit : ℕ) (b c : List ℕ) (f said : Folded) (n : ℕ) (r : Record) → length c ≡ length b → take n c ≡ take n b → AreRead limit b f said n
    → StandsFirst limit (drop n c) said r → slice_index c (n + record_size r) ≢ 165 → AreRead limit c f (after r said) (n + record_size r)
read_grown limit b c f said n r long same read first closed =
    let rs = read.records in
    let size = read.size in
    let row = row_same limit n b c f rs long (omega arith) same read.row in
    let P : ℕ → Folded → Type 0 = λ m g. StandsFirst limit (drop m c) g r in
    let last : P (sizes rs) (replayed rs f) = subst (λ (m : ℕ). P m (replayed rs f)) (sym size) (subst (P n) (sym read.folded) first) in
    let whole : sizes (rs ++ r ∷ []) ≡ n + record_size r = sizes_push rs r ∙ ap (λ (m : ℕ). m + record_size r) size in
    record {
      records = rs ++ r ∷ [];
      row = row_push limit c f rs r row last;
      closed = λ e. closed (ap (slice_index c) (sym whole) ∙ e);
      folded = replayed_push rs r f ∙ ap (after r) read.folded;
      size = whole;
    }

-- a disk that encodes something

pub half_lies : (s : Shape) (half : Half) → IsWithinLimits s → half_start s half + half_length s ≤ disk_length s
half_lies s A limits = let some = limits.some_data in omega arith
half_lies s B limits = let some = limits.some_data in omega arith

-- the bytes after a half's header
pub area_length : (b : List ℕ) (s : Shape) (half : Half) → IsWithinLimits s → disk_length s ≡ length b → length (records_area b s half) ≡ half_length s - 32
area_length b s half limits size =
    let some = limits.some_half in
    part_length b (records_start s half) (half_length s - 32) (omega (arith, half_lies s half limits))

-- its shape lies within its limits and is that of the disk
pub stands_limits : (b : List ℕ) (s : Standing) → Stands b s → IsWithinLimits s.shape
stands_limits b s stands = front_limits b (front_of s) stands.front

pub stands_size : (b : List ℕ) (s : Standing) → Stands b s → disk_length s.shape ≡ length b
stands_size b s stands = front_size b (front_of s) stands.front

-- its records end within its half, with room for a gate
pub stands_in_half : (b : List ℕ) (s : Standing) → Stands b s → s.used + 1 ≤ half_length s.shape
stands_in_half b s stands =
    let limits = stands_limits b s stands in
    let some = limits.some_half in
    let long = area_length b s.shape s.half limits (stands_size b s stands) in
    let header = stands.header in
    omega (arith, read_in_half s.shape.data_blocks (records_area b s.shape s.half) (nothing_yet s.version) (folded_of s) (s.used - 32) (omega arith) stands.records)

-- the first bytes of the records' area are a part of its half
area_front : (l : List ℕ) (s : Shape) (half : Half) (n : ℕ) → 32 ≤ n → n ≤ half_length s → take (n - 32) (records_area l s half) ≡ part (part l (half_start s half) n) 32 (n - 32)
unfolding part
area_front l s half n low high =
    take-take (n - 32) (half_length s - 32) (drop (half_start s half + 32) l) (omega arith)
    ∙ sym (part_part l (half_start s half) n 32 (n - 32) (omega arith))

area_same : (b c : List ℕ) (s : Shape) (half : Half) (n : ℕ) → 32 ≤ n → n ≤ half_length s → part c (half_start s half) n ≡ part b (half_start s half) n
    → take (n - 32) (records_area c s half) ≡ take (n - 32) (records_area b s half)
area_same b c s half n low high same = area_front c s half n low high ∙ ap (λ (l : List ℕ). part l 32 (n - 32)) same ∙ sym (area_front b s half n low high)

-- the superblock's first bytes and the headers of both halves are the same
pub record HasSameFront (s : Shape) (b c : List ℕ) : Type 0 where
  pub long : length c ≡ length b
  pub superblock : part c 0 24 ≡ part b 0 24
  pub first : part c (half_start s A) 32 ≡ part b (half_start s A) 32
  pub second : part c (half_start s B) 32 ≡ part b (half_start s B) 32

same_opening : (b c : List ℕ) (t : Front) → HasSameFront t.shape b c → front_opening b ≡ Ok t → front_opening c ≡ Ok t
same_opening b c t same e = front_same b c t e same.long same.superblock same.first same.second

-- after a front that opens so, it depends on its records and the gate after them alone
pub stands_kept : (b c : List ℕ) (s : Standing) → front_opening c ≡ Ok (front_of s) → length c ≡ length b
    → part c (half_start s.shape s.half) (s.used + 1) ≡ part b (half_start s.shape s.half) (s.used + 1) → Stands b s → Stands c s
stands_kept b c s front same used stands =
    let limits = stands_limits b s stands in
    let in_half = stands_in_half b s stands in
    let header = stands.header in
    let size = stands_size b s stands in
    let long : length (records_area c s.shape s.half) ≡ length (records_area b s.shape s.half) =
    area_length c s.shape s.half limits (size ∙ sym same) ∙ sym (area_length b s.shape s.half limits size) in
    record {
      front = front;
      header = stands.header;
      records =
          read_same s.shape.data_blocks (s.used + 1 - 32) (records_area b s.shape s.half) (records_area c s.shape s.half) (nothing_yet s.version) (folded_of s) (s.used - 32) long
          (omega arith) (area_same b c s.shape s.half (s.used + 1) (omega arith) in_half used) stands.records;
    }

-- it depends on its front, its records and the gate after them alone
pub stands_same : (b c : List ℕ) (s : Standing) → HasSameFront s.shape b c → part c (half_start s.shape s.half) (s.used + 1) ≡ part b (half_start s.shape s.half) (s.used + 1)
    → Stands b s → Stands c s
stands_same b c s same used stands = stands_kept b c s (same_opening b c (front_of s) same stands.front) same.long used stands

pub opened_part : (l : List ℕ) (p m : ℕ) (x : List ℕ) → part l p m ≡ x → take m (drop p l) ≡ x
unfolding part
opened_part l p m x e = e

-- one record more after those that it has, and a closed gate
pub stands_grown : (b c : List ℕ) (s : Standing) (r : Record) → HasSameFront s.shape b c → part c (half_start s.shape s.half) s.used ≡ part b (half_start s.shape s.half) s.used
    → s.used + record_size r + 1 ≤ half_length s.shape → IsSound s.shape.data_blocks (folded_of s) r
    → part c (half_start s.shape s.half + s.used) (record_size r) ≡ spelling r → slice_index c (half_start s.shape s.half + s.used + record_size r) ≢ 165
    → Stands b s → Stands c (lengthened s r)
stands_grown b c s r same used in_half sound spelled closed stands =
    let limits = stands_limits b s stands in
    let within = stands_in_half b s stands in
    let header = stands.header in
    let size = stands_size b s stands in
    let area = records_area c s.shape s.half in
    let start = half_start s.shape s.half in
    let len = area_length c s.shape s.half limits (size ∙ sym same.long) in
    let long : length area ≡ length (records_area b s.shape s.half) = len ∙ sym (area_length b s.shape s.half limits size) in
    let n = s.used - 32 in
    let whole : s.used + record_size r - 32 ≡ n + record_size r = omega arith in
    let place : start + 32 + n ≡ start + s.used = omega arith in
    let here : part area n (record_size r) ≡ spelling r =
    part_part c (start + 32) (half_length s.shape - 32) n (record_size r) (omega arith) ∙ ap (λ (p : ℕ). part c p (record_size r)) place ∙ spelled in
    let behind : slice_index area (n + record_size r) ≡ slice_index c (start + s.used + record_size r) =
    part_place c (start + 32) (half_length s.shape - 32) (n + record_size r) 0 (omega arith) ∙ ap (slice_index c) (omega arith) in
    let first : StandsFirst s.shape.data_blocks (drop n area) (folded_of s) r = record {
      spelled = opened_part area n (record_size r) (spelling r) here;
      in_half = omega (arith, length-drop n area);
      sound = sound;
    } in
    record {
      front = same_opening b c (front_of s) same stands.front;
      header = omega arith;
      records =
          subst (λ (m : ℕ). AreRead s.shape.data_blocks area (nothing_yet s.version) (after r (folded_of s)) m) (sym whole)
          (read_grown s.shape.data_blocks (records_area b s.shape s.half) area (nothing_yet s.version) (folded_of s) n r long
          (area_same b c s.shape s.half s.used header (omega arith) used) stands.records first (λ e. closed (sym behind ∙ e)));
    }

-- a front with a closed gate after the header encodes no case
pub stands_fresh : (b : List ℕ) (t : Front) → front_opening b ≡ Ok t → slice_index b (half_start t.shape t.half + 32) ≢ 165 → Stands b (fresh t.shape t.half t.version t.generation)
stands_fresh b t front closed =
    let limits = front_limits b t front in
    let some = limits.some_half in
    let place : slice_index (records_area b t.shape t.half) 0 ≡ slice_index b (half_start t.shape t.half + 32) =
    part_place b (half_start t.shape t.half + 32) (half_length t.shape - 32) 0 0 (omega arith) ∙ ap (slice_index b) (omega arith) in
    record {
      front = front;
      header = omega arith;
      records = record { records = []; row = tt; closed = λ e. closed (sym place ∙ e); folded = refl; size = refl };
    }
