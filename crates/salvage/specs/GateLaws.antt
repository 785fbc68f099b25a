-- Laws of gates that are shown closed: if it is the gate of the first bad record, the records before it stand.
use Rattle.std.proofs.Common.{◌≡◌, ◌⊎◌, inl, inr, ℕ, ◌+◌, ◌-◌, ◌*◌, ◌/◌, ◌^◌, ◌<◌, ◌≤◌, List, [], ◌∷◌, length, take, drop, slice_index, get_or, refl, sym, ap, ◌∙◌, subst, arith, Result, Ok}
use Rattle.std.proofs.lemmas.List.{drop-drop, length-drop}
use Rattle.disk_model.specs.Places.{part, overwritten}
use Rattle.disk_model.specs.PlaceLaws.{overwritten_length}
use Rattle.disk_model.specs.PartLaws.{part_is, part_part, part_place, part_overwritten}
use Rattle.journal_layout.specs.Folding.{Folded, nothing_yet, after, replayed, sizes}
use Rattle.journal_layout.specs.Front.{Front, front_opening}
use Rattle.journal_layout.specs.FrontLaws.{front_limits, front_size, front_same}
use Rattle.journal_layout.specs.Layout.{IsWithinLimits, disk_length, half_length, half_start}
use Rattle.journal_layout.specs.ReadingLaws.{NoRecord, stands_or_refused}
use Rattle.journal_layout.specs.Record.{Record, record_size}
use Rattle.journal_layout.specs.RecordLaws.{one_record, record_again}
use Rattle.journal_layout.specs.Rewriting.{other_half}
use Rattle.journal_layout.specs.RowLaws.{row_same, row_in_half}
use Rattle.journal_layout.specs.Standing.{Standing}
use Rattle.journal_layout.specs.StandLaws.{HasSameFront, area_length, half_lies, stands_in_half, stands_limits, stands_same, stands_size}
use Rattle.journal_layout.specs.Stands.{IsRefused, StandInRow, Stands, front_of, records_area, records_start}
use Rattle.journal_layout.specs.declared.faults.OpenFault.{OpenFault}
use Rattle.journal_layout.specs.declared.shape.Half.{Half}
use Rattle.journal_layout.specs.declared.shape.Half.TheVariants.{A, B}
use Rattle.journal_layout.specs.declared.shape.Shape.{Shape}
use Rattle.salvage.specs.FaultLaws.{record_behind}
use Rattle.salvage.specs.Finding.{EndsAt, IsBehind, StandsUntil, closes, gate_of}
use Rattle.salvage.specs.ShowLaws.{part_unpatched}
use Rattle.salvage.specs.Showing.{shown}

same_ok : {X : Type 0} (o : Result X OpenFault) (x y : X) → o ≡ Ok x → o ≡ Ok y → x ≡ y
same_ok o x y e f = cc

-- a row ends at the first place without a record, or before

pub row_reaches : (limit : ℕ) (bytes : List ℕ) (f : Folded) (rs ss : List Record) → limit ≤ 16777216 → length bytes ≤ 2 ^ 32
    → StandInRow limit bytes f rs → StandInRow limit bytes f ss → NoRecord limit (drop (sizes ss) bytes) (replayed ss f) → sizes rs ≤ sizes ss
row_reaches limit bytes f [] ss low short row other finish = omega arith
row_reaches limit bytes f (r ∷ rs) [] low short row other finish = absurd (finish r row.0)
row_reaches limit bytes f (r ∷ rs) (s ∷ ss) low short row other finish =
    let e : s ≡ r = one_record limit bytes f f s r low short other.0 row.0 in
    let same = subst (λ (x : Record). StandInRow limit (drop (record_size x) bytes) (after x f) ss × NoRecord limit (drop (record_size x + sizes ss) bytes) (replayed ss (after x f))) e (other.1, finish) in
    let P : List ℕ → Type 0 = λ l. NoRecord limit l (replayed ss (after r f)) in
    let rest = row_reaches limit (drop (record_size r) bytes) (after r f) rs ss low (omega (arith, length-drop (record_size r) bytes)) row.1 same.0
    (subst P (sym (drop-drop (sizes ss) (record_size r) bytes)) same.1) in
    omega (arith, rest, ap record_size e)

-- records are of 16 bytes each, or of so many times 16

pub sixteens : (rs : List Record) → (k : ℕ) × (sizes rs ≡ 16 * k)
sixteens [] = (0, refl)
sixteens (r ∷ rest) = let more = sixteens rest in let e = more.1 in (record_size r / 16 + more.0, (omega (arith, e)))

-- the byte that is shown
pub patched_there : (b : List ℕ) (p x : ℕ) → p < length b → get_or (overwritten b p (x ∷ [])) p 0 ≡ x
patched_there b p x within =
    let c = overwritten b p (x ∷ []) in
    let e : p + 0 ≡ p = omega arith in
    sym (ap (λ (k : ℕ). get_or c k 0) e) ∙ sym (part_place c p 1 0 0 (omega arith))
    ∙ ap (λ (l : List ℕ). get_or l 0 0) (part_overwritten b p (x ∷ []) (omega (arith, within)))

-- the gate after the records that stand until a fault

module _ (b : List ℕ) (s : Standing) (fault : OpenFault) (until : StandsUntil b s fault) where
  pub until_limits : IsWithinLimits s.shape
  until_limits = front_limits b (front_of s) until.front

  pub until_size : disk_length s.shape ≡ length b
  until_size = front_size b (front_of s) until.front

  abbrev area : List ℕ
  area = records_area b s.shape s.half

  area_long : length area ≡ half_length s.shape - 32
  area_long = area_length b s.shape s.half until_limits until_size

  until_in_half : s.used + 1 ≤ half_length s.shape
  until_in_half =
      let some = until_limits.some_half in
      let head = until.header in
      let size = until.size in
      omega (arith, area_long, row_in_half s.shape.data_blocks area (nothing_yet s.version) until.records (omega (arith, area_long)) until.row)

  pub gate_low : half_start s.shape s.half + 32 ≤ gate_of s
  gate_low = let head = until.header in omega arith

  pub gate_high : gate_of s < half_start s.shape s.half + half_length s.shape
  gate_high = omega (arith, until_in_half)

  pub gate_within : gate_of s < length b
  gate_within = omega (arith, gate_high, half_lies s.shape s.half until_limits, until_size)

  pub no_more : NoRecord s.shape.data_blocks (drop (sizes until.records) area) (replayed until.records (nothing_yet s.version))
  no_more r first =
      let most = until_limits.half in
      let none = (record_again s.shape.data_blocks (records_start s.shape s.half + sizes until.records) (drop (sizes until.records) area) (replayed until.records (nothing_yet s.version)) r
      until_limits.all_data (omega (arith, area_long, length-drop (sizes until.records) area)) first).faultless in
      let found = until.found in
      cc

-- no byte after the header of one half is in the header of either
pub header_spared : (s : Shape) (half other : Half) (g : ℕ) → IsWithinLimits s → half_start s half + 32 ≤ g → g < half_start s half + half_length s
    → (half_start s other + 32 ≤ g) ⊎ (g + 1 ≤ half_start s other)
header_spared s A A g limits low high = inl low
header_spared s A B g limits low high = inr (omega (arith, low, high))
header_spared s B A g limits low high = let some = limits.some_half in inl (omega (arith, low, high))
header_spared s B B g limits low high = inl low

half_behind : (s : Shape) (half : Half) → 4096 ≤ half_start s half
half_behind s A = omega arith
half_behind s B = omega arith

-- a gate in a half, after its header, does not belong to the bytes that an opening reads first
pub front_spared : (b c : List ℕ) (s : Shape) (half : Half) (g x : ℕ) → IsWithinLimits s → half_start s half + 32 ≤ g → g < half_start s half + half_length s → g < length b
    → c ≡ overwritten b g (x ∷ []) → HasSameFront s b c
front_spared b c s half g x limits low high within is = record {
  long = ap length is ∙ overwritten_length b g (x ∷ []) (omega (arith, within));
  superblock = ap (λ (l : List ℕ). part l 0 24) is ∙ part_unpatched b g x 0 24 within (inl (omega (arith, low, half_behind s half)));
  first = ap (λ (l : List ℕ). part l (half_start s A) 32) is ∙ part_unpatched b g x (half_start s A) 32 within (turned (half_start s A) (header_spared s half A g limits low high));
  second = ap (λ (l : List ℕ). part l (half_start s B) 32) is ∙ part_unpatched b g x (half_start s B) 32 within (turned (half_start s B) (header_spared s half B g limits low high));
}
  where
    turned : (p : ℕ) → (p + 32 ≤ g) ⊎ (g + 1 ≤ p) → (p + 32 ≤ g) ⊎ (g + 1 ≤ p)
    turned p out = out

-- the first bytes of the records' area, before the gate
area_spared : (b : List ℕ) (s : Shape) (half : Half) (g x n : ℕ) → g < length b → n ≤ half_length s - 32 → records_start s half + n ≤ g
    → take n (records_area (overwritten b g (x ∷ [])) s half) ≡ take n (records_area b s half)
area_spared b s half g x n within low before = front (overwritten b g (x ∷ [])) ∙ part_unpatched b g x (records_start s half) n within (inl before) ∙ sym (front b)
  where
    front : (l : List ℕ) → take n (records_area l s half) ≡ part l (records_start s half) n
    front l =
        let e : records_start s half + 0 ≡ records_start s half = omega arith in
        sym (part_is (records_area l s half) 0 n) ∙ part_part l (records_start s half) (half_length s - 32) 0 n (omega (arith, low)) ∙ ap (λ (p : ℕ). part l p n) e

-- If the gate of the first bad record is shown closed, the cases of the records before it stand.
pub closed_stands : (b : List ℕ) (s : Standing) (fault : OpenFault) → StandsUntil b s fault → Stands (shown (closes (gate_of s)) b) s
closed_stands b s fault until =
    let g = gate_of s in
    let c = overwritten b g (0 ∷ []) in
    let limits = until_limits b s fault until in
    let within = gate_within b s fault until in
    let low = gate_low b s fault until in
    let high = gate_high b s fault until in
    let size = until.size in
    let head = until.header in
    let some = limits.some_half in
    let same : HasSameFront s.shape b c = front_spared b c s.shape s.half g 0 limits low high within refl in
    let long_b = area_length b s.shape s.half limits (until_size b s fault until) in
    let long : length (records_area c s.shape s.half) ≡ length (records_area b s.shape s.half) =
    area_length c s.shape s.half limits (until_size b s fault until ∙ sym same.long) ∙ sym long_b in
    let n = s.used - 32 in
    let place : records_start s.shape s.half + n ≡ g = omega arith in
    let at_gate : slice_index (records_area c s.shape s.half) n ≡ 0 =
    part_place c (records_start s.shape s.half) (half_length s.shape - 32) n 0 (omega (arith, high)) ∙ ap (λ (k : ℕ). get_or c k 0) place ∙ patched_there b g 0 within in
    let closed : slice_index (records_area c s.shape s.half) (sizes until.records) ≡ 0 = ap (slice_index (records_area c s.shape s.half)) size ∙ at_gate in
    record {
      front = front_same b c (front_of s) until.front same.long same.superblock same.first same.second;
      header = head;
      records = record {
        records = until.records;
        row = row_same s.shape.data_blocks n (records_area b s.shape s.half) (records_area c s.shape s.half) (nothing_yet s.version) until.records long (omega arith)
            (area_spared b s.shape s.half g 0 n within (omega (arith, high)) (omega (arith, place))) until.row;
        closed = λ e. (let z = closed in cc);
        folded = until.folded;
        size = size;
      };
    }

-- its place is so many times 16
pub gate_sixteen : (b : List ℕ) (s : Standing) (fault : OpenFault) → StandsUntil b s fault → (k : ℕ) × (gate_of s ≡ 16 * k)
gate_sixteen b s fault until =
    let size = until.size in
    let head = until.header in
    let k = sixteens until.records in
    let e = k.1 in
    let start = start_sixteen s.shape s.half in
    let f = start.1 in
    (start.0 + 2 + k.0, (omega arith))
  where
    start_sixteen : (shape : Shape) (half : Half) → (k : ℕ) × (half_start shape half ≡ 16 * k)
    start_sixteen shape A = (256, refl)
    start_sixteen shape B = (256 * (1 + shape.half_blocks), (omega arith))

-- an opening with this fault is refused
pub until_refused : (b : List ℕ) (s : Standing) (fault : OpenFault) → StandsUntil b s fault → IsRefused b fault
until_refused b s fault until =
    inr (front_of s, until.front, record { records = until.records; row = until.row; opened = until.opened; found = until.found })

-- an archive that stands if a gate is shown closed
module _ (b : List ℕ) (s u : Standing) (fault : OpenFault) (g : ℕ) (until : StandsUntil b s fault) (within : g < length b) (stands : Stands (shown (closes g) b) u) where
  abbrev c : List ℕ
  c = overwritten b g (0 ∷ [])

  u_limits : IsWithinLimits u.shape
  u_limits = stands_limits c u stands

  u_high : u.used + 1 ≤ half_length u.shape
  u_high = stands_in_half c u stands

  turned_back : (half : Half) → half_start u.shape half + 32 ≤ g → g < half_start u.shape half + half_length u.shape → HasSameFront u.shape c b
  turned_back half low high =
      let same = front_spared b c u.shape half g 0 u_limits low high within refl in
      record { long = sym same.long; superblock = sym same.superblock; first = sym same.first; second = sym same.second }

  front_there : HasSameFront u.shape c b → front_opening b ≡ Ok (front_of u)
  front_there same = front_same c b (front_of u) stands.front same.long same.superblock same.first same.second

  -- the gate of its own half
  own_half : g ≡ half_start u.shape u.half + u.used → g ≤ gate_of s
  own_half e =
      let head = stands.header in
      let low : half_start u.shape u.half + 32 ≤ g = omega (arith, e) in
      let high : g < half_start u.shape u.half + half_length u.shape = omega (arith, e, u_high) in
      let same = turned_back u.half low high in
      let is : front_of u ≡ front_of s = same_ok (front_opening b) (front_of u) (front_of s) (front_there same) until.front in
      let read = stands.records in
      let n = u.used - 32 in
      let size = read.size in
      let long_c = area_length c u.shape u.half u_limits (stands_size c u stands) in
      let long_b = area_length b u.shape u.half u_limits (stands_size c u stands ∙ sym same.long) in
      let long : length (records_area b u.shape u.half) ≡ length (records_area c u.shape u.half) = long_b ∙ sym long_c in
      let row = row_same u.shape.data_blocks n (records_area c u.shape u.half) (records_area b u.shape u.half) (nothing_yet u.version) read.records long (omega arith)
      (sym (area_spared b u.shape u.half g 0 n within (omega (arith, u_high)) (omega (arith, e)))) read.row in
      let ss = until.records in
      let T : Front → Type 0 = λ t. StandInRow t.shape.data_blocks (records_area b t.shape t.half) (nothing_yet t.version) ss
      × NoRecord t.shape.data_blocks (drop (sizes ss) (records_area b t.shape t.half)) (replayed ss (nothing_yet t.version)) in
      let other = subst T (sym is) (until.row, no_more b s fault until) in
      let most = u_limits.half in
      let reach = row_reaches u.shape.data_blocks (records_area b u.shape u.half) (nothing_yet u.version) read.records ss u_limits.all_data (omega (arith, long_b)) row other.0 other.1 in
      let start : half_start u.shape u.half ≡ half_start s.shape s.half = ap (λ (t : Front). half_start t.shape t.half) is in
      let last = until.size in
      let first = until.header in
      omega (arith, e, reach, start)

  -- not the gate of the other half: closing that one changes no answer, and the opening would not be refused
  other_half_not : g ≡ half_start u.shape (other_half u.half) + u.used → ⊥
  other_half_not e =
      let head = stands.header in
      let same = turned_back (other_half u.half) (omega (arith, e)) (omega (arith, e, u_high)) in
      let some = u_limits.some_half in
      stands_or_refused b u fault
      (stands_same c b u same (sym (part_unpatched b g 0 (half_start u.shape u.half) (u.used + 1) within (apart u.half e))) stands)
      (until_refused b s fault until)
    where
      apart : (half : Half) → g ≡ half_start u.shape (other_half half) + u.used → (half_start u.shape half + (u.used + 1) ≤ g) ⊎ (g + 1 ≤ half_start u.shape half)
      apart A e = inl (omega (arith, e, u_high))
      apart B e = inr (omega (arith, e, u_high))

  pub end_reaches : EndsAt u g → g ≤ gate_of s
  end_reaches ends = of (turn u.half ends)
    where
      turn : (half : Half) → (g ≡ half_start u.shape A + u.used) ⊎ (g ≡ half_start u.shape B + u.used)
          → (g ≡ half_start u.shape half + u.used) ⊎ (g ≡ half_start u.shape (other_half half) + u.used)
      turn A (inl e) = inl e
      turn A (inr e) = inr e
      turn B (inl e) = inr e
      turn B (inr e) = inl e

      of : (g ≡ half_start u.shape u.half + u.used) ⊎ (g ≡ half_start u.shape (other_half u.half) + u.used) → g ≤ gate_of s
      of (inl e) = own_half e
      of (inr e) = absurd (other_half_not e)

-- its fault is that of a record there
pub until_kind : (b : List ℕ) (s : Standing) (fault : OpenFault) → StandsUntil b s fault → IsBehind (gate_of s) fault
until_kind b s fault until =
    let size = until.size in
    let head = until.header in
    let place : records_start s.shape s.half + sizes until.records ≡ gate_of s = omega arith in
    subst (λ (p : ℕ). IsBehind p fault) place
    (record_behind s.shape.data_blocks (records_start s.shape s.half + sizes until.records) (drop (sizes until.records) (records_area b s.shape s.half))
    (replayed until.records (nothing_yet s.version)) fault until.found)
