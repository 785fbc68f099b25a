-- What the superblock of an archive says that stands.
use Rattle.std.proofs.Common.{◌≡◌, ℕ, ◌+◌, ◌*◌, ◌≤◌, Bool, true, false, ◌&&◌, nat_eq, nat_lt, List, length, take, drop, get_or, min, refl, ap, ◌∙◌, sym, length-drop, Result, Ok, Err, arith, if◌then◌else◌}
use Rattle.std.specs.List.{starts_with}
use Rattle.std.proofs.lemmas.Bool.{and_parts, false≢true, ltb-false}
use Rattle.std.proofs.lemmas.List.{take_all}
use Rattle.disk_model.specs.Places.{part}
use Rattle.journal_layout.specs.Front.{Front, front_opening, halves_opening, header_of_half, headers_opening, is_archive, is_shape_of, shape_at, shape_opening, taken_half}
use Rattle.journal_layout.specs.FrontLaws.{front_limits, headers_shape}
use Rattle.journal_layout.specs.Layout.{IsWithinLimits, data_start, field, magic}
use Rattle.journal_layout.specs.Standing.{Standing}
use Rattle.journal_layout.specs.Stands.{Stands, front_of}
use Rattle.journal_layout.specs.declared.faults.OpenFault.{OpenFault}
use Rattle.journal_layout.specs.declared.faults.OpenFault.TheVariants.{NotAnArchive, Damaged}
use Rattle.journal_layout.specs.declared.faults.Field.TheVariants as named
use Rattle.journal_layout.specs.declared.shape.Half.TheVariants.{A, B}
use Rattle.journal_layout.specs.declared.shape.Shape.{Shape}

-- what an opening has seen of the first 24 bytes
pub record IsSaid (b : List ℕ) (s : Standing) : Type 0 where
  pub long : 4096 ≤ length b
  pub magic : starts_with nat_eq (drop 8 (part b 0 24)) magic ≡ true
  pub shape : s.shape ≡ shape_at (part b 0 24)
  pub limits : IsWithinLimits s.shape

by_length : (short : Bool) (r : Result Front OpenFault) (t : Front) → (if short then Err NotAnArchive else r) ≡ Ok t → (short ≡ false) × (r ≡ Ok t)
by_length true r t e = absurd (cc)
by_length false r t e = (refl, e)

by_shape : (b : List ℕ) (there fits : Bool) (s : Shape) (t : Front)
    → halves_opening b (if there then (if fits then Ok s else Err (Damaged 16 named.Shape)) else Err NotAnArchive) ≡ Ok t → (there ≡ true) × (t.shape ≡ s)
by_shape b false fits s t e = absurd (cc)
by_shape b true false s t e = absurd (cc)
by_shape b true true s t e =
    (refl, headers_shape s (header_of_half s b A) (header_of_half s b B) (taken_half s (header_of_half s b A) (header_of_half s b B)) t e)

pub said_by : (b : List ℕ) (s : Standing) → Stands b s → IsSaid b s
said_by b s stands =
    let head = part b 0 24 in
    let opened = by_length (nat_lt (length b) 4096) (halves_opening b (shape_opening (length b) head)) (front_of s) stands.front in
    let there = by_shape b (is_archive head) (is_shape_of (length b) (shape_at head)) (shape_at head) (front_of s) opened.1 in
    record {
      long = ltb-false (length b) 4096 opened.0;
      magic = (and_parts _ (starts_with nat_eq (drop 8 head) magic) there.0).1;
      shape = there.1;
      limits = front_limits b (front_of s) stands.front;
    }

-- without the name of the layout there none stands
pub unnamed : (b x : List ℕ) (s : Standing) (found : Bool) → Stands b s → x ≡ part b 0 24 → length x ≡ 24
    → found ≡ starts_with nat_eq (take 16 (drop 8 x)) magic → found ≡ false → ⊥
unnamed b x s found stands is long named none =
    let all : take 16 (drop 8 x) ≡ drop 8 x = take_all 16 (drop 8 x) (omega (arith, long, length-drop 8 x)) in
    let there : found ≡ true = named ∙ ap (λ (l : List ℕ). starts_with nat_eq l magic) (all ∙ ap (drop 8) is) ∙ (said_by b s stands).magic in
    false≢true (sym none ∙ there)

-- the shape of these numbers of blocks
abbrev pub shape_of : ℕ → ℕ → Shape
shape_of h d = record { half_blocks = h; data_blocks = d }

-- the shape that the superblock has
pub shape_is : (b x : List ℕ) (s : Standing) (h d : ℕ) → Stands b s → x ≡ part b 0 24
    → h ≡ get_or x 16 0 + get_or x 17 0 * 256 + get_or x 18 0 * 65536 + get_or x 19 0 * 16777216
    → d ≡ get_or x 20 0 + get_or x 21 0 * 256 + get_or x 22 0 * 65536 + get_or x 23 0 * 16777216
    → shape_of h d ≡ s.shape
shape_is b x s h d stands is says told =
    let half_is : h ≡ field x 16 4 = omega (arith, says) in
    let data_is : d ≡ field x 20 4 = omega (arith, told) in
    let built : shape_of h d ≡ shape_at x = ap (λ (n : ℕ). shape_of n d) half_is ∙ ap (λ (n : ℕ). shape_of (field x 16 4) n) data_is in
    built ∙ ap shape_at is ∙ sym (said_by b s stands).shape
