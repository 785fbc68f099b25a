-- Laws of the front of an archive: its shape, and on which bytes it depends.
use Rattle.std.proofs.Common.{◌≡◌, ℕ, ◌^◌, ◌<◌, Bool, true, false, cond, List, length, refl, sym, ap, ◌∙◌, subst, Result, Ok, Err, nat_lt, nat_le, ◌==◌, ◌||◌, arith}
use Rattle.std.proofs.lemmas.Bool.{and_parts, leb-true, eqb-true}
use Rattle.disk_model.specs.Places.{part}
use Rattle.journal_layout.specs.declared.shape.Shape.{Shape}
use Rattle.journal_layout.specs.declared.shape.Half.{Half}
use Rattle.journal_layout.specs.declared.shape.Half.TheVariants.{A, B}
use Rattle.journal_layout.specs.declared.faults.Field.TheVariants as named
use Rattle.journal_layout.specs.declared.faults.OpenFault.{OpenFault}
use Rattle.journal_layout.specs.declared.faults.OpenFault.TheVariants.{NotAnArchive, Damaged, UnknownVersion}
use Rattle.journal_layout.specs.Layout.{IsWithinLimits, disk_length, half_start}
use Rattle.journal_layout.specs.Front.{Front, Header, header_at, front_opening, halves_opening, headers_opening, is_known, half_opening, header_of_half, taken_half, shape_opening, shape_at, is_archive, is_shape_of}

pub ok_of : {X : Type 0} (t : Bool) (e : OpenFault) (y : Result X OpenFault) (x : X) → cond t (Err e) y ≡ Ok x → y ≡ Ok x
ok_of true e y x h = cc
ok_of false e y x h = h

pub ok_in : {X : Type 0} (t : Bool) (e : OpenFault) (y : Result X OpenFault) (x : X) → cond t y (Err e) ≡ Ok x → (t ≡ true) × (y ≡ Ok x)
ok_in true e y x h = (refl, h)
ok_in false e y x h = cc

shape_told : (size : ℕ) (b : List ℕ) (s : Shape) → shape_opening size b ≡ Ok s → is_shape_of size s ≡ true
shape_told size b s e =
    let fits = ok_in (is_shape_of size (shape_at b)) (Damaged 16 named.Shape) (Ok (shape_at b)) s
    ((ok_in (is_archive b) NotAnArchive (cond (is_shape_of size (shape_at b)) (Ok (shape_at b)) (Err (Damaged 16 named.Shape))) s e).1) in
    let same : shape_at b ≡ s = (let is = fits.1 in cc) in
    ap (is_shape_of size) (sym same) ∙ fits.0

-- the field of a half's header has room for a version that is known
pub known_small : (version : ℕ) → is_known version ≡ true → version < 2 ^ 32
known_small version = of (version == 1) refl
  where
    of : (t : Bool) → (version == 1) ≡ t → (t || version == 2) ≡ true → version < 2 ^ 32
    of true e known = omega (arith, eqb-true version 1 e)
    of false e known = omega (arith, eqb-true version 2 known)

half_shape : (s : Shape) (half : Half) (h : Header) (t : Front) → half_opening s half h ≡ Ok t → t.shape ≡ s
half_shape s half h t e =
    let of = (ok_in (is_known h.version) (UnknownVersion h.version) (Ok (record { shape = s; half = half; version = h.version; generation = h.generation })) t e).1 in
    let same : record { shape = s; half = half; version = h.version; generation = h.generation } ≡ t = cc in
    sym (ap (λ (x : Front). x.shape) same)

pub headers_shape : (s : Shape) (a b : Header) (h : Result Half OpenFault) (t : Front) → headers_opening s a b h ≡ Ok t → t.shape ≡ s
headers_shape s a b (Ok A) t e = half_shape s A a t e
headers_shape s a b (Ok B) t e = half_shape s B b t e
headers_shape s a b (Err d) t e = cc

halves_shape : (b : List ℕ) (size : ℕ) (o : Result Shape OpenFault) (t : Front) → ((s : Shape) → o ≡ Ok s → is_shape_of size s ≡ true) → halves_opening b o ≡ Ok t → is_shape_of size t.shape ≡ true
halves_shape b size (Ok s) t told e =
    ap (is_shape_of size) (headers_shape s (header_of_half s b A) (header_of_half s b B) (taken_half s (header_of_half s b A) (header_of_half s b B)) t e) ∙ told s refl
halves_shape b size (Err d) t told e = cc

shape_parts : (s : Shape) (n : ℕ) → is_shape_of n s ≡ true → IsWithinLimits s × (disk_length s ≡ n)
shape_parts s n e =
    let a = and_parts _ (disk_length s == n) e in
    let b = and_parts _ (nat_le s.data_blocks 16777216) a.0 in
    let c = and_parts _ (nat_le 1 s.data_blocks) b.0 in
    let d = and_parts (nat_le 1 s.half_blocks) (nat_le s.half_blocks 4096) c.0 in (
      record {
        some_half = leb-true 1 s.half_blocks d.0;
        half = leb-true s.half_blocks 4096 d.1;
        some_data = leb-true 1 s.data_blocks c.1;
        all_data = leb-true s.data_blocks 16777216 b.1;
      },
      eqb-true (disk_length s) n a.1,
    )

shape_limits : (s : Shape) (n : ℕ) → is_shape_of n s ≡ true → IsWithinLimits s
shape_limits s n e = (shape_parts s n e).0

-- an archive that is opened has a shape within its limits
pub front_limits : (b : List ℕ) (t : Front) → front_opening b ≡ Ok t → IsWithinLimits t.shape
front_limits b t e =
    shape_limits t.shape (length b)
    (halves_shape b (length b) (shape_opening (length b) (part b 0 24)) t (λ s. shape_told (length b) (part b 0 24) s)
    (ok_of (nat_lt (length b) 4096) NotAnArchive (halves_opening b (shape_opening (length b) (part b 0 24))) t e))

-- an archive that is opened has the length of its shape
size_told : (s : Shape) (n : ℕ) → is_shape_of n s ≡ true → disk_length s ≡ n
size_told s n e = (shape_parts s n e).1

fits : (b : List ℕ) (t : Front) → front_opening b ≡ Ok t → is_shape_of (length b) t.shape ≡ true
fits b t e =
    halves_shape b (length b) (shape_opening (length b) (part b 0 24)) t (λ s. shape_told (length b) (part b 0 24) s)
    (ok_of (nat_lt (length b) 4096) NotAnArchive (halves_opening b (shape_opening (length b) (part b 0 24))) t e)

pub front_size : (b : List ℕ) (t : Front) → front_opening b ≡ Ok t → disk_length t.shape ≡ length b
front_size b t e = size_told t.shape (length b) (fits b t e)

-- headers that are the same open alike
halves_same : (b c : List ℕ) (o : Result Shape OpenFault) (t : Front) → halves_opening b o ≡ Ok t
    → part c (half_start t.shape A) 32 ≡ part b (half_start t.shape A) 32 → part c (half_start t.shape B) 32 ≡ part b (half_start t.shape B) 32
    → halves_opening c o ≡ Ok t
halves_same b c (Ok s) t e first second =
    let same : t.shape ≡ s = headers_shape s (header_of_half s b A) (header_of_half s b B) (taken_half s (header_of_half s b A) (header_of_half s b B)) t e in
    let P : Shape → Half → Type 0 = λ x half. part c (half_start x half) 32 ≡ part b (half_start x half) 32 in
    let front = subst (λ (x : Shape). P x A) same first in
    let back = subst (λ (x : Shape). P x B) same second in
    ap (λ (l : List ℕ). headers_opening s (header_at l) (header_of_half s c B) (taken_half s (header_at l) (header_of_half s c B))) front
    ∙ ap (λ (l : List ℕ). headers_opening s (header_of_half s b A) (header_at l) (taken_half s (header_of_half s b A) (header_at l))) back
    ∙ e
halves_same b c (Err d) t e first second = cc

-- the front depends on the length, the superblock's first bytes and the headers of the halves alone
pub front_same : (b c : List ℕ) (t : Front) → front_opening b ≡ Ok t → length c ≡ length b → part c 0 24 ≡ part b 0 24
    → part c (half_start t.shape A) 32 ≡ part b (half_start t.shape A) 32 → part c (half_start t.shape B) 32 ≡ part b (half_start t.shape B) 32
    → front_opening c ≡ Ok t
front_same b c t e long head first second =
    ap (λ (n : ℕ). cond (nat_lt n 4096) (Err NotAnArchive) (halves_opening c (shape_opening n (part c 0 24)))) long
    ∙ ap (λ (l : List ℕ). cond (nat_lt (length b) 4096) (Err NotAnArchive) (halves_opening c (shape_opening (length b) l))) head
    ∙ longer (nat_lt (length b) 4096) e
  where
    longer : (u : Bool) → cond u (Err NotAnArchive) (halves_opening b (shape_opening (length b) (part b 0 24))) ≡ Ok t
        → cond u (Err NotAnArchive) (halves_opening c (shape_opening (length b) (part b 0 24))) ≡ Ok t
    longer true h = cc
    longer false h = halves_same b c (shape_opening (length b) (part b 0 24)) t h first second
