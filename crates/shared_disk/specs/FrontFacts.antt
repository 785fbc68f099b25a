-- Facts about both halves if the front opens: the shape is that of the superblock,
-- the taken half is open, and the other one is older if it is open too.
use Rattle.std.proofs.Common.{◌≡◌, ℕ, ◌+◌, ◌<◌, Bool, true, false, cond, not, ◌&&◌, ◌||◌, ◌==◌, nat_lt, List, length, drop, slice_index, refl, sym, ap, ◌∙◌, subst, arith, Result, Ok, Err}
use Rattle.std.proofs.lemmas.Bool.{eqb-true, eqb-false, ltb-true, ltb-false, eq-eqb}
use Rattle.byteorder.specs.Numbers.{little_from-take}
use Rattle.disk_model.specs.Places.{part}
use Rattle.disk_model.specs.PartLaws.{part_place}
use Rattle.journal_layout.specs.declared.shape.Shape.{Shape}
use Rattle.journal_layout.specs.declared.shape.Half.{Half}
use Rattle.journal_layout.specs.declared.shape.Half.TheVariants.{A, B}
use Rattle.journal_layout.specs.declared.faults.Field.TheVariants as named
use Rattle.journal_layout.specs.declared.faults.OpenFault.{OpenFault}
use Rattle.journal_layout.specs.declared.faults.OpenFault.TheVariants.{NotAnArchive, Damaged, UnknownVersion}
use Rattle.journal_layout.specs.Layout.{half_start, field}
use Rattle.journal_layout.specs.ByteLaws.{field-drop}
use Rattle.journal_layout.specs.Front.{Front, Header, front_opening, halves_opening, headers_opening, half_opening, is_known, header_of_half, taken_half, generation_fault, shape_opening}
use Rattle.journal_layout.specs.FrontLaws.{ok_of, ok_in, headers_shape}
use Rattle.journal_layout.specs.TakenLaws.{front_taken}
use Rattle.journal_layout.specs.Rewriting.{other_half}

-- a header's fields are fields of the bytes
field_in : (b : List ℕ) (p : ℕ) → field (part b p 32) 8 8 ≡ field b (p + 8) 8
unfolding part
field_in b p = little_from-take 8 8 32 (drop p b) (omega arith) ∙ field-drop b p 8 8

gate_in : (b : List ℕ) (p : ℕ) → slice_index (part b p 32) 0 ≡ slice_index b p
gate_in b p = part_place b p 32 0 0 (omega arith) ∙ ap (slice_index b) (let e : p + 0 ≡ p = omega arith in e)

-- the shape is that of the superblock
halves_shape : (b : List ℕ) (o : Result Shape OpenFault) (t : Front) → halves_opening b o ≡ Ok t → o ≡ Ok t.shape
halves_shape b (Ok s) t e = ap (λ (x : Shape). Ok x) (sym (headers_shape s (header_of_half s b A) (header_of_half s b B) (taken_half s (header_of_half s b A) (header_of_half s b B)) t e))
halves_shape b (Err f) t e = cc

pub front_shape : (b : List ℕ) (t : Front) → front_opening b ≡ Ok t → shape_opening (length b) (part b 0 24) ≡ Ok t.shape
front_shape b t e = halves_shape b (shape_opening (length b) (part b 0 24)) t (ok_of (nat_lt (length b) 4096) NotAnArchive (halves_opening b (shape_opening (length b) (part b 0 24))) t e)

-- so fronts with the same superblock have the same shape
pub shapes_same : (b c : List ℕ) (t u : Front) → front_opening b ≡ Ok t → front_opening c ≡ Ok u → length c ≡ length b → part c 0 24 ≡ part b 0 24 → u.shape ≡ t.shape
shapes_same b c t u e f long same =
    let both : Ok u.shape ≡ Ok t.shape = sym (front_shape c u f) ∙ ap (λ (n : ℕ). shape_opening n (part c 0 24)) long ∙ ap (shape_opening (length b)) same ∙ front_shape b t e in
    cc

abbrev chosen : Shape → Bool → Bool → Bool → Bool → Bool → Bool → Result Half OpenFault
chosen s a b zero_a zero_b same greater =
    cond (not a && not b) (Err (Damaged 4096 named.Gate))
    (cond (a && zero_a) (Err (generation_fault s A))
    (cond (b && zero_b) (Err (generation_fault s B))
    (cond (a && b && same) (Err (generation_fault s B))
    (cond (a && (not b || greater)) (Ok A) (Ok B)))))

-- if both are open, the later one is taken
later_A : (s : Shape) (a b zero_a zero_b same greater : Bool) → a ≡ true → b ≡ true → chosen s a b zero_a zero_b same greater ≡ Ok A → greater ≡ true
later_A s true true false false false true f g e = refl
later_A s true true false false false false f g e = cc
later_A s true true true zero_b same greater f g e = cc
later_A s true true false true same greater f g e = cc
later_A s true true false false true greater f g e = cc
later_A s false b zero_a zero_b same greater f g e = cc
later_A s true false zero_a zero_b same greater f g e = cc

later_B : (s : Shape) (a b zero_a zero_b same greater : Bool) → a ≡ true → b ≡ true → chosen s a b zero_a zero_b same greater ≡ Ok B → (same ≡ false) × (greater ≡ false)
later_B s true true false false false false f g e = (refl, refl)
later_B s true true false false false true f g e = cc
later_B s true true true zero_b same greater f g e = cc
later_B s true true false true same greater f g e = cc
later_B s true true false false true greater f g e = cc
later_B s false b zero_a zero_b same greater f g e = cc
later_B s true false zero_a zero_b same greater f g e = cc

-- the half that the headers give
half_is : (s : Shape) (half : Half) (h : Header) (t : Front) → half_opening s half h ≡ Ok t → half ≡ t.half
half_is s half h t e =
    let of = (ok_in (is_known h.version) (UnknownVersion h.version) (Ok (record { shape = s; half = half; version = h.version; generation = h.generation })) t e).1 in
    let same : record { shape = s; half = half; version = h.version; generation = h.generation } ≡ t = cc in
    ap (λ (x : Front). x.half) same

taken_is : (s : Shape) (a b : Header) (o : Result Half OpenFault) (t : Front) → headers_opening s a b o ≡ Ok t → o ≡ Ok t.half
taken_is s a b (Ok A) t e = ap (λ (x : Half). Ok x) (half_is s A a t e)
taken_is s a b (Ok B) t e = ap (λ (x : Half). Ok x) (half_is s B b t e)
taken_is s a b (Err f) t e = cc

halves_taken : (b : List ℕ) (o : Result Shape OpenFault) (t : Front) → halves_opening b o ≡ Ok t → taken_half t.shape (header_of_half t.shape b A) (header_of_half t.shape b B) ≡ Ok t.half
halves_taken b (Ok s) t e =
    let same : t.shape ≡ s = headers_shape s (header_of_half s b A) (header_of_half s b B) (taken_half s (header_of_half s b A) (header_of_half s b B)) t e in
    subst (λ (x : Shape). taken_half x (header_of_half x b A) (header_of_half x b B) ≡ Ok t.half) (sym same)
    (taken_is s (header_of_half s b A) (header_of_half s b B) (taken_half s (header_of_half s b A) (header_of_half s b B)) t e)
halves_taken b (Err f) t e = cc

later_taken : (s : Shape) (a b : Header) (half : Half) → taken_half s a b ≡ Ok half → a.is_open ≡ true → b.is_open ≡ true
    → elim half as (λ h. Type 0) [ A ↦ b.generation < a.generation | B ↦ a.generation < b.generation ]
later_taken s a b A e f g =
    ltb-true b.generation a.generation
    (later_A s a.is_open b.is_open (a.generation == 0) (b.generation == 0) (a.generation == b.generation) (nat_lt b.generation a.generation) f g e)
later_taken s a b B e f g =
    let h = later_B s a.is_open b.is_open (a.generation == 0) (b.generation == 0) (a.generation == b.generation) (nat_lt b.generation a.generation) f g e in
    let low = ltb-false b.generation a.generation h.1 in
    let apart = eqb-false a.generation b.generation h.0 in
    omega (arith, low, apart)

-- the taken half's gate is open, and its generation is there
pub gate_open : (b : List ℕ) (t : Front) → front_opening b ≡ Ok t → slice_index b (half_start t.shape t.half) ≡ 165
gate_open b t e =
    let start = half_start t.shape t.half in
    sym (gate_in b start) ∙ eqb-true (slice_index (part b start 32) 0) 165 (front_taken b t e).opened

pub generation_there : (b : List ℕ) (t : Front) → front_opening b ≡ Ok t → field b (half_start t.shape t.half + 8) 8 ≡ t.generation
generation_there b t e = sym (field_in b (half_start t.shape t.half)) ∙ (front_taken b t e).generation

open_told : (b : List ℕ) (p : ℕ) → slice_index b p ≡ 165 → (slice_index (part b p 32) 0 == 165) ≡ true
open_told b p e = eq-eqb (slice_index (part b p 32) 0) 165 (gate_in b p ∙ e)

-- the other one's generation is lower, if it is open too
pub other_older : (b : List ℕ) (t : Front) → front_opening b ≡ Ok t → slice_index b (half_start t.shape (other_half t.half)) ≡ 165
    → field b (half_start t.shape (other_half t.half) + 8) 8 < t.generation
other_older b t e open_too =
    let halves = ok_of (nat_lt (length b) 4096) NotAnArchive (halves_opening b (shape_opening (length b) (part b 0 24))) t e in
    let taken = halves_taken b (shape_opening (length b) (part b 0 24)) t halves in
    of t.half refl taken (open_told b (half_start t.shape t.half) (gate_open b t e)) (open_told b (half_start t.shape (other_half t.half)) open_too)
    (field_in b (half_start t.shape (other_half t.half))) (front_taken b t e).generation
  where
    of : (h : Half) → h ≡ t.half → taken_half t.shape (header_of_half t.shape b A) (header_of_half t.shape b B) ≡ Ok h
        → (header_of_half t.shape b h).is_open ≡ true → (header_of_half t.shape b (other_half h)).is_open ≡ true
        → (header_of_half t.shape b (other_half h)).generation ≡ field b (half_start t.shape (other_half h) + 8) 8
        → (header_of_half t.shape b h).generation ≡ t.generation → field b (half_start t.shape (other_half h) + 8) 8 < t.generation
    of A is taken one two other here =
        let less : (header_of_half t.shape b B).generation < (header_of_half t.shape b A).generation = later_taken t.shape (header_of_half t.shape b A) (header_of_half t.shape b B) A taken one two in
        omega (arith, less, other, here)
    of B is taken one two other here =
        let less : (header_of_half t.shape b A).generation < (header_of_half t.shape b B).generation = later_taken t.shape (header_of_half t.shape b A) (header_of_half t.shape b B) B taken two one in
        omega (arith, less, other, here)
