-- Laws of the half that is taken: the fields of its header that the front
-- gives, and the conditions under which it or the other one is taken.
use Rattle.std.proofs.Common.{◌≡◌, ◌≢◌, ℕ, ◌+◌, ◌^◌, ◌<◌, Bool, true, false, cond, not, ◌&&◌, ◌||◌, ◌==◌, nat_lt, List, [], ◌∷◌, length, slice_index, refl, sym, ap, ◌∙◌, subst, arith, Result, Ok, Err}
use Rattle.std.proofs.lemmas.Bool.{lt-ltb, le-ltb, ne_eqb}
use Rattle.disk_model.specs.Places.{part}
use Rattle.disk_model.specs.PartLaws.{part_place}
use Rattle.journal_layout.specs.declared.shape.Shape.{Shape}
use Rattle.journal_layout.specs.declared.shape.Half.{Half}
use Rattle.journal_layout.specs.declared.shape.Half.TheVariants.{A, B}
use Rattle.journal_layout.specs.declared.faults.Field.TheVariants as named
use Rattle.journal_layout.specs.declared.faults.OpenFault.{OpenFault}
use Rattle.journal_layout.specs.declared.faults.OpenFault.TheVariants.{NotAnArchive, Damaged, UnknownVersion}
use Rattle.journal_layout.specs.Layout.{half_start, half_header, number_bytes, field}
use Rattle.journal_layout.specs.Front.{Front, Header, header_at, front_opening, halves_opening, headers_opening, is_known, half_opening, header_of_half, taken_half, generation_fault, shape_opening}
use Rattle.journal_layout.specs.ByteLaws.{number_read}
use Rattle.journal_layout.specs.FrontLaws.{ok_of, headers_shape}
use Rattle.journal_layout.specs.Rewriting.{other_half}

-- The choice by its tests alone: whether each half's gate is open, whether each generation is 0, whether they are the
-- same, and whether that of half A is greater.
abbrev chosen : Shape → Bool → Bool → Bool → Bool → Bool → Bool → Result Half OpenFault
chosen s a b zero_a zero_b same greater =
    cond (not a && not b) (Err (Damaged 4096 named.Gate))
    (cond (a && zero_a) (Err (generation_fault s A))
    (cond (b && zero_b) (Err (generation_fault s B))
    (cond (a && b && same) (Err (generation_fault s B))
    (cond (a && (not b || greater)) (Ok A) (Ok B)))))

-- the half that is chosen is open, and its generation is not 0
told_A : (s : Shape) (a b zero_a zero_b same greater : Bool) → chosen s a b zero_a zero_b same greater ≡ Ok A → (a ≡ true) × (zero_a ≡ false)
told_A s true b true zero_b same greater e = cc
told_A s true b false zero_b same greater e = (refl, refl)
told_A s false false zero_a zero_b same greater e = cc
told_A s false true zero_a true same greater e = cc
told_A s false true zero_a false same greater e = cc

told_B : (s : Shape) (a b zero_a zero_b same greater : Bool) → chosen s a b zero_a zero_b same greater ≡ Ok B → (b ≡ true) × (zero_b ≡ false)
told_B s a true zero_a false same greater e = (refl, refl)
told_B s false true zero_a true same greater e = cc
told_B s true true true true same greater e = cc
told_B s true true false true same greater e = cc
told_B s false false zero_a zero_b same greater e = cc
told_B s true false true zero_b same greater e = cc
told_B s true false false zero_b same greater e = cc

-- a half that is open alone is taken
alone_A : (s : Shape) (a b zero_a zero_b same greater : Bool) → a ≡ true → zero_a ≡ false → b ≡ false → chosen s a b zero_a zero_b same greater ≡ Ok A
alone_A s a b zero_a zero_b same greater e f g = rw (e, f, g) refl

alone_B : (s : Shape) (a b zero_a zero_b same greater : Bool) → b ≡ true → zero_b ≡ false → a ≡ false → chosen s a b zero_a zero_b same greater ≡ Ok B
alone_B s a b zero_a zero_b same greater e f g = rw (e, f, g) refl

-- if both are open, the later one is taken
later_A : (s : Shape) (a b zero_a zero_b same greater : Bool) → a ≡ true → b ≡ true → zero_a ≡ false → zero_b ≡ false → same ≡ false → greater ≡ true → chosen s a b zero_a zero_b same greater ≡ Ok A
later_A s a b zero_a zero_b same greater e f g h i j = rw (e, f, g, h, i, j) refl

later_B : (s : Shape) (a b zero_a zero_b same greater : Bool) → a ≡ true → b ≡ true → zero_a ≡ false → zero_b ≡ false → same ≡ false → greater ≡ false → chosen s a b zero_a zero_b same greater ≡ Ok B
later_B s a b zero_a zero_b same greater e f g h i j = rw (e, f, g, h, i, j) refl

-- the header of this half
abbrev header_for : Half → Header → Header → Header
header_for A a b = a
header_for B a b = b

module _ (s : Shape) (a b : Header) where
  -- the conditions that hold of the header of the half that is chosen
  record IsTaken (half : Half) (t : Front) : Type 0 where
    opened : (header_for half a b).is_open ≡ true
    some : ((header_for half a b).generation == 0) ≡ false
    opening : half_opening s half (header_for half a b) ≡ Ok t

  taken_told : (o : Result Half OpenFault) (t : Front) → taken_half s a b ≡ o → headers_opening s a b o ≡ Ok t → (half : Half) × (o ≡ Ok half) × IsTaken half t
  taken_told (Ok A) t is e =
      let h = told_A s a.is_open b.is_open (a.generation == 0) (b.generation == 0) (a.generation == b.generation) (nat_lt b.generation a.generation) is in
      (A, refl, record { opened = h.0; some = h.1; opening = e })
  taken_told (Ok B) t is e =
      let h = told_B s a.is_open b.is_open (a.generation == 0) (b.generation == 0) (a.generation == b.generation) (nat_lt b.generation a.generation) is in
      (B, refl, record { opened = h.0; some = h.1; opening = e })
  taken_told (Err f) t is e = cc

  -- a half whose gate alone is open is taken
  taken_alone : (half : Half) → (header_for half a b).is_open ≡ true → ((header_for half a b).generation == 0) ≡ false → (header_for (other_half half) a b).is_open ≡ false → taken_half s a b ≡ Ok half
  taken_alone A opened some closed = alone_A s a.is_open b.is_open (a.generation == 0) (b.generation == 0) (a.generation == b.generation) (nat_lt b.generation a.generation) opened some closed
  taken_alone B opened some closed = alone_B s a.is_open b.is_open (a.generation == 0) (b.generation == 0) (a.generation == b.generation) (nat_lt b.generation a.generation) opened some closed

  -- if the other half is open with the next generation, it is taken
  taken_later : (half : Half) → (header_for half a b).is_open ≡ true → ((header_for half a b).generation == 0) ≡ false
      → (header_for (other_half half) a b).is_open ≡ true → (header_for (other_half half) a b).generation ≡ (header_for half a b).generation + 1
      → taken_half s a b ≡ Ok (other_half half)
  taken_later A opened some other next =
      later_B s a.is_open b.is_open (a.generation == 0) (b.generation == 0) (a.generation == b.generation) (nat_lt b.generation a.generation)
      opened other some (ne_eqb b.generation 0 (λ e. omega (arith, e))) (ne_eqb a.generation b.generation (λ e. omega (arith, e)))
      (le-ltb b.generation a.generation (omega arith))
  taken_later B opened some other next =
      later_A s a.is_open b.is_open (a.generation == 0) (b.generation == 0) (a.generation == b.generation) (nat_lt b.generation a.generation)
      other opened (ne_eqb a.generation 0 (λ e. omega (arith, e))) some (ne_eqb a.generation b.generation (λ e. omega (arith, e)))
      (lt-ltb b.generation a.generation (omega arith))

  opening_of : (half : Half) → headers_opening s a b (Ok half) ≡ half_opening s half (header_for half a b)
  opening_of A = refl
  opening_of B = refl

-- The front in three steps: the length, the superblock and the headers.
record IsFrontOf (b : List ℕ) (t : Front) : Type 0 where
  long : nat_lt (length b) 4096 ≡ false
  shape : shape_opening (length b) (part b 0 24) ≡ Ok t.shape
  headers : headers_opening t.shape (header_of_half t.shape b A) (header_of_half t.shape b B) (taken_half t.shape (header_of_half t.shape b A) (header_of_half t.shape b B)) ≡ Ok t

halves_told : (b : List ℕ) (o : Result Shape OpenFault) (t : Front) → halves_opening b o ≡ Ok t
    → (o ≡ Ok t.shape) × (headers_opening t.shape (header_of_half t.shape b A) (header_of_half t.shape b B) (taken_half t.shape (header_of_half t.shape b A) (header_of_half t.shape b B)) ≡ Ok t)
halves_told b (Ok s) t e =
    let same : t.shape ≡ s = headers_shape s (header_of_half s b A) (header_of_half s b B) (taken_half s (header_of_half s b A) (header_of_half s b B)) t e in (
      ap (λ (x : Shape). Ok x) (sym same),
      subst (λ (x : Shape). headers_opening x (header_of_half x b A) (header_of_half x b B) (taken_half x (header_of_half x b A) (header_of_half x b B)) ≡ Ok t) (sym same) e,
    )
halves_told b (Err f) t e = cc

front_told : (b : List ℕ) (t : Front) → front_opening b ≡ Ok t → IsFrontOf b t
front_told b t e =
    let halves = ok_of (nat_lt (length b) 4096) NotAnArchive (halves_opening b (shape_opening (length b) (part b 0 24))) t e in
    let h = halves_told b (shape_opening (length b) (part b 0 24)) t halves in
    record { long = longer (nat_lt (length b) 4096) e; shape = h.0; headers = h.1 }
  where
    longer : (u : Bool) → cond u (Err NotAnArchive) (halves_opening b (shape_opening (length b) (part b 0 24))) ≡ Ok t → u ≡ false
    longer true g = cc
    longer false g = refl

front_put : (c : List ℕ) (s : Shape) (u : Front) → nat_lt (length c) 4096 ≡ false → shape_opening (length c) (part c 0 24) ≡ Ok s
    → headers_opening s (header_of_half s c A) (header_of_half s c B) (taken_half s (header_of_half s c A) (header_of_half s c B)) ≡ Ok u → front_opening c ≡ Ok u
front_put c s u long shape headers =
    ap (λ (t : Bool). cond t (Err NotAnArchive) (halves_opening c (shape_opening (length c) (part c 0 24)))) long
    ∙ ap (halves_opening c) shape
    ∙ headers

-- the conditions that the front gives for the half that is taken
pub record HasTaken (b : List ℕ) (t : Front) : Type 0 where
  pub opened : (header_of_half t.shape b t.half).is_open ≡ true
  pub some : ((header_of_half t.shape b t.half).generation == 0) ≡ false
  pub generation : (header_of_half t.shape b t.half).generation ≡ t.generation
  pub opening : half_opening t.shape t.half (header_of_half t.shape b t.half) ≡ Ok t

header_is : (s : Shape) (b : List ℕ) (half : Half) → header_for half (header_of_half s b A) (header_of_half s b B) ≡ header_of_half s b half
header_is s b A = refl
header_is s b B = refl

half_told : (s : Shape) (half : Half) (h : Header) (t : Front) → half_opening s half h ≡ Ok t → (half ≡ t.half) × (h.generation ≡ t.generation)
half_told s half h t e =
    let same : record { shape = s; half = half; version = h.version; generation = h.generation } ≡ t = of (is_known h.version) e in
    (ap (λ (x : Front). x.half) same, ap (λ (x : Front). x.generation) same)
  where
    of : (known : Bool) → cond known (Ok (record { shape = s; half = half; version = h.version; generation = h.generation })) (Err (UnknownVersion h.version)) ≡ Ok t
        → record { shape = s; half = half; version = h.version; generation = h.generation } ≡ t
    of true g = cc
    of false g = cc

pub front_taken : (b : List ℕ) (t : Front) → front_opening b ≡ Ok t → HasTaken b t
front_taken b t e =
    let w = front_told b t e in
    let first = header_of_half t.shape b A in
    let second = header_of_half t.shape b B in
    let h = taken_told t.shape first second (taken_half t.shape first second) t refl w.headers in
    let is : h.0 ≡ t.half = (half_told t.shape h.0 (header_for h.0 first second) t h.2.opening).0 in
    let taken : IsTaken t.shape first second t.half t = subst (λ (x : Half). IsTaken t.shape first second x t) is h.2 in
    let here = header_is t.shape b t.half in
    let opening : half_opening t.shape t.half (header_of_half t.shape b t.half) ≡ Ok t = subst (λ (x : Header). half_opening t.shape t.half x ≡ Ok t) here taken.opening in
    record {
      opened = subst (λ (x : Header). x.is_open ≡ true) here taken.opened;
      some = subst (λ (x : Header). (x.generation == 0) ≡ false) here taken.some;
      generation = (half_told t.shape t.half (header_of_half t.shape b t.half) t opening).1;
      opening = opening;
    }

-- Two lists of bytes that have the length, the superblock's first bytes and the taken half's header in common.
pub record HasSameTaken (t : Front) (b c : List ℕ) : Type 0 where
  pub long : length c ≡ length b
  pub superblock : part c 0 24 ≡ part b 0 24
  pub taken : part c (half_start t.shape t.half) 32 ≡ part b (half_start t.shape t.half) 32

module _ (b c : List ℕ) (t : Front) (e : front_opening b ≡ Ok t) (same : HasSameTaken t b c) where
  put_same : (u : Front) → headers_opening t.shape (header_of_half t.shape c A) (header_of_half t.shape c B) (taken_half t.shape (header_of_half t.shape c A) (header_of_half t.shape c B)) ≡ Ok u → front_opening c ≡ Ok u
  put_same u headers =
      let w = front_told b t e in
      front_put c t.shape u (ap (λ (n : ℕ). nat_lt n 4096) same.long ∙ w.long)
      (ap (λ (n : ℕ). shape_opening n (part c 0 24)) same.long ∙ ap (shape_opening (length b)) same.superblock ∙ w.shape) headers

  same_header : header_for t.half (header_of_half t.shape c A) (header_of_half t.shape c B) ≡ header_of_half t.shape b t.half
  same_header = header_is t.shape c t.half ∙ ap header_at same.taken

  opens_at : (half : Half) (u : Front) → taken_half t.shape (header_of_half t.shape c A) (header_of_half t.shape c B) ≡ Ok half
      → half_opening t.shape half (header_for half (header_of_half t.shape c A) (header_of_half t.shape c B)) ≡ Ok u → front_opening c ≡ Ok u
  opens_at half u taken opening =
      put_same u
      (ap (headers_opening t.shape (header_of_half t.shape c A) (header_of_half t.shape c B)) taken
      ∙ opening_of t.shape (header_of_half t.shape c A) (header_of_half t.shape c B) half
      ∙ opening)

  -- while the other half's gate is not open, the front depends on these alone
  pub front_alone : slice_index c (half_start t.shape (other_half t.half)) ≢ 165 → front_opening c ≡ Ok t
  front_alone closed =
      let was = front_taken b t e in
      let first = header_of_half t.shape c A in
      let second = header_of_half t.shape c B in
      let start = half_start t.shape (other_half t.half) in
      let place : slice_index (part c start 32) 0 ≡ slice_index c start = part_place c start 32 0 0 (omega arith) ∙ ap (slice_index c) (omega arith) in
      let shut : (slice_index (part c start 32) 0 == 165) ≡ false = ne_eqb (slice_index (part c start 32) 0) 165 (λ f. closed (sym place ∙ f)) in
      opens_at t.half t
      (taken_alone t.shape first second t.half
      (ap (λ (x : Header). x.is_open) same_header ∙ was.opened)
      (ap (λ (x : Header). x.generation == 0) same_header ∙ was.some)
      (ap (λ (x : Header). x.is_open) (header_is t.shape c (other_half t.half)) ∙ shut))
      (ap (half_opening t.shape t.half) same_header ∙ was.opening)

  -- with an open gate of the next generation there, the other half is taken
  pub front_switched : (version : ℕ) → is_known version ≡ true
      → header_of_half t.shape c (other_half t.half) ≡ record { is_open = true; version = version; generation = t.generation + 1 }
      → front_opening c ≡ Ok (record t { half = other_half t.half; version = version; generation = t.generation + 1 })
  front_switched version known other =
      let was = front_taken b t e in
      let first = header_of_half t.shape c A in
      let second = header_of_half t.shape c B in
      let there = header_is t.shape c (other_half t.half) ∙ other in
      let front : Front = record t { half = other_half t.half; version = version; generation = t.generation + 1 } in
      opens_at (other_half t.half) front
      (taken_later t.shape first second t.half
      (ap (λ (x : Header). x.is_open) same_header ∙ was.opened)
      (ap (λ (x : Header). x.generation == 0) same_header ∙ was.some)
      (ap (λ (x : Header). x.is_open) there)
      (ap (λ (x : Header). x.generation) there
      ∙ ap (λ (n : ℕ). n + 1) (sym (ap (λ (x : Header). x.generation) same_header ∙ was.generation))))
      (ap (half_opening t.shape (other_half t.half)) there
      ∙ ap (λ (known : Bool). cond known (Ok front) (Err (UnknownVersion version))) known)

-- a spelled header is read back with its version and its generation
pub header_told : (version generation : ℕ) → version < 2 ^ 32 → generation < 2 ^ 64
    → header_at (165 ∷ half_header version generation) ≡ record { is_open = true; version = version; generation = generation }
unfolding half_header number_bytes
header_told version generation low high =
    ap (λ (v : ℕ). fields v (field (165 ∷ half_header version generation) 8 8)) (number_read 4 version [] low)
    ∙ ap (fields version) (number_read 8 generation [] high)
  where
    fields : ℕ → ℕ → Header
    fields v g = record { is_open = true; version = v; generation = g }
