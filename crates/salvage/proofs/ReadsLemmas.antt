-- The cases that are read, one after another.
use Rattle.std.proofs.Common.{◌≡◌, ◌⊎◌, inl, inr, ℕ, ◌+◌, ◌^◌, ◌<◌, List, [], ◌∷◌, ◌++◌, length, get_or, set, slice_index, refl, sym, ap, ◌∙◌, subst, arith, Bool, false, Option, None, Some, IsTrue, Result, Ok, Err, IfOk, OnOk}
use Rattle.std.specs.Prelude.{◌↔◌, is_some}
use Rattle.std.proofs.lemmas.Bool.{cases_eq, false≢true}
use Rattle.std.proofs.lemmas.List.{get_or-set_same, get_or-set_other, get_or_default, length-set}
use Rattle.std.proofs.lemmas.List.Sorted.{Contains-permutation, IsPermutation-sym}
use Rattle.std.proofs.lemmas.List.Elements.{Contains-push_cases}
use Rattle.disk_model.specs.Places.{part}
use Rattle.std.specs.List.{Contains, slice_range}
use Rattle.std.specs.List.Sorted.{IsPermutation}
use Rattle.journal_layout.specs.Case.{Case, case_of}
use Rattle.journal_layout.specs.Layout.{half_length, half_start}
use Rattle.journal_layout.specs.Reading.{case_at}
use Rattle.journal_layout.specs.declared.entry.Entry.{Entry}
use Rattle.journal_layout.specs.declared.faults.OpenFault.{OpenFault}
use Rattle.journal_layout.specs.declared.shape.Half.TheVariants.{A, B}
use Rattle.journal_layout.specs.declared.shape.Shape.{Shape}
use Rattle.std.specs.declared.alloc.AllocError.{AllocError}
use Rattle.salvage.specs.Alone.{HasHead, IsOther, IsOtherBody, Reads, StoresCase, alone, between}
use Rattle.salvage.specs.Cases.{IsSameCase}
use Rattle.salvage.specs.Reads.{AreAllRead, AreFrom, AreHalvesRead, IsFrom, IsReadAt, IsStored, StayFrom, StayNamed, StayRead}
use Rattle.salvage.specs.declared.records.Dropped.{Dropped}
use Rattle.salvage.specs.declared.records.Read.{Read}
use Rattle.salvage.specs.declared.records.Span.{Span}
use Rattle.salvage.proofs.AloneLemmas.{one_said}
use Rattle.salvage.proofs.HalfLemmas.{all_still}

-- the bytes from one place to another
pub range_is : (bytes : List ℕ) (start end : ℕ) → between bytes start end ≡ slice_range bytes start end
unfolding part
range_is bytes start end = refl

-- none but a Store record reads where this is seen
pub no_other : (rest : List ℕ) (is : Bool) → is ≡ false → ((size : ℕ) → IsOther rest size → IsTrue is) → (size : ℕ) → IsOther rest size → ⊥
no_other rest is none each size other = let yes = each size other in absurd (cc)

pub same_again : (c : Case) → IsSameCase c c
same_again c = record { seq = refl; image = record { origin = refl; len = refl; blocks = refl } }

pub same_then : (c d e : Case) → IsSameCase c d → IsSameCase d e → IsSameCase c e
same_then c d e one two = record {
  seq = one.seq ∙ two.seq;
  image = record {
    origin = one.image.origin ∙ two.image.origin;
    len = one.image.len ∙ two.image.len;
    blocks = one.image.blocks ∙ two.image.blocks;
  };
}

-- a read gives way to one of the same case
pub set_stays : (reads : List Read) (i : ℕ) (r new : Read) → i < length reads → r ≡ get_or reads i r → new.place ≡ r.place → IsSameCase (case_of new.entry) (case_of r.entry)
    → StayRead reads (set reads i new)
set_stays reads i r new within is still same place c among = by_place (cases_eq k i)
  where
    x : Read
    x = among.0

    k : ℕ
    k = among.1.0

    low : k < length reads
    low = among.1.1

    there : get_or reads k x ≡ x
    there = among.1.2

    by_place : (k ≡ i) ⊎ ((k ≡ i) → ⊥) → IsReadAt (set reads i new) place c
    by_place (inl e) =
        let is_x : r ≡ x = is ∙ get_or_default reads i r x within ∙ ap (λ (j : ℕ). get_or reads j x) (sym e) ∙ there in (
          new,
          (i, omega (arith, within, length-set reads i new), get_or-set_same reads i new new within),
          ap (λ (p : Span). p.start) still ∙ ap (λ (y : Read). y.place.start) is_x ∙ among.2,
          same_then (case_of new.entry) (case_of r.entry) c same (subst (λ (y : Read). IsSameCase (case_of y.entry) c) (sym is_x) among.3),
        )
    by_place (inr other) = (
      x,
      (k, omega (arith, low, length-set reads i new), get_or-set_other reads i k new x other ∙ there),
      among.2,
      among.3,
    )

-- a read that says the same of the same place is of the same record
from_same : (blocks : ℕ) (bytes : List ℕ) (r new : Read) → new.place ≡ r.place → IsSameCase (case_of new.entry) (case_of r.entry) → IsFrom blocks bytes r → IsFrom blocks bytes new
from_same blocks bytes r new place same f = record {
  end = f.end;
  size = f.size;
  case = f.case;
  stores = subst (λ (p : Span). StoresCase blocks (between bytes p.start f.end) f.size f.case) (sym place) f.stores;
  place = subst (λ (p : Span). p.end ≡ p.start + f.size) (sym place) f.place;
  same = same_then (case_of new.entry) (case_of r.entry) f.case same f.same;
}

pub set_from : (reads : List Read) (i : ℕ) (r new : Read) → i < length reads → r ≡ get_or reads i r → new.place ≡ r.place → IsSameCase (case_of new.entry) (case_of r.entry)
    → StayFrom reads (set reads i new)
set_from reads i r new within is place same blocks bytes are x (k, low, there) = by_place (cases_eq k i)
  where
    by_place : (k ≡ i) ⊎ ((k ≡ i) → ⊥) → IsFrom blocks bytes x
    by_place (inl e) =
        let x_is : new ≡ x = sym (get_or-set_same reads i new x within) ∙ ap (λ (j : ℕ). get_or (set reads i new) j x) (sym e) ∙ there in
        subst (IsFrom blocks bytes) x_is (from_same blocks bytes r new place same (are r (i, within, sym is)))
    by_place (inr other) = are x (k, omega (arith, low, length-set reads i new), sym (get_or-set_other reads i k new x other) ∙ there)

pub sorted_from : (xs ys : List Read) → IsPermutation xs ys → StayFrom xs ys
sorted_from xs ys same blocks bytes are r has = are r (Contains-permutation ys xs r (IsPermutation-sym xs ys same) has)

pub push_from : (blocks : ℕ) (bytes : List ℕ) (reads : List Read) (r : Read) → IsFrom blocks bytes r → AreFrom blocks bytes reads → AreFrom blocks bytes (reads ++ r ∷ [])
push_from blocks bytes reads r is are x has = by_part (Contains-push_cases reads r x has)
  where
    by_part : Contains reads x ⊎ (r ≡ x) → IsFrom blocks bytes x
    by_part (inl old) = are x old
    by_part (inr e) = subst (IsFrom blocks bytes) e is

-- a sort keeps all
pub sorted_stays : (xs ys : List Read) → IsPermutation xs ys → StayRead xs ys
sorted_stays xs ys same place c among = (among.0, Contains-permutation xs ys among.0 same among.1, among.2, among.3)

-- the records of both halves
pub both_halves : (shape : Shape) (front : List ℕ) (reads : List Read) (drops : List Dropped) (a b : Span) → a.start ≡ half_start shape A → a.end ≡ half_start shape A + half_length shape
    → b.start ≡ half_start shape B → b.end ≡ half_start shape B + half_length shape
    → AreAllRead shape.data_blocks front a.start a.end reads drops → AreAllRead shape.data_blocks front b.start b.end reads drops → AreHalvesRead shape front reads drops
both_halves shape front reads drops a b start end start2 end2 one two A =
    subst (λ (n : ℕ). AreAllRead shape.data_blocks front (half_start shape A) n reads drops) end (subst (λ (n : ℕ). AreAllRead shape.data_blocks front n a.end reads drops) start one)
both_halves shape front reads drops a b start end start2 end2 one two B =
    subst (λ (n : ℕ). AreAllRead shape.data_blocks front (half_start shape B) n reads drops) end2 (subst (λ (n : ℕ). AreAllRead shape.data_blocks front n b.end reads drops) start2 two)

pub halves_still : (shape shape2 : Shape) (front front2 : List ℕ) (old new : List Read) (drops drops2 : List Dropped) → shape ≡ shape2 → front ≡ front2 → StayRead old new → StayNamed drops drops2
    → AreHalvesRead shape front old drops → AreHalvesRead shape2 front2 new drops2
halves_still shape shape2 front front2 old new drops drops2 same same2 stay kept all =
    subst (λ (s : Shape). AreHalvesRead s front2 new drops2) same
    (subst (λ (bytes : List ℕ). AreHalvesRead shape bytes new drops2) same2
    (λ half. all_still shape.data_blocks front (half_start shape half) (half_start shape half + half_length shape) old new drops drops2 stay kept (all half)))

-- a record that says a case says no other
pub one_stored : (blocks : ℕ) (rest : List ℕ) (size : ℕ) (c d : Case) → size < 2 ^ 32 → StoresCase blocks rest size c → StoresCase blocks rest size d → c ≡ d
one_stored blocks rest size c d small one two =
    let said : (e : Case) → StoresCase blocks rest size e → e ∷ [] ≡ case_at (alone rest size) ∷ [] =
    λ (e : Case) (s : StoresCase blocks rest size e).
    one_said blocks rest size s.head s.kind s.limit small (record { version = 2; cases = e ∷ []; next = s.said.0 }) s.said.1 s.said.2 in
    let a = said c one in
    let b = said d two in
    cc

-- no Store record is another
pub other_or_store : (rest : List ℕ) (size : ℕ) → IsOtherBody rest size → slice_index rest 1 ≡ 1 → ⊥
other_or_store rest size (inl drop) kind = absurd (omega (arith, drop.0, kind))
other_or_store rest size (inr (inl pin)) kind = absurd (omega (arith, pin.0, kind))
other_or_store rest size (inr (inr (inl next))) kind = absurd (omega (arith, next.0, kind))
other_or_store rest size (inr (inr (inr label))) kind = absurd (omega (arith, label.kind, kind))

-- what a call that hands on another's failure tells
pub handed_on : {A B : Type 0} (r : Result ℕ OpenFault) (t : Result (Unit {0}) AllocError) → OnOk r (t ≡ Ok tt) → OnOk t A → (A → B) → OnOk r B
handed_on (Err fault) t same has more = tt
handed_on {A} {B} (Ok n) t same has more = more (subst (λ (x : Result (Unit {0}) AllocError). OnOk x A) same has)

pub on_ok : {A : Type 0} (r : Result ℕ OpenFault) → A → OnOk r A
on_ok (Ok n) a = a
on_ok (Err fault) a = tt

pub other_there : (blocks : ℕ) (there rest : List ℕ) → there ≡ rest → (size : ℕ) → IsOther rest size → (k : ℕ) × Reads blocks there k
other_there blocks there rest same size other = (size, inr (subst (λ (bytes : List ℕ). IsOther bytes size) (sym same) other))

-- What is read of the record at the front of these bytes, whose head says so many bytes.
module _ (blocks n : ℕ) (there rest : List ℕ) (same : there ≡ rest) (each : (size : ℕ) → HasHead rest size → n ≡ size) where
  -- what all of its cases are
  abbrev pub AreCases : (Case → Type 0) → Type 0
  AreCases P = (size : ℕ) (c : Case) → StoresCase blocks there size c → P c

  abbrev pub ReadsSo : Result ℕ OpenFault → Type 0
  ReadsSo r = IfOk r (λ size. 0 < size → Reads blocks there size)

  reads_so : (r : Result ℕ OpenFault) → IfOk r (λ k. k ≡ n) → Reads blocks rest n → ReadsSo r
  reads_so (Err fault) is reads = tt
  reads_so (Ok k) is reads = λ some. subst (λ (bytes : List ℕ). Reads blocks bytes k) (sym same) (subst (Reads blocks rest) (sym is) reads)

  pub other_reads : (r : Result ℕ OpenFault) → IfOk r (λ k. k ≡ n) → (size : ℕ) → IsOther rest size → ReadsSo r
  other_reads r is size other = reads_so r is (inr (subst (IsOther rest) (sym (each size other.0)) other))

  pub store_reads : (r : Result ℕ OpenFault) → IfOk r (λ k. k ≡ n) → (c : Case) → StoresCase blocks rest n c → ReadsSo r
  store_reads r is c stores = reads_so r is (inl (c, stores))

  here : (size : ℕ) (c : Case) → StoresCase blocks there size c → StoresCase blocks rest n c
  here size c stores =
      let stored : StoresCase blocks rest size c = subst (λ (bytes : List ℕ). StoresCase blocks bytes size c) same stores in
      subst (λ (k : ℕ). StoresCase blocks rest k c) (sym (each size stored.head)) stored

  pub none_of_other : (P : Case → Type 0) → (size : ℕ) → IsOther rest size → AreCases P
  none_of_other P size other k c stores = absurd (other_or_store rest size other.1 (here k c stores).kind)

  pub none_short : (P : Case → Type 0) → n ≡ 0 → AreCases P
  none_short P short k c stores = let stored = here k c stores in absurd (omega (arith, stored.head.some, short))

  pub none_of_kind : (P : Case → Type 0) → (slice_index rest 1 ≡ 1 → ⊥) → AreCases P
  none_of_kind P kind k c stores = absurd (kind (here k c stores).kind)

  pub none_there : (P : Case → Type 0) → ((c : Case) → StoresCase blocks rest n c → ⊥) → AreCases P
  none_there P none k c stores = absurd (none c (here k c stores))

  pub one_there : (P : Case → Type 0) (d : Case) → n < 2 ^ 32 → StoresCase blocks rest n d → P d → AreCases P
  one_there P d small stored holds k c stores = subst P (one_stored blocks rest n d c small stored (here k c stores)) holds

  -- a record reads there
  abbrev pub ReadsThere : Type 0
  ReadsThere = (size : ℕ) × Reads blocks there size

  pub store_there : (c : Case) → StoresCase blocks rest n c → ReadsThere
  store_there c stores = (n, inl (c, subst (λ (bytes : List ℕ). StoresCase blocks bytes n c) (sym same) stores))

  -- none does, if it is neither another nor a Store record
  pub nothing_there : ((size : ℕ) → IsOther rest size → ⊥) → AreCases (λ c. ⊥) → ReadsThere → ⊥
  nothing_there other cases (size, inl (c, stores)) = cases size c stores
  nothing_there other cases (size, inr is) = other size (subst (λ (bytes : List ℕ). IsOther bytes size) same is)

  -- one does exactly if a case is read of it
  pub stored_there : ((size : ℕ) → IsOther rest size → ⊥) → HasHead rest n → slice_index rest 1 ≡ 1 → (o : Option Entry) → IsStored blocks rest n (Ok o)
      → (is : Bool) → is ≡ is_some o → IsTrue is ↔ ReadsThere
  stored_there other head kind (Some e) stored is same = (λ yes. store_there (case_of e) (stored head kind), λ some. same)
  stored_there other head kind None stored is same =
      (λ yes. absurd (false≢true (sym same ∙ yes)), λ some. absurd (nothing_there other (none_there (λ c. ⊥) stored) some))

-- what holds whatever the value is
pub whatever : {T E : Type 0} {P : Type 0} (r : Result T E) → P → IfOk r (λ x. P)
whatever (Ok x) p = p
whatever (Err e) p = tt
