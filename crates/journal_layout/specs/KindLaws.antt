-- Laws of the kinds of records: the byte of a kind selects the checks, and only some bytes are kinds.
use Rattle.std.proofs.Common.{◌≡◌, ℕ, zero, suc, ◌≤◌, ◌==◌, Bool, true, false, cond, List, [], slice_index, refl, ap, arith, Some}
use Rattle.std.proofs.lemmas.Bool.{eqb-true}
use Rattle.journal_layout.specs.declared.faults.Field.TheVariants as named
use Rattle.journal_layout.specs.Layout.{field}
use Rattle.journal_layout.specs.Record.{Record, Store, Drop, Pin, Next, Label, record_kind}
use Rattle.journal_layout.specs.Reading.{kind_at, by_kind, case_at, drop_seqs, label_at, record_at}
use Rattle.journal_layout.specs.Folding.{Folded}
use Rattle.journal_layout.specs.Soundness.{IsSound, last_kind}
use Rattle.journal_layout.specs.Checks.{damaged, first_failing, store_fault, drop_fault, pin_fault, next_checks, label_fault, body_fault}

-- one for each kind of record
abbrev pub by_record : {X : Type 0} → Record → X → X → X → X → X → X
by_record (Store c) store drop pin next label = store
by_record (Drop seqs) store drop pin next label = drop
by_record (Pin seq flag) store drop pin next label = pin
by_record (Next n) store drop pin next label = next
by_record (Label seq text) store drop pin next label = label

-- the choice by a record's byte is that by the record
pub kind_chosen : {X : Type 0} (r : Record) (kind : ℕ) (store drop pin next label none : X) → kind ≡ record_kind r
    → by_kind kind store drop pin next label none ≡ by_record r store drop pin next label
kind_chosen (Store c) kind store drop pin next label none is = ap (λ (k : ℕ). by_kind k store drop pin next label none) is
kind_chosen (Drop seqs) kind store drop pin next label none is = ap (λ (k : ℕ). by_kind k store drop pin next label none) is
kind_chosen (Pin seq flag) kind store drop pin next label none is = ap (λ (k : ℕ). by_kind k store drop pin next label none) is
kind_chosen (Next n) kind store drop pin next label none is = ap (λ (k : ℕ). by_kind k store drop pin next label none) is
kind_chosen (Label seq text) kind store drop pin next label none is = ap (λ (k : ℕ). by_kind k store drop pin next label none) is

-- the checks of a record of this kind, and its meaning
pub body_of : (limit at : ℕ) (rest : List ℕ) (f : Folded) (r : Record) → kind_at rest ≡ record_kind r
    → body_fault limit at rest f
    ≡ by_record r (store_fault limit at rest f) (drop_fault at rest f) (pin_fault at rest f) (first_failing at (next_checks rest f)) (label_fault at rest f)
body_of limit at rest f r kind =
    kind_chosen r (kind_at rest) (store_fault limit at rest f) (drop_fault at rest f) (pin_fault at rest f) (first_failing at (next_checks rest f)) (label_fault at rest f)
    (Some (damaged at named.Kind 1)) kind

-- the record that these bytes give if they are read as the kind of another record
abbrev pub told_as : Record → List ℕ → Record
told_as r rest =
    by_record r (Store (case_at rest)) (Drop (drop_seqs rest)) (Pin (field rest 8 4) (slice_index rest 12 == 1)) (Next (field rest 8 8)) (Label (field rest 8 4) (label_at rest))

pub record_of : (rest : List ℕ) (r : Record) → kind_at rest ≡ record_kind r → record_at rest ≡ told_as r rest
unfolding record_at
record_of rest r kind =
    kind_chosen r (kind_at rest) (Store (case_at rest)) (Drop (drop_seqs rest)) (Pin (field rest 8 4) (slice_index rest 12 == 1)) (Next (field rest 8 8))
    (Label (field rest 8 4) (label_at rest)) (Drop []) kind

-- each of these bytes is that of some record
pub kind_found : (rest : List ℕ) (kind : ℕ) → 1 ≤ kind → kind ≤ 5 → (r : Record) × (kind ≡ record_kind r)
kind_found rest zero low high = absurd (omega arith)
kind_found rest (suc zero) low high = (Store (case_at rest), refl)
kind_found rest (suc (suc zero)) low high = (Drop [], refl)
kind_found rest (suc (suc (suc zero))) low high = (Pin 0 false, refl)
kind_found rest (suc (suc (suc (suc zero)))) low high = (Next 0, refl)
kind_found rest (suc (suc (suc (suc (suc zero))))) low high = (Label 0 [], refl)
kind_found rest (suc (suc (suc (suc (suc (suc k)))))) low high = absurd (omega arith)

-- which kinds a version has

pub last_low : (version : ℕ) → 4 ≤ last_kind version
last_low version = elim (version == 2) as (λ t. 4 ≤ cond t 5 4) [ true ↦ omega arith | false ↦ omega arith ]

pub last_high : (version : ℕ) → last_kind version ≤ 5
last_high version = elim (version == 2) as (λ t. cond t 5 4 ≤ 5) [ true ↦ omega arith | false ↦ omega arith ]

-- labels are of version 2
pub label_version : (version : ℕ) → 5 ≤ last_kind version → version ≡ 2
label_version version = of (version == 2) refl
  where
    of : (t : Bool) → (version == 2) ≡ t → 5 ≤ cond t 5 4 → version ≡ 2
    of true e high = eqb-true version 2 e
    of false e high = absurd (omega arith)

-- a sound record is of a kind that its version has
pub kind_high : (limit : ℕ) (f : Folded) (r : Record) → IsSound limit f r → record_kind r ≤ last_kind f.version
kind_high limit f (Store c) sound = omega (arith, last_low f.version)
kind_high limit f (Drop seqs) sound = omega (arith, last_low f.version)
kind_high limit f (Pin seq flag) sound = omega (arith, last_low f.version)
kind_high limit f (Next n) sound = omega (arith, last_low f.version)
kind_high limit f (Label seq text) sound = omega (arith, ap last_kind sound.0)
