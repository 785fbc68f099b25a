-- What a try at one place tells, and what the tries until then do.
use Rattle.std.proofs.Common.{◌≡◌, ◌≢◌, ◌⊎◌, ◌↔◌, inl, inr, ℕ, ◌+◌, ◌*◌, ◌/◌, ◌<◌, ◌≤◌, Bool, true, false, IsTrue, List, length, refl, sym, subst, arith, Some, Ok, Err}
use Rattle.std.proofs.lemmas.Bool.{cases_lt}
use Rattle.case_journal.specs.Viewing.{Gives}
use Rattle.journal_layout.specs.Layout.{half_start}
use Rattle.journal_layout.specs.ReadingLaws.{stands_once, stands_or_refused}
use Rattle.journal_layout.specs.Standing.{Standing}
use Rattle.journal_layout.specs.Stands.{Stands}
use Rattle.journal_layout.specs.declared.faults.OpenFault.{OpenFault}
use Rattle.journal_layout.specs.declared.faults.OpenFault.TheVariants.{Disk, OutOfMemory, NotAnArchive, UnknownVersion, Damaged}
use Rattle.journal_layout.specs.declared.shape.Half.{Half}
use Rattle.journal_layout.specs.declared.shape.Half.TheVariants.{A, B}
use Rattle.salvage.specs.Finding.{EndsAt, GatesHave, IsEnd, IsGateFound, IsLastGate, StandsUntil, closes, gate_of, not_found}
use Rattle.salvage.specs.GateLaws.{closed_stands, end_reaches, gate_sixteen}
use Rattle.salvage.specs.Showing.{shown}

stands_there : (b : List ℕ) (g : ℕ) (s : Standing) (fault : OpenFault) → StandsUntil b s fault → gate_of s ≡ g → Stands (shown (closes g) b) s
stands_there b g s fault until e = subst (λ (k : ℕ). Stands (shown (closes k) b) s) e (closed_stands b s fault until)

ends_there : (s : Standing) (g : ℕ) → gate_of s ≡ g → EndsAt s g
ends_there s g e = of s.half e
  where
    of : (half : Half) → half_start s.shape half + s.used ≡ g → EndsAt s g
    of A e = inl (sym e)
    of B e = inr (sym e)

pub gate_decided : (b : List ℕ) (g : ℕ) (r : Bool) (u : Standing) → (IsTrue r ↔ EndsAt u g) → Stands (shown (closes g) b) u → IsGateFound b g (Ok r)
gate_decided b g true u ends stands = (u, stands, ends.0 refl)
gate_decided b g false u ends stands = λ s fault until e.
    let is : s ≡ u = stands_once (shown (closes g) b) s u (stands_there b g s fault until e) stands in
    let no : IsTrue false = ends.1 (subst (λ (x : Standing). EndsAt x g) is (ends_there s g e)) in
    cc

refused_not : (b : List ℕ) (g : ℕ) (fault : OpenFault) → ((s : Standing) → Stands (shown (closes g) b) s → ⊥) → GatesHave b (λ place. place ≢ g)
refused_not b g fault none = λ s why until e. none s (stands_there b g s why until e)

pub gate_refused : (b : List ℕ) (g : ℕ) (fault : OpenFault) → Gives (Err fault) (shown (closes g) b) → IsGateFound b g (not_found fault)
gate_refused b g Disk gives = inl refl
gate_refused b g OutOfMemory gives = inr refl
gate_refused b g NotAnArchive gives = refused_not b g NotAnArchive (λ s stands. stands_or_refused (shown (closes g) b) s NotAnArchive stands gives)
gate_refused b g (UnknownVersion v) gives = refused_not b g (UnknownVersion v) (λ s stands. stands_or_refused (shown (closes g) b) s (UnknownVersion v) stands gives)
gate_refused b g (Damaged at which) gives = refused_not b g (Damaged at which) (λ s stands. stands_or_refused (shown (closes g) b) s (Damaged at which) stands gives)

-- before the first try
pub none_tried : (b : List ℕ) (at : ℕ) → GatesHave b (λ place. place ≤ at → place < 16 * (at / 16 + 1))
none_tried b at = λ s fault until low. omega arith

-- after one more
pub one_tried : (b : List ℕ) (at left now : ℕ) → left ≡ now + 1 → GatesHave b (λ place. place ≤ at → place < 16 * left) → GatesHave b (λ place. place ≢ 16 * now)
    → GatesHave b (λ place. place ≤ at → place < 16 * now)
one_tried b at left now e so_far not_here = λ s fault until low.
    let k = gate_sixteen b s fault until in
    let is = k.1 in
    let high = so_far s fault until low in
    let other = not_here s fault until in
    below (gate_of s) k.0 is high other
  where
    below : (place k : ℕ) → place ≡ 16 * k → place < 16 * left → place ≢ 16 * now → place < 16 * now
    below place k is high other = by_cases (cases_lt place (16 * now))
      where
        by_cases : (place < 16 * now) ⊎ (16 * now ≤ place) → place < 16 * now
        by_cases (inl low) = low
        by_cases (inr past) = absurd (other (omega (arith, is, high, past, e)))

-- a place that is found is not behind the gate of the first faulty record, nor before it
pub found_last : (b : List ℕ) (at g : ℕ) → g < length b → IsEnd b g → GatesHave b (λ place. place ≤ at → place ≤ g) → GatesHave b (λ place. place ≤ at → place ≡ g)
found_last b at g within end last = λ s fault until low.
    omega (arith, last s fault until low, end_reaches b s end.0 fault g until within end.1 end.2)

-- what a try that finds a place tells, after the tries behind it
pub found_here : (b : List ℕ) (at left now : ℕ) (r : Bool) → IsTrue r → left ≡ now + 1 → IsGateFound b (16 * now) (Ok r)
    → GatesHave b (λ place. place ≤ at → place < 16 * left) → IsLastGate b at (Ok (Some (16 * now)))
found_here b at left now false taken e here so_far = absurd (cc)
found_here b at left now true taken e here so_far = (
  here,
  λ s fault until low. (
      let k = gate_sixteen b s fault until in
      let is = k.1 in
      omega (arith, so_far s fault until low)),
)

pub not_here : (b : List ℕ) (at left now : ℕ) (r : Bool) → r ≡ false → left ≡ now + 1 → IsGateFound b (16 * now) (Ok r)
    → GatesHave b (λ place. place ≤ at → place < 16 * left) → GatesHave b (λ place. place ≤ at → place < 16 * now)
not_here b at left now false passed e here so_far = one_tried b at left now e so_far here
not_here b at left now true passed e here so_far = absurd (cc)

-- where none is left to be tried
pub none_left : {place at : ℕ} (left : ℕ) → left ≡ 0 → (place ≤ at → place < 16 * left) → at < place
none_left {place} {at} left e low = by_cases (cases_lt at place)
  where
    by_cases : (at < place) ⊎ (place ≤ at) → at < place
    by_cases (inl high) = high
    by_cases (inr below) = omega (arith, low below, e)
