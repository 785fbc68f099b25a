-- The archive that a disk encodes while the other half of its journal is written.
use Rattle.std.proofs.Common.{◌≡◌, ◌≢◌, ◌⊎◌, inl, inr, ⊎_elim, ℕ, ◌+◌, ◌≤◌, List, [], ◌∷◌, length, get_or, slice_index, IsTrue, Result, Ok, Err, OnOk, refl, sym, ap, ◌∙◌, subst, arith}
use Rattle.std.proofs.lemmas.Bool.{cases_eq}
use Rattle.disk_model.specs.Disk.{ChangedIn}
use Rattle.disk_model.specs.Places.{part, overwritten, SameOutside}
use Rattle.disk_model.specs.PlaceLaws.{overwritten_outside}
use Rattle.disk_model.specs.PartLaws.{part_length, part_place, part_overwritten, place_before, widened, same_all}
use Rattle.disk_model.specs.Moments.{LeavesOnly, IsSettled}
use Rattle.disk_model.specs.MomentLaws.{weakened}
use Rattle.disk_model.specs.declared.disk.Disk as disk
use Rattle.journal_layout.specs.declared.shape.Half.{Half}
use Rattle.journal_layout.specs.declared.shape.Shape.{Shape}
use Rattle.journal_layout.specs.declared.shape.Half.TheVariants.{A, B}
use Rattle.journal_layout.specs.Layout.{half_start, half_length, data_start, IsWithinLimits}
use Rattle.journal_layout.specs.Folding.{Folded}
use Rattle.journal_layout.specs.Standing.{Standing}
use Rattle.journal_layout.specs.Stands.{Stands}
use Rattle.journal_layout.specs.StandLaws.{stands_limits}
use Rattle.journal_layout.specs.Rewriting.{other_half, other_start, rewritten, MayRewrite, HoldsSnapshot}
use Rattle.journal_layout.specs.OtherHalfLaws.{the_other_half_is_apart, an_opened_half_stands}
use Rattle.journal_snapshot.specs.Filling.{Fills}
use Rattle.journal_snapshot.specs.Holding.{SameFront, Holds, StandsInOtherHalf, IsReady}

-- a half has its gate
some_half : (b : List ℕ) (s : Standing) → Stands b s → 1 ≤ half_length s.shape
some_half b s stands =
    let some = (stands_limits b s stands).some_half in
    omega arith

-- a half begins before the data blocks
start_low : (shape : Shape) (half : Half) → IsWithinLimits shape → half_start shape half + 1 ≤ data_start shape
start_low shape A limits = let some = limits.some_half in omega (arith, some)
start_low shape B limits = let some = limits.some_half in omega (arith, some)

-- a place before the data blocks reads the same
pub front_place : (shape : Shape) (b c : List ℕ) (p : ℕ) → p + 1 ≤ data_start shape → SameFront shape b c → slice_index c p ≡ slice_index b p
front_place shape b c p low same =
    let e : 0 + p ≡ p = omega arith in
    ap (slice_index c) (sym e) ∙ sym (part_place c 0 (data_start shape) p 0 (omega (arith, low)))
    ∙ ap (λ (l : List ℕ). get_or l p 0) same
    ∙ part_place b 0 (data_start shape) p 0 (omega (arith, low)) ∙ ap (slice_index b) e

-- the gate of the other half is the same too
pub same_gate : (s : Standing) (b c : List ℕ) → IsWithinLimits s.shape → SameFront s.shape b c → slice_index c (other_start s) ≡ slice_index b (other_start s)
same_gate s b c limits same = front_place s.shape b c (other_start s) (start_low s.shape (other_half s.half) limits) same

-- a change after the gate of the other half, which is not open, keeps the archive that is encoded
module _ (s : Standing) (at n : ℕ) (low : other_start s + 1 ≤ at) (high : at + n ≤ other_start s + half_length s.shape) where
  pub gate_apart : (d c : List ℕ) → SameOutside at n d c → slice_index d (other_start s) ≢ 165 → slice_index c (other_start s) ≢ 165
  gate_apart d c same closed opened = closed (sym (place_before at n d c same (other_start s) 0 (omega arith)) ∙ opened)

  pub change_apart : (d c : List ℕ) → SameOutside at n d c → Stands d s → slice_index d (other_start s) ≢ 165 → Stands c s
  change_apart d c same stands closed =
      the_other_half_is_apart d c s stands (widened at n d c same (other_start s) (half_length s.shape) (omega arith) high) (gate_apart d c same closed)

  module _ {D : Type 0} (g : disk.Ghosts D) (old new : D) (honest : IsTrue (g.is_honest old)) (snapshot_end : StandsInOtherHalf g old s) (fills : Fills g old new at n) where
    -- at each moment of a run that writes there
    pub filling_stands : LeavesOnly g old new (λ c. Stands c s)
    filling_stands =
        weakened g old new (ChangedIn at n (g.may_leave old)) (λ c. Stands c s)
        (λ c changed. change_apart changed.0 c changed.2 (snapshot_end.stands changed.0 changed.1) (snapshot_end.closed changed.0 changed.1)) (fills.moments honest)

    -- and after it
    pub filled_in_other_half : StandsInOtherHalf g new s
    filled_in_other_half = record {
      stands = λ c may. let changed = fills.left honest c may in change_apart changed.0 c changed.2 (snapshot_end.stands changed.0 changed.1) (snapshot_end.closed changed.0 changed.1);
      closed = λ c may. let changed = fills.left honest c may in gate_apart changed.0 c changed.2 (snapshot_end.closed changed.0 changed.1);
    }

one_of : (l : List ℕ) → length l ≡ 1 → l ≡ get_or l 0 0 ∷ []
one_of [] e = absurd (omega arith)
one_of (x ∷ []) e = refl
one_of (x ∷ y ∷ l) e = absurd (omega arith)

-- a part of one byte
pub one_place : (b : List ℕ) (k : ℕ) → k + 1 ≤ length b → part b k 1 ≡ slice_index b k ∷ []
one_place b k below =
    one_of (part b k 1) (part_length b k 1 below)
    ∙ ap (λ (x : ℕ). x ∷ []) (part_place b k 1 0 0 (omega arith) ∙ ap (slice_index b) (let e : k + 0 ≡ k = omega arith in e))

-- while the gate of the other half is closed: it reads open still, and nothing is changed, or it doesn't
pub closing_stands : (s : Standing) (d c : List ℕ) → other_start s + 1 ≤ length d → Stands d s → slice_index d (other_start s) ≡ 165 → SameOutside (other_start s) 1 d c → Stands c s
closing_stands s d c within stands opened same =
    let some = some_half d s stands in
    let long = same.same_length in
    ⊎_elim
    (λ still. subst (λ (x : List ℕ). Stands x s)
    (sym (same_all (other_start s) 1 d c same
    (one_place c (other_start s) (omega arith) ∙ ap (λ (x : ℕ). x ∷ []) (still ∙ sym opened) ∙ sym (one_place d (other_start s) within)))) stands)
    (λ closed. the_other_half_is_apart d c s stands (widened (other_start s) 1 d c same (other_start s) (half_length s.shape) (omega arith) (omega arith)) closed)
    (cases_eq (slice_index c (other_start s)) 165)

-- once it is closed
pub closed_stands : (s : Standing) (d c : List ℕ) → Stands d s → SameOutside (other_start s) 1 d c → slice_index c (other_start s) ≢ 165 → Stands c s
closed_stands s d c stands same closed =
    let some = some_half d s stands in
    the_other_half_is_apart d c s stands (widened (other_start s) 1 d c same (other_start s) (half_length s.shape) (omega arith) (omega arith)) closed

-- while it is opened over a half that is ready
pub taking_stands : (s : Standing) (f : Folded) (d c : List ℕ) → Stands d s → MayRewrite s f → HoldsSnapshot s f d → SameOutside (other_start s) 1 d c → Stands c s ⊎ Stands c (rewritten s f)
taking_stands s f d c stands may snapshot same =
    ⊎_elim
    (λ opened. inr (an_opened_half_stands d c s f stands may snapshot same opened))
    (λ closed. inl (closed_stands s d c stands same closed))
    (cases_eq (slice_index c (other_start s)) 165)

-- a consequence of the property that an Ok promises
pub on_ok : {T E : Type 0} → (r : Result T E) (P Q : Type 0) → (P → Q) → OnOk r P → OnOk r Q
on_ok (Ok x) P Q implies p = implies p
on_ok (Err e) P Q implies p = p

-- a byte that is written is there
pub written_place : (b : List ℕ) (at x : ℕ) → at + 1 ≤ length b → slice_index (overwritten b at (x ∷ [])) at ≡ x
written_place b at x within =
    let e : at + 0 ≡ at = omega arith in
    let now = overwritten b at (x ∷ []) in
    ap (slice_index now) (sym e) ∙ sym (part_place now at 1 0 0 (omega arith)) ∙ ap (λ (l : List ℕ). get_or l 0 0) (part_overwritten b at (x ∷ []) within)

-- once it is opened
pub taken_stands : {D : Type 0} (g : disk.Ghosts D) (s : Standing) (f : Folded) (old new : D) (start : ℕ) → start ≡ other_start s → IsReady g old s f → IsSettled g new
    → g.seen new ≡ overwritten (g.seen old) start (165 ∷ []) → start + 1 ≤ length (g.seen old) → Holds g new (rewritten s f)
taken_stands g s f old new start place ready settled is within =
    let now = overwritten (g.seen old) (other_start s) (165 ∷ []) in
    let there : other_start s + 1 ≤ length (g.seen old) = omega arith in
    let stands : Stands now (rewritten s f) =
    an_opened_half_stands (g.seen old) now s f ready.stands ready.may ready.snapshot (overwritten_outside (g.seen old) (other_start s) (165 ∷ []) there)
    (written_place (g.seen old) (other_start s) 165 there) in
    let same : g.seen new ≡ now = is ∙ ap (λ (p : ℕ). overwritten (g.seen old) p (165 ∷ [])) place in
    record {
      stands = λ c may. subst (λ (x : List ℕ). Stands x (rewritten s f)) (sym (settled c may ∙ same)) stands;
      front = λ c may. ap (λ (l : List ℕ). part l 0 (data_start s.shape)) (settled c may);
    }

-- the other half's gate reads closed: nothing that a crash leaves has it open
pub reads_closed : {D : Type 0} (g : disk.Ghosts D) (s : Standing) (old new : D) → Holds g old s → ((c : List ℕ) → g.may_leave new c → g.may_leave old c)
    → slice_index (g.seen old) (other_start s) ≢ 165 → StandsInOtherHalf g new s
reads_closed g s old new holds crash closed = record {
  stands = λ c may. holds.stands c (crash c may);
  closed = λ c may. λ opened.
      closed (sym (same_gate s (g.seen old) c (stands_limits c s (holds.stands c (crash c may))) (holds.front c (crash c may))) ∙ opened);
}

zero_is_closed : ◌≡◌ {A = ℕ} 0 165 → ⊥
zero_is_closed e = omega (arith, e)

-- once it is closed
pub closed_in_other_half : {D : Type 0} (g : disk.Ghosts D) (s : Standing) (new : D) (b : List ℕ) → Stands b s → other_start s + 1 ≤ length b → IsSettled g new
    → g.seen new ≡ overwritten b (other_start s) (0 ∷ []) → StandsInOtherHalf g new s
closed_in_other_half g s new b stands within settled is =
    let now = overwritten b (other_start s) (0 ∷ []) in
    let gate : slice_index now (other_start s) ≡ 0 = written_place b (other_start s) 0 within in
    let shut : slice_index now (other_start s) ≢ 165 = λ e. zero_is_closed (sym gate ∙ e) in
    let after : Stands now s = closed_stands s b now stands (overwritten_outside b (other_start s) (0 ∷ []) within) shut in
    record {
      stands = λ c may. subst (λ (x : List ℕ). Stands x s) (sym (settled c may ∙ is)) after;
      closed = λ c may. subst (λ (x : List ℕ). slice_index x (other_start s) ≢ 165) (sym (settled c may ∙ is)) shut;
    }

-- then a crash leaves the bytes that reads give
pub closed_holds : {D : Type 0} (g : disk.Ghosts D) (s : Standing) (new : D) (b : List ℕ) → Stands b s → other_start s + 1 ≤ length b → IsSettled g new
    → g.seen new ≡ overwritten b (other_start s) (0 ∷ []) → Holds g new s
closed_holds g s new b stands within settled is = record {
  stands = (closed_in_other_half g s new b stands within settled is).stands;
  front = λ c may. ap (λ (l : List ℕ). part l 0 (data_start s.shape)) (settled c may);
}

-- a byte that is read is the one that is there
pub read_place : (b : List ℕ) (at : ℕ) (bytes : List ℕ) → bytes ≡ part b at 1 → slice_index bytes 0 ≡ slice_index b at
read_place b at bytes is =
    let e : at + 0 ≡ at = omega arith in
    ap (λ (l : List ℕ). get_or l 0 0) is ∙ part_place b at 1 0 0 (omega arith) ∙ ap (slice_index b) e

-- at each moment of the write that closes it
pub closing_moments : {D : Type 0} (g : disk.Ghosts D) (s : Standing) (old new : D) (start : ℕ) → start ≡ other_start s → IsTrue (g.is_honest old) → Holds g old s
    → ((c : List ℕ) → g.may_leave old c → length c ≡ g.size old) → start + 1 ≤ g.size old → slice_index (g.seen old) start ≡ 165 → Fills g old new start 1
    → LeavesOnly g old new (λ c. Stands c s)
closing_moments g s old new start place honest holds sized within opened fills =
    weakened g old new (ChangedIn start 1 (g.may_leave old)) (λ c. Stands c s)
    (λ c changed.
    closing_stands s changed.0 c (omega (arith, sized changed.0 changed.1)) (holds.stands changed.0 changed.1)
    (same_gate s (g.seen old) changed.0 (stands_limits changed.0 s (holds.stands changed.0 changed.1)) (holds.front changed.0 changed.1) ∙ ap (slice_index (g.seen old)) (sym place) ∙ opened)
    (subst (λ (p : ℕ). SameOutside p 1 changed.0 c) place changed.2))
    (fills.moments honest)

-- a call that changes nothing keeps the invariant
pub holds_on : {D : Type 0} (g : disk.Ghosts D) (s : Standing) (old new : D) → g.seen new ≡ g.seen old → ((c : List ℕ) → g.may_leave new c → g.may_leave old c) → Holds g old s → Holds g new s
holds_on g s old new seen crash holds = record {
  stands = λ c may. holds.stands c (crash c may);
  front = λ c may. subst (λ (b : List ℕ). SameFront s.shape b c) (sym seen) (holds.front c (crash c may));
}
