-- The bytes that a run of disk calls leaves in doubt.
use Rattle.std.proofs.Common.{◌≡◌, ◌≢◌, ◌⊎◌, inl, inr, ⊎_elim, ℕ, ◌+◌, ◌<◌, ◌≤◌, List, slice_index, IsTrue, sym, ap, ◌∙◌, arith}
use Rattle.std.proofs.lemmas.Bool.{cases_lt}
use Rattle.disk_model.specs.PartLaws.{place_before, place_after}
use Rattle.disk_model.specs.Moments.{IsSettled}
use Rattle.disk_model.specs.declared.disk.Disk as disk
use Rattle.journal_layout.specs.declared.shape.Shape.{Shape}
use Rattle.journal_layout.specs.Layout.{data_start}
use Rattle.journal_snapshot.specs.Filling.{Fills}
use Rattle.journal_snapshot.specs.Holding.{SameFront}
use Rattle.journal_snapshot.specs.HoldLaws.{front_place}
use Rattle.journal_snapshot.specs.Doubt.{DiffersAt}

module _ {D : Type 0} (g : disk.Ghosts D) (shape : Shape) where
  -- nothing is in doubt if all that a crash leaves has the front that reads give
  pub front_differs : (d : D) (P : ℕ → Type 0) → ((c : List ℕ) → g.may_leave d c → SameFront shape (g.seen d) c) → DiffersAt g d shape P
  front_differs d P front c p may low = inr (front_place shape (g.seen d) c p (omega (arith, low)) (front c may))

  -- or if a crash leaves the bytes that reads give
  pub settled_differs : (d : D) (P : ℕ → Type 0) → IsSettled g d → DiffersAt g d shape P
  settled_differs d P settled c p may low = inr (ap (λ (l : List ℕ). slice_index l p) (settled c may))

  pub differs_wider : (d : D) (P Q : ℕ → Type 0) → ((p : ℕ) → P p → Q p) → DiffersAt g d shape P → DiffersAt g d shape Q
  differs_wider d P Q wider differs c p may low = ⊎_elim (λ at. inl (wider p at)) (λ same. inr same) (differs c p may low)

  module _ (old new : D) (honest : IsTrue (g.is_honest old)) (clear : DiffersAt g old shape (λ p. ⊥)) where
    -- then writes into a range leave no more in doubt than the range
    pub filled_differs : (at n : ℕ) → Fills g old new at n → DiffersAt g new shape (λ p. (at ≤ p) × (p < at + n))
    filled_differs at n fills c p may low =
        let changed = fills.left honest c may in
        let was : slice_index changed.0 p ≡ slice_index (g.seen old) p = ⊎_elim (λ none. absurd none) (λ same. same) (clear changed.0 p changed.1 low) in
        ⊎_elim
        (λ below. inr (place_before at n changed.0 c changed.2 p 0 below ∙ was ∙ sym (place_before at n (g.seen old) (g.seen new) (fills.others honest) p 0 below)))
        (λ from. ⊎_elim
        (λ inside. inl (from, inside))
        (λ behind. inr (place_after at n changed.0 c changed.2 p 0 behind ∙ was ∙ sym (place_after at n (g.seen old) (g.seen new) (fills.others honest) p 0 behind)))
        (cases_lt p (at + n)))
        (cases_lt p at)

    -- and a write of a gate no more than the gate
    pub gate_differs : (gate : ℕ) → Fills g old new gate 1 → DiffersAt g new shape (λ p. p ≡ gate)
    gate_differs gate fills =
        differs_wider new (λ p. (gate ≤ p) × (p < gate + 1)) (λ p. p ≡ gate) (λ p range. let low = range.0 in let high = range.1 in omega (arith, low, high)) (filled_differs gate 1 fills)

    -- writes that start after a gate change only bytes after it
    pub behind_differs : (gate n end : ℕ) → gate + 1 + n ≤ end → Fills g old new (gate + 1) n → DiffersAt g new shape (λ p. (gate < p) × (p < end))
    behind_differs gate n end within fills =
        differs_wider new (λ p. (gate + 1 ≤ p) × (p < gate + 1 + n)) (λ p. (gate < p) × (p < end))
        (λ p range. let low = range.0 in let high = range.1 in (omega (arith, low), omega (arith, high, within)))
        (filled_differs (gate + 1) n fills)
