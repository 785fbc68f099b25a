use Rattle.std.proofs.Common.{◌≡◌, ◌<◌, ◌+◌, ℕ, List, Bool, true, IsTrue, sym, ◌∙◌, ap, subst}
use Rattle.std.specs.Prelude.{◌↔◌, ◌&&◌, nat_lt}
use Rattle.journal_layout.specs.Layout.{half_length, half_start}
use Rattle.journal_layout.specs.declared.shape.Half.{Half}
use Rattle.journal_layout.specs.declared.shape.Shape.{Shape}
use Rattle.salvage.specs.Alone.{ReadsAt}
use Rattle.salvage.specs.Doubting.{IsBound, bound_at, is_behind, taken_half}
use Rattle.salvage.specs.declared.doubts.Trouble.{Trouble}
use Rattle.salvage.proofs.doubts.bound_in.Goals as goal

-- the bound, by the places of the taken half
bound_is : (shape : Shape) (front : List ℕ) (t : Trouble) (start end bound : ℕ) (within alone : Bool)
    → start ≡ half_start shape (taken_half shape t.gate) → end ≡ half_start shape (taken_half shape t.gate) + half_length shape
    → within ≡ nat_lt start t.gate && nat_lt t.gate end → bound ≡ bound_at front start within t alone
    → (start < t.gate → t.gate < end → t.is_refused ≡ true → IsTrue alone ↔ ((size : ℕ) × ReadsAt shape.data_blocks front end t.gate size))
    → IsBound shape front t bound
bound_is shape front t start end bound within alone s e w b reads =
    let half : Half = taken_half shape t.gate in
    let first : ℕ = half_start shape half in (
      alone,
      (λ low high refused.
          subst (λ (n : ℕ). IsTrue alone ↔ ((size : ℕ) × ReadsAt shape.data_blocks front n t.gate size)) e
          (reads (subst (λ (n : ℕ). n < t.gate) (sym s) low) (subst (λ (n : ℕ). t.gate < n) (sym e) high) refused)),
      b ∙ ap (λ (x : Bool). bound_at front start x t alone)
          (w ∙ ap (λ (n : ℕ). nat_lt n t.gate && nat_lt t.gate end) s ∙ ap (λ (n : ℕ). nat_lt first t.gate && nat_lt t.gate n) e)
          ∙ ap (λ (n : ℕ). bound_at front n (is_behind shape half t.gate) t alone) s,
    )

pub returns-clause-bound : goal.returns-clause-bound
returns-clause-bound c =
    let shape = c.args.shape in
    bound_is shape c.args.front.now c.args.trouble c.half_of-taken.result.start c.half_of-taken.result.end c.bound_at.result c.is_behind-is_within.result c.in_ok-alone.alone
    (c.half_of-taken.ensures.start ∙ ap (half_start shape) c.taken_half.ensures) (c.half_of-taken.ensures.end ∙ ap (λ (h : Half). half_start shape h + half_length shape) c.taken_half.ensures)
    c.is_behind-is_within.ensures c.bound_at.ensures c.in_ok-alone.ensures.alone
