-- Moments are a course: the effect of each step, in numbers.
use Rattle.std.proofs.Common.{◌≡◌, ◌≢◌, ◌⊎◌, ℕ, ◌+◌, ◌<◌, ◌≤◌, List, length, slice_index, refl, ◌∙◌, subst, arith}
use Rattle.journal_layout.specs.declared.shape.Shape.{Shape}
use Rattle.journal_layout.specs.declared.shape.Half.{Half}
use Rattle.journal_layout.specs.Layout.{half_start, half_length, field}
use Rattle.journal_layout.specs.Standing.{Standing}
use Rattle.journal_layout.specs.Stands.{Stands, front_of}
use Rattle.journal_layout.specs.StandLaws.{stands_limits, stands_in_half}
use Rattle.journal_layout.specs.Rewriting.{other_half}
use Rattle.shared_disk.specs.Course.{IsCourse, HasMarks}
use Rattle.shared_disk.specs.CourseLaws.{along}
use Rattle.shared_disk.specs.History.{moment, MayLead, AreMoments, AreMarked}
use Rattle.shared_disk.specs.StepLaws.{step_shape, step_long, step_moves, step_head, step_kept, step_other, step_shut, step_shut_before, step_grows}
use Rattle.shared_disk.specs.StandLaws.{each_moment_stands}
use Rattle.shared_disk.specs.FrontFacts.{gate_open, generation_there, other_older}

module _ (moments : List (List ℕ)) (standing : ℕ → Standing) (are : AreMoments moments standing) where
  abbrev pub n : ℕ
  n = length moments

  abbrev pub shape : Shape
  shape = (standing 0).shape

  pub stands_at : (k : ℕ) → k < n → Stands (moment moments k) (standing k)
  stands_at k within = each_moment_stands moments standing k are within

  abbrev Step : ℕ → Type 0
  Step k = MayLead (moment moments k) (standing k) (moment moments (k + 1)) (standing (k + 1))

  pub shape_at : (k : ℕ) → k < n → (standing k).shape ≡ shape
  shape_at k within =
      along (λ (m : ℕ). (standing m).shape ≡ shape) 0 k (omega arith) refl
      (λ m low high so. step_shape (moment moments m) (moment moments (m + 1)) (standing m) (standing (m + 1)) (stands_at m (omega (arith, high, within))) (are.steps m (omega (arith, high, within))) ∙ so)

  pub long_at : (k : ℕ) → k < n → length (moment moments k) ≡ length (moment moments 0)
  long_at k within =
      along (λ (m : ℕ). length (moment moments m) ≡ length (moment moments 0)) 0 k (omega arith) refl
      (λ m low high so. step_long (moment moments m) (moment moments (m + 1)) (standing m) (standing (m + 1)) (stands_at m (omega (arith, high, within))) (are.steps m (omega (arith, high, within))) ∙ so)

  -- the superblock stays
  pub head_at : (k p : ℕ) → k < n → p < 4096 → slice_index (moment moments k) p ≡ slice_index (moment moments 0) p
  head_at k p within below =
      along (λ (m : ℕ). slice_index (moment moments m) p ≡ slice_index (moment moments 0) p) 0 k (omega arith) refl
      (λ m low high so. step_head (moment moments m) (moment moments (m + 1)) (standing m) (standing (m + 1)) (stands_at m (omega (arith, high, within))) (are.steps m (omega (arith, high, within))) p below ∙ so)

  -- the gate of the taken half is open
  pub opened_at : (k : ℕ) → k < n → slice_index (moment moments k) (half_start shape (standing k).half) ≡ 165
  opened_at k within =
      subst (λ (x : Shape). slice_index (moment moments k) (half_start x (standing k).half) ≡ 165) (shape_at k within)
      (gate_open (moment moments k) (front_of (standing k)) (stands_at k within).front)

  pub course : IsCourse n (half_length shape) (half_start shape) (λ k p. slice_index (moment moments k) p) (λ k. (standing k).half) (λ k. (standing k).generation) (λ k. (standing k).used)
  course = record {
    moves = λ k within. step_moves (moment moments k) (moment moments (k + 1)) (standing k) (standing (k + 1)) (stands_at k (omega (arith, within))) (are.steps k within);
    kept = λ k p within.
        subst (λ (x : Shape). half_start x (standing k).half ≤ p → p < half_start x (standing k).half + (standing k).used → slice_index (moment moments (k + 1)) p ≡ slice_index (moment moments k) p)
        (shape_at k (omega (arith, within)))
        (step_kept (moment moments k) (moment moments (k + 1)) (standing k) (standing (k + 1)) (stands_at k (omega (arith, within))) (are.steps k within) p);
    grows = λ k within. step_grows (moment moments k) (moment moments (k + 1)) (standing k) (standing (k + 1)) (stands_at k (omega (arith, within))) (are.steps k within);
    other = λ k p within.
        let o = other_half (standing k).half in
        subst (λ (x : Shape). slice_index (moment moments k) (half_start x o) ≡ 165 → half_start x o ≤ p → p < half_start x o + half_length x
        → (slice_index (moment moments (k + 1)) (half_start x o) ≢ 165) ⊎ (slice_index (moment moments (k + 1)) p ≡ slice_index (moment moments k) p))
        (shape_at k (omega (arith, within)))
        (step_other (moment moments k) (moment moments (k + 1)) (standing k) (standing (k + 1)) (stands_at k (omega (arith, within))) (are.steps k within) p);
    shut = λ k within.
        let o = other_half (standing k).half in
        subst (λ (x : Shape). slice_index (moment moments k) (half_start x o) ≢ 165 → (standing (k + 1)).generation ≡ (standing k).generation → slice_index (moment moments (k + 1)) (half_start x o) ≢ 165)
        (shape_at k (omega (arith, within)))
        (step_shut (moment moments k) (moment moments (k + 1)) (standing k) (standing (k + 1)) (stands_at k (omega (arith, within))) (are.steps k within));
    shut_before = λ k within.
        let o = other_half (standing k).half in
        subst (λ (x : Shape). (standing (k + 1)).generation ≡ (standing k).generation + 1 → slice_index (moment moments k) (half_start x o) ≢ 165)
        (shape_at k (omega (arith, within)))
        (step_shut_before (moment moments k) (moment moments (k + 1)) (standing k) (standing (k + 1)) (stands_at k (omega (arith, within))) (are.steps k within));
    opened = opened_at;
    header = λ k within. (stands_at k within).header;
    fits = λ k within.
        let room = subst (λ (x : Shape). (standing k).used + 1 ≤ half_length x) (shape_at k within) (stands_in_half (moment moments k) (standing k) (stands_at k within)) in
        omega (arith, room);
    size_some = (let some = (stands_limits (moment moments 0) (standing 0) are.first).some_half in omega (arith, some));
  }

  module _ (mark : Half → ℕ → ℕ) (marked : AreMarked moments shape mark) where
    taken_at : (k : ℕ) → k < n → mark (standing k).half k ≡ (standing k).generation
    taken_at k within =
        marked.whole (standing k).half k within (opened_at k within)
        ∙ subst (λ (x : Shape). field (moment moments k) (half_start x (standing k).half + 8) 8 ≡ (standing k).generation) (shape_at k within)
        (generation_there (moment moments k) (front_of (standing k)) (stands_at k within).front)

    older_at : (k : ℕ) → k < n → slice_index (moment moments k) (half_start shape (other_half (standing k).half)) ≡ 165 → mark (other_half (standing k).half) k < (standing k).generation
    older_at k within open_too =
        let o = other_half (standing k).half in
        let is = marked.whole o k within open_too in
        let less =
        subst (λ (x : Shape). slice_index (moment moments k) (half_start x o) ≡ 165 → field (moment moments k) (half_start x o + 8) 8 < (standing k).generation) (shape_at k within)
        (other_older (moment moments k) (front_of (standing k)) (stands_at k within).front) open_too in
        omega (arith, is, less)

    pub marks : HasMarks n (half_start shape) (λ k p. slice_index (moment moments k) p) (λ k. (standing k).half) (λ k. (standing k).generation) mark
    marks = record { rises = marked.rises; taken = taken_at; older = older_at }
