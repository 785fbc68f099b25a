-- What is read of the halves of a journal, and what is found of them.
use Rattle.std.proofs.Common.{◌≡◌, ℕ, ◌≤◌, List, Option, IsTrue, ap, ◌∙◌, subst}
use Rattle.disk_model.specs.MomentLaws.{now_too}
use Rattle.disk_model.specs.Moments.{LeavesOnly}
use Rattle.disk_model.specs.declared.disk.Disk as disk
use Rattle.case_journal.specs.Viewing.{OnlyReads}
use Rattle.journal_layout.specs.Folding.{nothing_yet}
use Rattle.journal_layout.specs.Layout.{IsWithinLimits}
use Rattle.journal_layout.specs.ReadingLaws.{read_or_faulty}
use Rattle.journal_layout.specs.Standing.{Standing}
use Rattle.journal_layout.specs.Stands.{AreFaulty, records_area}
use Rattle.journal_layout.specs.declared.faults.OpenFault.{OpenFault}
use Rattle.journal_layout.specs.declared.shape.Half.{Half}
use Rattle.journal_layout.specs.declared.shape.Half.TheVariants.{A, B}
use Rattle.journal_layout.specs.declared.shape.Shape.{Shape}
use Rattle.archive_checks.specs.GapLaws.{area_short}
use Rattle.archive_checks.specs.Gaps.{IsGapOf, IsSaid, SaysNext, gap_between}
use Rattle.archive_checks.specs.declared.gaps.Gap.{Gap}
use Rattle.archive_checks.specs.declared.gaps.HalfSaid.{HalfSaid}

-- a half with a faulty record says no next number
pub faulty_says_none : (b : List ℕ) (s : Shape) (half : Half) (version at : ℕ) (fault : OpenFault) (bytes : List ℕ) → IsWithinLimits s → bytes ≡ records_area b s half
    → AreFaulty s.data_blocks at bytes (nothing_yet version) fault → (next : ℕ) → SaysNext s.data_blocks (records_area b s half) version next → ⊥
faulty_says_none b s half version at fault bytes limits same faulty next says =
    read_or_faulty s.data_blocks (records_area b s half) (nothing_yet version) limits.all_data (area_short b s half limits) at says.1 says.0 fault says.2
    (subst (λ (x : List ℕ). AreFaulty s.data_blocks at x (nothing_yet version) fault) same faulty)

-- the opening of a journal only reads
pub opening_reads : {D : Type 0} (g : disk.Ghosts D) (old new : D) → ((t : ℕ) (c : List ℕ) → t ≤ g.clock new → g.may_leave new c → g.left_since new t c)
    → (IsTrue (g.is_honest old) → LeavesOnly g old new (g.may_leave old)) → (IsTrue (g.is_honest old) → g.seen new ≡ g.seen old)
    → g.is_honest new ≡ g.is_honest old → g.size new ≡ g.size old → OnlyReads g old new
opening_reads g old new counts moments seen honesty size = record {
  seen = seen;
  crash = λ honest c may. now_too g old new (g.may_leave old) (moments honest) counts c may;
  moments = moments;
  honesty = honesty;
  size = size;
}

-- Both halves are read, one after the other, of a disk that gives the same bytes.
pub both_said : (b one two : List ℕ) (s t : Standing) (shape : Shape) (x y : HalfSaid) (taken : ℕ) (gap : Option Gap)
    → one ≡ b → two ≡ b → t ≡ s → shape ≡ t.shape → taken ≡ t.next → IsSaid one shape A x → IsSaid two shape B y → gap ≡ gap_between x y taken → IsGapOf b s gap
both_said b one two s t shape x y taken gap first second same shape_is taken_is said_a said_b is =
    let here : shape ≡ s.shape = shape_is ∙ ap (λ (u : Standing). u.shape) same in (
      x,
      y,
      subst (λ (c : List ℕ). IsSaid c s.shape A x) first (subst (λ (h : Shape). IsSaid one h A x) here said_a),
      subst (λ (c : List ℕ). IsSaid c s.shape B y) second (subst (λ (h : Shape). IsSaid two h B y) here said_b),
      is ∙ ap (gap_between x y) (taken_is ∙ ap (λ (u : Standing). u.next) same),
    )
