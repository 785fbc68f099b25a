-- A write of a data block leaves what a disk stands for.
use Rattle.std.proofs.Common.{◌≡◌, ℕ, ◌≤◌, sym, ◌∙◌, subst}
use Rattle.std.specs.Prelude.{IsTrue}
use Rattle.disk_model.specs.Disk.{Follows}
use Rattle.disk_model.specs.Places.{SameOutside}
use Rattle.disk_model.specs.declared.disk.Disk as disk
use Rattle.journal_layout.specs.Layout.{data_start}
use Rattle.case_journal.specs.Journaled.{Journaled}
use Rattle.case_journal.specs.DoubtLaws.{apart_doubts}
use Rattle.case_journal.specs.Keeping.{Keeps, DataIsApart}

pub keeps_apart : {D : Type 0} (g : disk.Ghosts D) (d d' : D) (j : Journaled) (at n : ℕ) → DataIsApart → Keeps g d j → (IsTrue (g.is_honest d) → g.may_leave d (g.seen d))
    → g.size d' ≡ g.size d → g.is_honest d' ≡ g.is_honest d → (IsTrue (g.is_honest d) → Follows (SameOutside at n) (g.may_leave d) (g.may_leave d'))
    → (IsTrue (g.is_honest d) → SameOutside at n (g.seen d) (g.seen d')) → data_start j.standing.shape ≤ at → Keeps g d' j
keeps_apart g d d' j at n apart keeps stays size honesty crash others low = record {
  size = size ∙ keeps.size;
  doubts = λ honest'. (
      let honest : IsTrue (g.is_honest d) = subst IsTrue honesty honest' in
      apart_doubts g d d' j.standing.shape at n apart low (crash honest) (others honest) (keeps.doubts honest));
  holds = λ runs honest'. (
      let honest : IsTrue (g.is_honest d) = subst IsTrue honesty honest' in
      let holds = keeps.holds runs honest in
      record {
        stands = λ c may. (let f = crash honest c may in (apart j.standing at n f.0 c (holds.stands f.0 f.1) f.2 low).0);
        front = λ c may. (
            let f = crash honest c may in
            let first = holds.front f.0 f.1 in
            let after = (apart j.standing at n f.0 c (holds.stands f.0 f.1) f.2 low).1 in
            let shown = (apart j.standing at n (g.seen d) (g.seen d') (holds.stands (g.seen d) (stays honest)) (others honest) low).1 in
            after ∙ first ∙ sym shown);
      });
}
