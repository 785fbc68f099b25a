-- A disk over several calls that only read it.
use Rattle.std.proofs.Common.{ℕ, List, refl, sym, ◌∙◌, subst, IsTrue}
use Rattle.disk_model.specs.MomentLaws.{started, weakened, then_again}
use Rattle.disk_model.specs.declared.disk.Disk as disk
use Rattle.case_journal.specs.Viewing.{OnlyReads}

module _ {D : Type 0} (g : disk.Ghosts D) where
  -- no call
  pub quiet_none : (d : D) → ((c : List ℕ) → g.left_since d (g.clock d) c → g.may_leave d c) → OnlyReads g d d
  quiet_none d only = record {
    seen = λ honest. refl;
    crash = λ honest c may. may;
    moments = λ honest. started g d (g.may_leave d) only;
    honesty = refl;
    size = refl;
  }

  -- one after another
  pub quiet_then : (old mid new : D) → OnlyReads g old mid → OnlyReads g mid new → OnlyReads g old new
  quiet_then old mid new first second =
      let still : IsTrue (g.is_honest old) → IsTrue (g.is_honest mid) = λ honest. subst IsTrue (sym first.honesty) honest in record {
        seen = λ honest. second.seen (still honest) ∙ first.seen honest;
        crash = λ honest c may. first.crash honest c (second.crash (still honest) c may);
        moments = λ honest. then_again g old mid new (g.may_leave old) (first.moments honest)
            (weakened g mid new (g.may_leave mid) (g.may_leave old) (first.crash honest) (second.moments (still honest)));
        honesty = second.honesty ∙ first.honesty;
        size = second.size ∙ first.size;
      }
