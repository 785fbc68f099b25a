use Rattle.std.proofs.Common.{ℕ, ◌+◌, IsTrue, ap, arith, refl, sym, subst}
use Rattle.case_journal.proofs.PublishLemmas.{on_ok}
use Rattle.shared_disk.proofs.ReadLemmas.{always_ok, wider}
use Rattle.shared_disk.proofs.reads.read_both.Goals as goal

pub returns-clause-first : goal.returns-clause-first
returns-clause-first g c =
    always_ok c.read_at-2.result _
    (λ honest. wider _ _ _ _ _ _ _ _ _ refl (omega arith) (c.read_at-2.ensures.later (subst IsTrue (sym c.read_at.ensures.honesty) honest)) (ap (λ (p : ℕ). p + c.args.offset) c.half_start.ensures) (c.in_ok-read_at.ensures.bytes honest))

pub returns-clause-second : goal.returns-clause-second
returns-clause-second g c =
    on_ok c.read_at-2.result _ _
    (λ read honest. wider _ _ _ _ _ _ _ _ _ c.read_at.ensures.moments (c.read_at.ensures.later honest) (omega arith) (ap (λ (p : ℕ). p + c.args.offset) c.half_start-2.ensures) (read (subst IsTrue (sym c.read_at.ensures.honesty) honest)))
    c.read_at-2.ensures.bytes
