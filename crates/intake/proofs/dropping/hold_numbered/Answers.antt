use Rattle.std.proofs.Common.{sym, subst, List, [], ℕ}
use Rattle.journal_layout.specs.Case.{case_of}
use Rattle.intake.specs.Balance.{AreFree, Balances}
use Rattle.intake.proofs.ListedLemmas.{blocks_numbered, blocks_absent, none_taken}
use Rattle.intake.proofs.dropping.hold_numbered.Goals as goal

pub hold-requires : goal.hold-requires
hold-requires c =
    subst (AreFree c.args.free.now) (blocks_numbered c.args.seq c.args.journal.now.standing.cases (case_of c.in-Some.entry.now) c.requires.order c.in-Some.ensures) c.requires.free

pub returns-in-Some : goal.returns-in-Some
returns-in-Some c =
    subst (λ (bs : List ℕ). Balances c.args.free.now [] c.hold.new.free bs)
    (sym (blocks_numbered c.args.seq c.args.journal.now.standing.cases (case_of c.in-Some.entry.now) c.requires.order c.in-Some.ensures)) c.hold.ensures

pub returns-in_default : goal.returns-in_default
returns-in_default c = none_taken c.args.free.now _ (blocks_absent c.args.seq c.args.journal.now.standing.cases c.in_default.ensures)
