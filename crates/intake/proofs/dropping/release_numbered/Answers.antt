use Rattle.std.proofs.Common.{◌∙◌, ap, sym, subst, List, [], ℕ}
use Rattle.extents.specs.FreeSet.{AreUsed, with_runs}
use Rattle.journal_layout.specs.Case.{case_of}
use Rattle.intake.specs.Balance.{AreHeld, Balances}
use Rattle.intake.proofs.CountLemmas.{held_used, given}
use Rattle.intake.proofs.ListedLemmas.{blocks_numbered, blocks_absent, none_passed}
use Rattle.intake.proofs.dropping.release_numbered.Goals as goal

pub give_back-requires : goal.give_back-requires
give_back-requires c =
    let e = c.in-Some.entry.now in
    let are = blocks_numbered c.args.seq c.args.journal.now.standing.cases (case_of e) c.requires.order c.in-Some.ensures in
    subst (AreUsed c.args.free.now) (sym c.runs.ensures.shortest) (held_used c.args.free.now e.runs (subst (AreHeld c.args.free.now) are c.requires.held))

pub returns-in-Some : goal.returns-in-Some
returns-in-Some c =
    let e = c.in-Some.entry.now in
    let are = blocks_numbered c.args.seq c.args.journal.now.standing.cases (case_of e) c.requires.order c.in-Some.ensures in
    subst (λ (bs : List ℕ). Balances c.args.free.now bs c.give_back.new.self []) (sym are)
    (given c.args.free.now c.give_back.new.self e.runs (subst (AreHeld c.args.free.now) are c.requires.held) (c.give_back.ensures ∙ ap (with_runs c.args.free.now) c.runs.ensures.shortest))

pub returns-in_default : goal.returns-in_default
returns-in_default c = none_passed c.args.free.now _ (blocks_absent c.args.seq c.args.journal.now.standing.cases c.in_default.ensures)
