use Rattle.std.proofs.Common.{◌≡◌, ◌+◌, ℕ, map, drop, subst, suc, arith}
use Rattle.journal_layout.specs.Case.{case_of}
use Rattle.salvage.specs.Records.{HasEachBut}
use Rattle.salvage.proofs.CaseLemmas.{each_back, each_past}
use Rattle.salvage.proofs.records.Scan.has_each.Goals as goal

pub loop-entry-init : goal.loop-entry-init
loop-entry-init c = λ each. subst (HasEachBut c.args.self.now.drops.items c.args.journal.now.standing.cases) c.entries-entry-items.ensures each

pub loop-entry-preserved : goal.loop-entry-preserved
loop-entry-preserved c = λ each.
    let es = c.entries-entry-items.result.now in
    let i = c.loop-entry.entry-index in
    let drops = c.args.self.now.drops.items in
    let cases = c.args.journal.now.standing.cases in
    let next : i + 1 ≡ suc i = omega arith in
    c.loop-entry.invariant
    (each_back drops cases es i c.entry-item.result c.loop-entry-test.true c.entry-item.is (c.keeps.ensures c.if-not-keeps.false)
    (subst (λ (k : ℕ). HasEachBut drops cases (map case_of (drop k es))) next each))

pub returns : goal.returns
returns c = λ _. c.loop-entry.invariant (each_past c.args.self.now.drops.items c.args.journal.now.standing.cases c.entries-entry-items.result.now c.loop-entry.entry-index c.loop-entry-test.false)
