use Rattle.std.proofs.Common.{◌≡◌, ◌+◌, ℕ, map, drop, subst, suc, sym, arith}
use Rattle.journal_layout.specs.Case.{case_of}
use Rattle.salvage.specs.Noting.{AreNoted}
use Rattle.salvage.proofs.NoteLemmas.{noted_back, noted_past}
use Rattle.salvage.proofs.noting.are_noted.Goals as goal

pub loop-entry-preserved : goal.loop-entry-preserved
loop-entry-preserved c =
    let front = c.args.front.now in
    let reads = c.args.reads.now in
    let es = c.args.entries.now in
    let i = c.loop-entry.entry-index in
    let next : i + 1 ≡ suc i = omega arith in
    let low = c.in-Some.ensures in (
      omega (arith, low),
      λ noted.
          c.loop-entry.invariant.1
          (noted_back front reads es i c.entry-item.result c.index-reads-index.result c.loop-entry-test.true c.entry-item.is
          (c.in-Some.index, low, sym c.index-reads-index.is) (c.is_noted_by.ensures c.if-not-is_noted_by.false)
          (subst (λ (k : ℕ). AreNoted front reads (map case_of (drop k es))) next noted)),
    )

pub returns : goal.returns
returns c = λ yes. c.loop-entry.invariant.1 (noted_past c.args.front.now c.args.reads.now c.args.entries.now c.loop-entry.entry-index c.loop-entry-test.false)
