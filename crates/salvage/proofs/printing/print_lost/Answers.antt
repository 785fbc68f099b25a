use Rattle.std.proofs.Common.{◌≡◌, ℕ, ◌+◌, ◌-◌, List, length, get_or, take, drop, ap, ◌∙◌, subst, arith}
use Rattle.journal_layout.specs.Case.{case_of}
use Rattle.salvage.specs.Told.{AreLost, IsLost, PrintsLines}
use Rattle.salvage.specs.declared.records.Read.{Read}
use Rattle.script_streams.specs.Printing.{sink}
use Rattle.salvage.proofs.PrintLemmas.{all_lost, none_lost, one_lost}
use Rattle.salvage.proofs.printing.print_lost.Goals as goal

pub loop-left-init : goal.loop-left-init
loop-left-init g c =
    let same = ap length c.as_slice-reads.ensures.value in
    record { bound = omega (arith, same); told = none_lost c.args.found.now c.args.found.now.scan.reads.items (length c.as_slice-reads.result.now) same }

pub loop-left-preserved : goal.loop-left-preserved
loop-left-preserved g c =
    let f = c.args.found.now in
    let reads = f.scan.reads.items in
    let left = c.loop-left.left in
    let some = c.loop-left-test.true in
    let bound = c.loop-left.invariant.bound in
    let r = c.index-reads-left.result in
    let same = c.as_slice-reads.ensures.value in
    let before : left ≡ left - 1 + 1 = omega (arith, some) in
    record {
      bound = omega (arith, some, bound);
      told =
          one_lost f reads (left - 1) r (omega (arith, some, bound)) (c.index-reads-left.is ∙ ap (λ (rs : List Read). get_or rs (left - 1) r) same)
          (subst (λ (n : ℕ). PrintsLines (record { before = sink g.O.Output c.args.reply.now; after = sink g.O.Output c.loop-left.reply }) (AreLost f (take n reads) (drop n reads))) before c.loop-left.invariant.told)
          (subst (λ (rs : List Read). PrintsLines (record { before = sink g.O.Output c.loop-left.reply; after = sink g.O.Output c.print_if_lost.new.reply }) (IsLost f (take (left - 1) rs) (case_of r.entry)))
          same c.print_if_lost.ensures);
    }

pub returns : goal.returns
returns g c = all_lost c.args.found.now c.args.found.now.scan.reads.items c.loop-left.left (omega (arith, c.loop-left-test.false)) c.loop-left.invariant.told
