use Rattle.std.proofs.Common.{◌∙◌, ap, subst, []}
use Rattle.extents.specs.FreeLaws.{run_of}
use Rattle.extents.specs.Runs.{blocks_of}
use Rattle.extents.specs.RunLaws.{blocks_of_runs}
use Rattle.intake.specs.Balance.{Balances}
use Rattle.intake.proofs.HoldLemmas.{some_blocks, never_refused, marked_more, runs_free, runs_some}
use Rattle.std.proofs.lemmas.List.{take_all}
use Rattle.intake.proofs.blocks.hold.Goals as goal

pub mark_used-requires : goal.mark_used-requires
mark_used-requires c =
    some_blocks c.args.free.now c.loop-run.free c.runs-run-items.result.now c.loop-run.run-index (run_of 0 0) c.loop-run-test.true
    (runs_some c.args.runs.now c.runs-run-items.result.now c.runs-run-items.ensures.shortest)
    (runs_free c.args.free.now c.args.runs.now c.runs-run-items.result.now c.runs-run-items.ensures.shortest c.requires) c.loop-run.invariant

pub unwrap-requires : goal.unwrap-requires
unwrap-requires c =
    never_refused c.args.free.now c.loop-run.free c.runs-run-items.result.now c.loop-run.run-index (run_of 0 0) c.loop-run-test.true
    (runs_some c.args.runs.now c.runs-run-items.result.now c.runs-run-items.ensures.shortest)
    (runs_free c.args.free.now c.args.runs.now c.runs-run-items.result.now c.runs-run-items.ensures.shortest c.requires) c.loop-run.invariant
    c.mark_used.new.self c.mark_used.result c.mark_used.ensures

pub loop-run-preserved : goal.loop-run-preserved
loop-run-preserved c =
    marked_more c.args.free.now c.loop-run.free c.runs-run-items.result.now c.loop-run.run-index (run_of 0 0) c.loop-run-test.true
    (runs_some c.args.runs.now c.runs-run-items.result.now c.runs-run-items.ensures.shortest)
    (runs_free c.args.free.now c.args.runs.now c.runs-run-items.result.now c.runs-run-items.ensures.shortest c.requires) c.loop-run.invariant
    c.mark_used.new.self c.mark_used.result c.mark_used.ensures

pub returns : goal.returns
returns c =
    subst (Balances c.args.free.now [] c.loop-run.free)
    (ap blocks_of (take_all c.loop-run.run-index c.runs-run-items.result.now c.loop-run-test.false ∙ c.runs-run-items.ensures.shortest) ∙ blocks_of_runs c.args.runs.now)
    c.loop-run.invariant
