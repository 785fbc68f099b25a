use Rattle.std.proofs.Common.{ap, sym, ◌∙◌, arith, length, take}
use Rattle.extents.specs.FreeLaws.{with_none, length_with, run_of}
use Rattle.extents.specs.Runs.{blocks_of}
use Rattle.extents.proofs.RunLemmas.{none_free, run_within, given_more}
use Rattle.extents.proofs.free_map.FreeMap.give_back.Goals as goal

pub loop-run-init : goal.loop-run-init
loop-run-init c = sym (with_none c.args.self.now)

pub free_run-requires-clause-within : goal.free_run-requires-clause-within
free_run-requires-clause-within c =
    let runs = c.args.runs.now in
    let i = c.loop-run.run-index in
    let same = ap length c.loop-run.invariant ∙ length_with c.args.self.now (blocks_of (take i runs)) in
    let within = run_within c.args.self.now runs c.requires i (run_of 0 0) c.loop-run-test.true in
    omega (arith, same, within)

pub free_run-requires-clause-used : goal.free_run-requires-clause-used
free_run-requires-clause-used c =
    none_free c.args.self.now c.args.runs.now c.requires c.loop-run.run-index (run_of 0 0) c.loop-run-test.true c.loop-run.self c.loop-run.invariant

pub loop-run-preserved : goal.loop-run-preserved
loop-run-preserved c =
    given_more c.args.self.now c.args.runs.now c.requires c.loop-run.run-index (run_of 0 0) c.loop-run-test.true c.loop-run.self c.free_run.new.self
    c.loop-run.invariant c.free_run.ensures
