use Rattle.std.proofs.Common.{◌++◌, [], arith, refl, ◌∙◌}
use Rattle.std.proofs.lemmas.Result.{err_from_is_err_and}
use Rattle.inspector_cli.proofs.FeedLemmas.{fed_none}
use Rattle.inspector_cli.proofs.GiveLemmas.{gives_nothing, gives_then, gives_then_none, joined_length}
use Rattle.script_streams.specs.PrintLaws.{prints_nothing, prints_then}
use Rattle.inspector_cli.proofs.parts.take_part.Goals as goal

pub loop-missing-init : goal.loop-missing-init
loop-missing-init g c = record {
  raw = [];
  counted = omega arith;
  gives = gives_nothing _ _;
  takes =
      fed_none g.D.Disk c.args.archive.now c.advance-verdict.new.self c.args.slot c.advance-verdict.result c.advance-verdict.ensures;
  told = prints_nothing;
  failures = refl;
}

pub returns-in_err-taken-clause-takes : goal.returns-in_err-taken-clause-takes
returns-in_err-taken-clause-takes g c =
    let p = err_from_is_err_and c.from_residual.result c.from_residual.ensures.1 in
    let so_far = c.loop-missing.invariant in
    let ends = c.in_err-taken.ensures.takes c.args.archive.now so_far.raw so_far.takes in
    rw p.1 (so_far.raw, omega (arith, so_far.counted), gives_then_none _ _ _ _ _ _ so_far.raw so_far.gives ends.0, ends.1, c.loop-missing.verdict, ends.2)

pub returns-then-taken-eq0-clause-takes : goal.returns-then-taken-eq0-clause-takes
returns-then-taken-eq0-clause-takes g c =
    let so_far = c.loop-missing.invariant in
    let piece = c.in_ok-taken.ensures.takes c.args.archive.now so_far.raw so_far.takes in
    let size = joined_length so_far.raw piece.0 c.in_ok-taken.taken piece.1 in (
      so_far.raw ++ piece.0,
      omega (arith, size, so_far.counted),
      gives_then _ _ _ _ _ _ so_far.raw piece.0 so_far.gives piece.3,
      λ some. piece.4 c.if-taken-eq0.true,
      piece.5,
    )

pub loop-missing-preserved : goal.loop-missing-preserved
loop-missing-preserved g c =
    let so_far = c.loop-missing.invariant in
    let piece = c.in_ok-taken.ensures.takes c.args.archive.now so_far.raw so_far.takes in
    let size = joined_length so_far.raw piece.0 c.in_ok-taken.taken piece.1 in
    let few = piece.2 in record {
      raw = so_far.raw ++ piece.0;
      counted = omega (arith, size, few, so_far.counted);
      gives = gives_then _ _ _ _ _ _ so_far.raw piece.0 so_far.gives piece.3;
      takes = piece.5;
      told = prints_then so_far.told c.in_ok-taken.ensures.states;
      failures = c.in_ok-taken.ensures.stops ∙ so_far.failures;
    }

pub returns-in_err-taken-clause-states : goal.returns-in_err-taken-clause-states
returns-in_err-taken-clause-states g c = prints_then c.loop-missing.invariant.told c.in_err-taken.ensures.states

pub returns-then-taken-eq0-clause-states : goal.returns-then-taken-eq0-clause-states
returns-then-taken-eq0-clause-states g c = prints_then c.loop-missing.invariant.told c.in_ok-taken.ensures.states
