use Rattle.std.proofs.Common.{arith, List, subst, ℕ, ◌+◌}
use Rattle.handler_files.specs.Stream.{PassesOn, StepsTo}
use Rattle.handler_files.proofs.StreamLemmas.{pass_both}
use Rattle.handler_files.proofs.stream.pass_on.Goals as goal

pub returns-in-Some-clause-passes : goal.returns-in-Some-clause-passes
returns-in-Some-clause-passes g c = λ xs is.
    pass_both xs c.loop-bytes.bytes c.pass_piece-count.result.0 _ _ _ _ _ c.pass_piece-count.new.piece (c.loop-bytes.invariant.passes xs is) c.pass_piece-count.ensures.passes

pub loop-bytes-preserved : goal.loop-bytes-preserved
loop-bytes-preserved g c =
    let step = c.pass_piece-count.ensures.steps (let t = c.loop-bytes-test.true in omega (arith, t)) in
    let none = subst (λ end. StepsTo c.pass_piece-count.result.0 end c.pass_piece-count.new.piece (g.I.Read.remaining c.pass_piece-count.new.input)) c.in-None.is step in
    record {
      within = (let w = c.pass_piece-count.ensures.within in let t = c.loop-bytes-test.true in omega (arith, w, t));
      empty = none.0;
      passes = λ xs is. subst (λ (held : List ℕ). PassesOn xs (c.loop-bytes.bytes + c.pass_piece-count.result.0) (g.W.Write.contents c.args.writer.now) (g.W.Write.contents c.pass_piece-count.new.writer) held (g.I.Read.remaining c.pass_piece-count.new.input)) none.0
          (pass_both xs c.loop-bytes.bytes c.pass_piece-count.result.0 _ _ _ _ _ c.pass_piece-count.new.piece (c.loop-bytes.invariant.passes xs is) c.pass_piece-count.ensures.passes);
    }
