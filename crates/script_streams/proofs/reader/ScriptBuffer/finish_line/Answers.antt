use Rattle.std.proofs.Common.{◌++◌, ◌∙◌}
use Rattle.std.proofs.lemmas.Result.{err_from_is_err_and}
use Rattle.script_streams.proofs.ReadingLemmas.{gives_then, is_line_append}
use Rattle.script_streams.proofs.EndingLemmas.{line_ended, line_stopped}
use Rattle.script_streams.proofs.reader.ScriptBuffer.finish_line.Goals as goal

pub returns-in_err-ending-clause-gives : goal.returns-in_err-ending-clause-gives
returns-in_err-ending-clause-gives g c start a front line keeps gives =
    let p = err_from_is_err_and c.from_residual.result c.from_residual.ensures.1 in
    let so_far = c.loop-ending.invariant.so_far start a front line keeps gives in
    rw p.1 (line_stopped so_far.0 _ _ _ start c.loop-ending.self c.go_on.new.self c.go_on.new.line so_far.1 so_far.3 p.0 (c.in_err-ending.ensures.gives so_far.0 so_far.2))

pub returns-in-Some-clause-gives : goal.returns-in-Some-clause-gives
returns-in-Some-clause-gives g c start a front line keeps gives =
    let so_far = c.loop-ending.invariant.so_far start a front line keeps gives in
    let is = c.in-Some.is in
    let went = c.in_ok-ending.ensures.gives so_far.0 so_far.2 in
    line_ended so_far.0 _ _ _ start c.loop-ending.self c.go_on.new.self c.go_on.new.line so_far.1 so_far.3 c.in-Some.ending (rw is at went)

pub loop-ending-preserved : goal.loop-ending-preserved
loop-ending-preserved g c =
    let is = c.in_default.is in
    let step = c.in_ok-ending.ensures in
    record {
      so_far = λ start a front line keeps gives.
          (let so_far = c.loop-ending.invariant.so_far start a front line keeps gives in
          let went = rw is at (step.gives so_far.0 so_far.2) in (
            so_far.0 ++ went.0,
            is_line_append so_far.0 went.0 so_far.1 went.1,
            went.2,
            gives_then _ _ _ start c.loop-ending.self c.go_on.new.self so_far.0 went.0 so_far.3 went.3,
          ));
      failures = step.stops ∙ c.loop-ending.invariant.failures;
    }
