use Rattle.std.proofs.Common.{refl, ◌∙◌}
use Rattle.std.proofs.lemmas.Result.{err_from_is_err_and}
use Rattle.windowed_search.specs.ScanWords.{next_address}
use Rattle.case_queries.proofs.WalkLemmas.{step_after, step_fits, step_has, step_leads}
use Rattle.case_queries.proofs.walk.Walk.walk.Goals as goal

pub loop-step-preserved : goal.loop-step-preserved
loop-step-preserved g c =
    let so_far = c.loop-step.invariant in
    let took = c.in_ok-step.ensures in
    let steps = c.args.steps.now in
    let i = c.loop-step.step-index in
    let p = c.loop-step.self.at in
    let a = next_address c.loop-step.self.search in
    let more = c.loop-step-test.true in
    record {
      has = took.has;
      fit = step_fits steps i _ _ more refl c.args.image.size p a c.step.new.self.at (next_address c.step.new.self.search) took.at took.address so_far.fit;
      buffer = took.buffer;
      address = step_after steps i _ _ more refl a (next_address c.step.new.self.search) took.address ∙ so_far.address;
      walks = λ before space aim b start leads.
          let now = so_far.walks before space aim b start leads in (
            took.walks before space aim now.0 (step_has space c.args.image steps i _ _ more refl p a b now.1),
            step_leads space c.args.image steps i _ _ more refl p a b c.step.new.self.at (next_address c.step.new.self.search) took.at took.address now.1,
          );
    }

pub returns-in_err-step-clause-walks : goal.returns-in_err-step-clause-walks
returns-in_err-step-clause-walks g c before space aim b start leads =
    let p = err_from_is_err_and c.from_residual.result c.from_residual.ensures.1 in
    let now = c.loop-step.invariant.walks before space aim b start leads in
    rw (p.1, p.2)
    (c.in_err-step.ensures.walks before space aim now.0 (step_has space c.args.image c.args.steps.now c.loop-step.step-index _ _ c.loop-step-test.true refl c.loop-step.self.at (next_address c.loop-step.self.search) b now.1))

pub returns-clause-walks : goal.returns-clause-walks
returns-clause-walks g c before space aim b start leads = (c.loop-step.invariant.walks before space aim b start leads).0
