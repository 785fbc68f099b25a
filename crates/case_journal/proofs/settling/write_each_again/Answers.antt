use Rattle.std.proofs.Common.{◌∙◌, IsTrue, refl, sym, subst}
use Rattle.case_journal.proofs.SettleLemmas.{again_nothing, again_more}
use Rattle.case_journal.proofs.settling.write_each_again.Goals as goal

pub loop-place-init : goal.loop-place-init
loop-place-init g c = record {
  again = again_nothing g.D.Disk c.args.places.now c.args.disk.now (g.met.D.Disk.only_now c.args.disk.now);
  seen = λ honest. refl;
  uncounted = refl;
}

pub returns-in_err-write_again-clause-again : goal.returns-in_err-write_again-clause-again
returns-in_err-write_again-clause-again g c =
    again_more g.D.Disk c.args.places.now c.args.disk.now c.loop-place.disk c.write_again.new.disk _ (λ k others. others c.loop-place.place-index 0 c.loop-place-test.true)
    c.loop-place.invariant.again c.write_again.ensures.fills

pub loop-place-preserved : goal.loop-place-preserved
loop-place-preserved g c = record {
  again = again_more g.D.Disk c.args.places.now c.args.disk.now c.loop-place.disk c.write_again.new.disk _ (λ k others. others c.loop-place.place-index 0 c.loop-place-test.true)
      c.loop-place.invariant.again c.write_again.ensures.fills;
  seen = λ honest. c.in_ok-write_again.ensures.seen (subst IsTrue (sym c.loop-place.invariant.again.honesty) honest) ∙ c.loop-place.invariant.seen honest;
  uncounted = c.in_ok-write_again.ensures.cause.ok ∙ c.loop-place.invariant.uncounted;
}
