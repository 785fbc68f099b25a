use Rattle.std.proofs.Common.{◌≡◌, ◌+◌, ◌-◌, drop, ap, sym, ◌∙◌, arith}
use Rattle.std.proofs.lemmas.List.{drop-drop}
use Rattle.case_pages.specs.Times.{newest_of}
use Rattle.case_pages.proofs.times.newest_of.Goals as goal

pub loop-at-preserved : goal.loop-at-preserved
loop-at-preserved c =
    let times = c.args.times.now in
    let at = c.loop-at.at in
    let back = c.split_at.ensures.back in
    let down : at - 1 + 1 ≡ at = omega (arith, c.loop-at-test.true) in
    let later : drop 1 c.split_at.result.1.now ≡ drop at times = ap (drop 1) back ∙ drop-drop 1 (at - 1) times ∙ ap (λ k. drop k times) down in
    (c.newer-newest.ensures (c.loop-at.invariant.0 ∙ ap newest_of (sym later)) ∙ ap newest_of back, omega (arith, c.loop-at.invariant.1))
