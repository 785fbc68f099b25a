use Rattle.std.proofs.Common.{◌∙◌, sym, ap, subst, arith}
use Rattle.address_space.specs.Layers.{IsMerging, holder}
use Rattle.address_space.proofs.Layering.{holder_past, without_under}
use Rattle.address_space.proofs.layers.uncovered.Goals as goal

pub loop-row-preserved : goal.loop-row-preserved
loop-row-preserved c =
    let is = c.in-Some.ensures.cases.0 in
    let row = c.in-Some.row.now in
    let rest = c.in-Some.rest.now in
    let ended = c.if-past-at.false in
    record {
      same = λ a h. sym (holder_past row rest a (omega (arith, ended, c.past.ensures.value, h))) ∙ ap (λ rows. holder rows a) (sym is) ∙ c.loop-row.invariant.same a h;
      merging = λ over m. without_under over rest row c.args.at (subst (λ rows. IsMerging over rows c.args.at) is (c.loop-row.invariant.merging over m));
    }
