use Rattle.std.proofs.Common.{◌-◌, ◌+◌, ◌≡◌, take, length, sym, ap, ◌∙◌, arith}
use Rattle.symbols.proofs.Best.{kept, stop_unreached, stop_past, kept_more, length_ends}
use Rattle.symbols.specs.declared.functions.Function.{Function}
use Rattle.symbols.proofs.covering.named_among.Goals as goal

-- what a read past the end would give
abbrev none : Function
none = record { index = 0; name = 0; rank = 0; value = 0; size = 0 }

pub bounds-ends-left : goal.bounds-ends-left
bounds-ends-left c =
    omega (arith, ap length c.requires.reach, length_ends 0 c.args.functions.now)

pub returns-then-ends-left : goal.returns-then-ends-left
returns-then-ends-left c =
    let fs = c.args.functions.now in
    let i = c.loop-left.left - 1 in
    let up : c.loop-left.left ≡ i + 1 = omega arith in
    sym (c.loop-left.invariant.same ∙ ap (λ n. kept c.args.address c.loop-left.best (take n fs)) up ∙ stop_unreached c.args.address c.loop-left.best fs c.args.ends.now i (omega arith) (omega arith) c.requires.reach (omega arith))

pub returns-then-is_past : goal.returns-then-is_past
returns-then-is_past c =
    let fs = c.args.functions.now in
    let i = c.loop-left.left - 1 in
    let up : c.loop-left.left ≡ i + 1 = omega arith in
    sym (c.loop-left.invariant.same ∙ ap (λ n. kept c.args.address c.loop-left.best (take n fs)) up ∙ stop_past c.args.address c.loop-left.best fs i none c.requires.ordered (omega arith) (sym c.if-is_past.ensures))

pub loop-left-preserved : goal.loop-left-preserved
loop-left-preserved c =
    let v = c.args.address in
    let fs = c.args.functions.now in
    let i = c.loop-left.left - 1 in
    let up : c.loop-left.left ≡ i + 1 = omega arith in
    record {
      within = omega arith;
      same = c.loop-left.invariant.same ∙ ap (λ n. kept v c.loop-left.best (take n fs)) up ∙ kept_more v c.loop-left.best fs i none (omega arith)
          ∙ ap (λ best. kept v best (take i fs)) (sym c.best_with-best.ensures);
    }
