use Rattle.std.proofs.Common.{◌-◌, ◌+◌, ◌≡◌, take, length, sym, ap, ◌∙◌, arith}
use Rattle.call_frames.proofs.Search.{kept, stop_unreached, kept_more, length_ends}
use Rattle.call_frames.specs.declared.spans.Span.{Span}
use Rattle.call_frames.proofs.spans.earliest_among.Goals as goal

-- what a read past the end would give
abbrev none : Span
none = record { begin = 0; range = 0; spot = record { index = 0; place = 0 } }

pub bounds-ends-left : goal.bounds-ends-left
bounds-ends-left c =
    omega (arith, ap length c.requires.reach, length_ends 0 c.args.spans.now)

pub returns-then-ends-left : goal.returns-then-ends-left
returns-then-ends-left c =
    let ss = c.args.spans.now in
    let i = c.loop-left.left - 1 in
    let up : c.loop-left.left ≡ i + 1 = omega arith in
    sym (c.loop-left.invariant.same ∙ ap (λ n. kept c.args.address c.loop-left.best (take n ss)) up ∙ stop_unreached c.args.address c.loop-left.best ss c.args.ends.now i (omega arith) (omega arith) c.requires.reach (omega arith))

pub loop-left-preserved : goal.loop-left-preserved
loop-left-preserved c =
    let v = c.args.address in
    let ss = c.args.spans.now in
    let i = c.loop-left.left - 1 in
    let up : c.loop-left.left ≡ i + 1 = omega arith in
    record {
      within = omega arith;
      same = c.loop-left.invariant.same ∙ ap (λ n. kept v c.loop-left.best (take n ss)) up ∙ kept_more v c.loop-left.best ss i none (omega arith)
          ∙ ap (λ best. kept v best (take i ss)) (sym c.earliest_with-best.ensures);
    }
