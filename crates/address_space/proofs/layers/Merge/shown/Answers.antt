use Rattle.std.proofs.Common.{◌≡◌, ◌^◌, ◌+◌, ◌-◌, refl, sym, subst, arith}
use Rattle.address_space.specs.ScanWords.{past_of}
use Rattle.address_space.specs.Layers.{IsMerging, IsNext, either_holder}
use Rattle.address_space.specs.declared.row.Row.{Row}
use Rattle.address_space.proofs.Layering.{next_under, laid_bounds}
use Rattle.address_space.proofs.layers.Merge.shown.Goals as goal

pub overflow_cast-result : goal.overflow_cast-result
overflow_cast-result c =
    let is = c.in_ok-first.ensures.cases.0 in
    let m = subst (λ under. IsMerging c.args.self.now.over.now under c.args.self.now.at) is c.requires.merging in
    let fits = laid_bounds c.in_ok-first.field-0-1.now (past_of c.in_ok-first.first.now) (2 ^ 64) m.under_laid.2 in
    let some = c.if-start-past.false in
    omega (arith, fits, some, c.min-past.ensures, c.past.ensures.value)

pub overflow_cast-result-2 : goal.overflow_cast-result-2
overflow_cast-result-2 c =
    let small = c.past.ensures.small in
    omega (arith, small, c.min-past.ensures, c.max-start.ensures, c.past.ensures.value, c.from.ensures)

pub returns : goal.returns
returns c =
    let is = c.in_ok-first.ensures.cases.0 in
    let row : Row = c.in_ok-first.first.now in
    let over = c.args.self.now.over.now in
    let at = c.args.self.now.at in
    let m = subst (λ under. IsMerging over under at) is c.requires.merging in
    let some = c.if-start-past.false in
    let start = c.max-start.result in
    let past = c.min-past.result in
    let part : Row = record { number = row.number; start = start; size = past - start } in
    let all : start + (past - start) ≡ past = omega arith in (
      subst (λ under. IsNext (either_holder over under) at part) (sym is) (next_under over c.in_ok-first.field-0-1.now row part at m refl (omega (arith, c.max-start.ensures, c.from.ensures)) (omega (arith, c.min-past.ensures, c.past.ensures.value, c.ceiling.ensures)) (omega (arith, some))),
      omega (arith, c.min-past.ensures, c.ceiling.ensures),
    )
