use Rattle.std.proofs.Common.{ℕ, sym, subst, ◌∙◌, arith}
use Rattle.address_space.specs.ScanWords.{past_of}
use Rattle.address_space.specs.Layers.{either_holder}
use Rattle.address_space.proofs.Layering.{IsPut, put_next, put_sheet, next_alike, laid_bounds}
use Rattle.address_space.proofs.layers.overlaid.Goals as goal

pub loop-row-preserved : goal.loop-row-preserved
loop-row-preserved c =
    let answer : ℕ → _ = either_holder c.args.over.now c.args.under.now in
    let ahead = c.loop-row.ahead in
    let row = c.in-Some.row in
    let taken = c.in-Some.ensures in
    let behind = taken.behind in
    let from = taken.next.from in
    let put = put_next answer c.loop-row.rows.items ahead.at row c.loop-row.invariant.put (next_alike (either_holder ahead.over.now ahead.under.now) answer ahead.at row c.loop-row.invariant.same taken.next) in
    record {
      merging = taken.merging;
      put = subst (IsPut answer c.push.new.self.items) (sym behind) (subst (λ rows. IsPut answer rows (past_of row)) (sym c.in_ok-push.ensures.items) put);
      same = λ a h. taken.same a (omega (arith, behind, h)) ∙ c.loop-row.invariant.same a (omega (arith, behind, from, h));
    }

pub returns-clause-sheet : goal.returns-clause-sheet
returns-clause-sheet c =
    let answer = either_holder c.args.over.now c.args.under.now in
    let ahead = c.loop-row.ahead in
    let fits = laid_bounds ahead.over.now ahead.at _ c.loop-row.invariant.merging.over_laid in
    (put_sheet answer c.loop-row.rows.items ahead.at fits c.loop-row.invariant.put (λ a h. sym (c.loop-row.invariant.same a h) ∙ c.in_default.ensures a h)).0

pub returns-clause-same : goal.returns-clause-same
returns-clause-same c =
    let answer = either_holder c.args.over.now c.args.under.now in
    let ahead = c.loop-row.ahead in
    let fits = laid_bounds ahead.over.now ahead.at _ c.loop-row.invariant.merging.over_laid in
    (put_sheet answer c.loop-row.rows.items ahead.at fits c.loop-row.invariant.put (λ a h. sym (c.loop-row.invariant.same a h) ∙ c.in_default.ensures a h)).1
