use Rattle.std.proofs.Common.{◌++◌, ◌∙◌, sym, ap, subst, arith}
use Rattle.address_space.specs.Layers.{IsNumbered, IsSheet, AreStrange, either_holder, holder}
use Rattle.address_space.proofs.Layering.{few_sheet, split_numbers, split_others, split_strange, split_same}
use Rattle.address_space.proofs.layers.+layered.Goals as goal

pub returns-then-rows-lt2-clause-sheet : goal.returns-then-rows-lt2-clause-sheet
returns-then-rows-lt2-clause-sheet t c =
    let items = c.in_ok-extend_from_slice.ensures.items in
    subst IsSheet (sym (items ∙ ap (λ rows. rows ++ c.args.rows.now) c.new-alone.ensures.items)) (few_sheet c.args.rows.now c.if-rows-lt2.true c.requires)

pub layered-requires : goal.layered-requires
layered-requires t c =
    let first = c.split_at.result.0.now in
    let others = c.split_at.result.1.now in
    let split = split_numbers first others 0 (subst (IsNumbered 0) c.split_at.ensures.by_index.0 c.requires) in
    let size = c.split_at.ensures.front_len in
    let many = c.if-rows-lt2.false in
    (omega (arith, size, many), split.first)

pub layered-requires-2 : goal.layered-requires-2
layered-requires-2 t c =
    let first = c.split_at.result.0.now in
    let others = c.split_at.result.1.now in
    let split = split_numbers first others 0 (subst (IsNumbered 0) c.split_at.ensures.by_index.0 c.requires) in
    let size = c.split_at.ensures.back_len in
    let many = c.if-rows-lt2.false in
    (omega (arith, size, many), split_others first others split)

pub overlaid-requires-clause-strange : goal.overlaid-requires-clause-strange
overlaid-requires-clause-strange t c =
    let first = c.split_at.result.0.now in
    let others = c.split_at.result.1.now in
    let split = split_numbers first others 0 (subst (IsNumbered 0) c.split_at.ensures.by_index.0 c.requires) in
    subst (λ over. AreStrange over c.deref-2.result.now) (sym c.deref.ensures.value) (subst (AreStrange c.in_ok-over.over.items) (sym c.deref-2.ensures.value) (split_strange first others c.in_ok-over.over.items c.in_ok-under.under.items split c.in_ok-over.ensures.same c.in_ok-under.ensures.same))

pub returns-clause-same : goal.returns-clause-same
returns-clause-same t c a =
    let first = c.split_at.result.0.now in
    let others = c.split_at.result.1.now in
    let over = c.in_ok-over.over.items in
    let under = c.in_ok-under.under.items in
    c.in_ok-sheet.ensures.same a
    ∙ ap (λ rows. either_holder rows c.deref-2.result.now a) c.deref.ensures.value
    ∙ ap (λ rows. either_holder over rows a) c.deref-2.ensures.value
    ∙ split_same first others over under a (c.in_ok-over.ensures.same a) (c.in_ok-under.ensures.same a)
    ∙ ap (λ rows. holder rows a) (sym c.split_at.ensures.by_index.0)
