use Rattle.std.proofs.Common.{min, sym, ap, ◌∙◌}
use Rattle.std.proofs.Math.Logic.{∥∥₁_elim}
use Rattle.std.proofs.Props.{props}
use Rattle.address_space.proofs.Sorting.{found, missed, left_of}
use Rattle.address_space.proofs.Sheets.{sheet_found, sheet_missed}
use Rattle.address_space.proofs.table.Table.find.Goals as goal

pub returns-in-Some-clause-first : goal.returns-in-Some-clause-first
returns-in-Some-clause-first c ws moved =
    let t = c.args.self.now in
    let row = c.in-Some.row in
    let left = left_of row c.args.at c.in-Some.ensures.1 in
    sym (found t.rows.items t.rising t.apart ws moved c.args.at c.args.limit c.min.result row c.requires c.in-Some.ensures.0 c.in-Some.ensures.1 c.in-Some.ensures.2 (c.min.ensures ∙ ap (min c.args.limit) left)).0

pub returns-in-Some-clause-alike : goal.returns-in-Some-clause-alike
returns-in-Some-clause-alike c ws moved =
    let t = c.args.self.now in
    let row = c.in-Some.row in
    let left = left_of row c.args.at c.in-Some.ensures.1 in
    (found t.rows.items t.rising t.apart ws moved c.args.at c.args.limit c.min.result row c.requires c.in-Some.ensures.0 c.in-Some.ensures.1 c.in-Some.ensures.2 (c.min.ensures ∙ ap (min c.args.limit) left)).1

pub returns-in-None-clause-first : goal.returns-in-None-clause-first
returns-in-None-clause-first c ws moved =
    let t = c.args.self.now in
    sym (missed t.rows.items t.rising t.apart ws moved c.args.at c.args.limit c.gap.result c.count_to-count.result c.requires c.in-None.ensures c.count_to-count.ensures.above c.gap.ensures.before c.gap.ensures.all).0

pub returns-in-None-clause-alike : goal.returns-in-None-clause-alike
returns-in-None-clause-alike c ws moved =
    let t = c.args.self.now in
    (missed t.rows.items t.rising t.apart ws moved c.args.at c.args.limit c.gap.result c.count_to-count.result c.requires c.in-None.ensures c.count_to-count.ensures.above c.gap.ensures.before c.gap.ensures.all).1

pub returns-in-Some-clause-number : goal.returns-in-Some-clause-number
returns-in-Some-clause-number c sheet =
    let row = c.in-Some.row in
    let left = left_of row c.args.at c.in-Some.ensures.1 in
    ∥∥₁_elim sheet (hlevel props) (λ s. (sheet_found c.args.self.now.rows.items c.args.at c.args.limit c.min.result row s c.requires c.in-Some.ensures.0 c.in-Some.ensures.1 c.in-Some.ensures.2 (c.min.ensures ∙ ap (min c.args.limit) left)).0)

pub returns-in-Some-clause-held : goal.returns-in-Some-clause-held
returns-in-Some-clause-held c sheet =
    let row = c.in-Some.row in
    let left = left_of row c.args.at c.in-Some.ensures.1 in
    ∥∥₁_elim sheet (hlevel props) (λ s. (sheet_found c.args.self.now.rows.items c.args.at c.args.limit c.min.result row s c.requires c.in-Some.ensures.0 c.in-Some.ensures.1 c.in-Some.ensures.2 (c.min.ensures ∙ ap (min c.args.limit) left)).1)

pub returns-in-None-clause-number : goal.returns-in-None-clause-number
returns-in-None-clause-number c sheet =
    ∥∥₁_elim sheet (hlevel props) (λ s. (sheet_missed c.args.self.now.rows.items s c.args.at c.args.limit c.gap.result c.count_to-count.result c.requires c.in-None.ensures c.count_to-count.ensures.above c.gap.ensures.before c.gap.ensures.all).0)

pub returns-in-None-clause-held : goal.returns-in-None-clause-held
returns-in-None-clause-held c sheet =
    ∥∥₁_elim sheet (hlevel props) (λ s. (sheet_missed c.args.self.now.rows.items s c.args.at c.args.limit c.gap.result c.count_to-count.result c.requires c.in-None.ensures c.count_to-count.ensures.above c.gap.ensures.before c.gap.ensures.all).1)
