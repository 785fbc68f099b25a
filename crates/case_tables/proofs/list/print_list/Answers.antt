use Rattle.std.proofs.Common.{◌≡◌, ◌==◌, length, map, not, ap, ◌∙◌, arith}
use Rattle.std.proofs.lemmas.List.{length-map}
use Rattle.std.specs.Vec.{vec_len}
use Rattle.journal_layout.specs.Case.{case_of}
use Rattle.case_tables.specs.Wanted.{chosen}
use Rattle.case_tables.proofs.OrderLemmas.{shown_length}
use Rattle.case_tables.proofs.list.print_list.Goals as goal

pub returns-clause-some : goal.returns-clause-some
returns-clause-some g c =
    let shown = c.in_ok-shown.shown in
    let cases = chosen c.args.wanted.now (map case_of c.args.cases.now) in
    let long = shown_length c.args.wanted.now.order cases (map (λ e. case_of e.now) shown.items) c.in_ok-shown.ensures in
    let each = length-map shown.items (λ e. case_of e.now) in
    let count : vec_len shown ≡ length cases = omega (arith, shown.ok, long, each) in
    ap not (c.is_empty.ensures ∙ ap (λ n. n == 0) count)
