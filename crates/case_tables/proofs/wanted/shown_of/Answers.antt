use Rattle.std.proofs.Common.{map, ap, subst, ◌∙◌}
use Rattle.journal_layout.specs.Case.{case_of}
use Rattle.case_tables.specs.Order.{IsShown}
use Rattle.case_tables.specs.Wanted.{last_of}
use Rattle.case_tables.proofs.TableLemmas.{last_made}
use Rattle.case_tables.proofs.wanted.shown_of.Goals as goal

pub returns : goal.returns
returns c =
    let last = c.args.wanted.now.last in
    let kept = c.in_ok-shown.ensures.items_if_clones_equal (λ x y e. e) ∙ c.last_of.ensures ∙ ap (last_of last) c.deref.ensures.value in
    let cases = ap (map (λ e. case_of e.now)) kept ∙ last_made (λ e. case_of e.now) last c.in_ok-found.found.items ∙ ap (last_of last) c.in_ok-found.ensures in
    subst (λ l. IsShown c.args.wanted.now.order l (map (λ e. case_of e.now) c.put_in_order.new.cases.items)) cases c.put_in_order.ensures
