use Rattle.case_pages.proofs.PageLemmas.{front_on, innermost_goes}
use Rattle.case_pages.proofs.page.push_ends.Goals as goal

pub loop-element-preserved : goal.loop-element-preserved
loop-element-preserved c = λ is.
    front_on c.loop-element.page.items c.loop-element.outer.items _ _ _ (c.loop-element.invariant is)
    (innermost_goes c.loop-element.page.items c.loop-element.outer.items c.in-Some.element _ _ c.in_ok-push_end.ensures c.in-Some.ensures.items)
