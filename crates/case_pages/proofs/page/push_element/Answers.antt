use Rattle.std.proofs.Common.{rules}
use Rattle.case_pages.proofs.PageLemmas.{opened_one, opened_void, start_goes}
use Rattle.case_pages.proofs.page.push_element.Goals as goal

pub returns-in_ok-push : goal.returns-in_ok-push
returns-in_ok-push c =
    start_goes c.args.page.now.items c.args.outer.now.items c.args.element c.args.attributes.now _ _
    (search rules) (opened_one c.args.element c.args.outer.now.items _ _ c.is_void.ensures c.if-not-is_void.true (search rules))

pub returns-else-not-is_void : goal.returns-else-not-is_void
returns-else-not-is_void c =
    start_goes c.args.page.now.items c.args.outer.now.items c.args.element c.args.attributes.now _ _
    (search rules) (opened_void c.args.element c.args.outer.now.items _ c.is_void.ensures c.if-not-is_void.false)
