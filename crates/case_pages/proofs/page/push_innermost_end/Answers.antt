use Rattle.case_pages.proofs.PageLemmas.{innermost_ends}
use Rattle.case_pages.proofs.page.push_innermost_end.Goals as goal

pub returns-in-Some : goal.returns-in-Some
returns-in-Some c =
    innermost_ends c.push_end.result c.args.page.now.items c.args.outer.now.items c.in-Some.element c.push_end.new.page.items c.pop.new.self.items c.push_end.ensures c.in-Some.ensures.items
