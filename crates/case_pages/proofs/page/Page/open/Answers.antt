use Rattle.case_pages.proofs.PageLemmas.{front_on, tokens_on}
use Rattle.case_pages.proofs.page.Page.open.Goals as goal

pub invariant_of-self : goal.invariant_of-self
invariant_of-self c = record { sound = λ f. front_on c.args.self.now.text.items c.args.self.now.outer.items _ _ _ (c.args.self.now.sound f) c.in-Ok.ensures }

pub returns-in-Ok : goal.returns-in-Ok
returns-in-Ok c = λ f. (f, tokens_on c.args.self.now.text.items c.args.self.now.outer.items _ _ _ (c.args.self.now.sound f) c.in-Ok.ensures)
