use Rattle.std.proofs.Common.{sym, ◌∙◌}
use Rattle.memory_replies.proofs.symbolized_executables.SymbolizedExecutables.named.Goals as goal

pub returns-in-None : goal.returns-in-None
returns-in-None c = sym (c.in-None.ensures.there _ c.args.self.now.numbered)

pub returns-in-Some : goal.returns-in-Some
returns-in-Some c = c.at.ensures ∙ c.in-Some.ensures.there _ c.args.self.now.numbered
