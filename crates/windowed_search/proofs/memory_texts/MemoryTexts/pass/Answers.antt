use Rattle.windowed_search.proofs.TextLemmas.{no_text_there}
use Rattle.windowed_search.proofs.memory_texts.MemoryTexts.pass.Goals as goal

pub returns-clause-texts : goal.returns-clause-texts
returns-clause-texts c space so_far none = c.leave.ensures.texts space so_far (no_text_there space c.args.self.now.address c.args.count none)
