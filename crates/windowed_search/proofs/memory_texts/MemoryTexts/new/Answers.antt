use Rattle.std.proofs.Common.{refl}
use Rattle.windowed_search.proofs.TextSteps.{no_texts}
use Rattle.windowed_search.proofs.memory_texts.MemoryTexts.new.Goals as goal

pub returns-clause-texts : goal.returns-clause-texts
returns-clause-texts c space = no_texts space _ refl refl c.new.ensures.items c.new-2.ensures.items
