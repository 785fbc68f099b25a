use Rattle.std.proofs.Common.{refl}
use Rattle.windowed_search.proofs.TextSteps.{more_text}
use Rattle.windowed_search.proofs.memory_texts.MemoryTexts.take_text.Goals as goal

pub returns-clause-texts : goal.returns-clause-texts
returns-clause-texts c space so_far values = more_text space c.args.self.now _ c.args.text.now so_far refl refl refl refl c.in_ok-extend_from_slice.ensures.items c.requires.text values
