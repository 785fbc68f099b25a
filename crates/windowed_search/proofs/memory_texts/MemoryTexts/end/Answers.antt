use Rattle.windowed_search.proofs.TextSteps.{texts_end}
use Rattle.windowed_search.proofs.memory_texts.MemoryTexts.end.Goals as goal

pub returns : goal.returns
returns c space so_far none = texts_end space c.args.self _ so_far c.args.self.some c.args.self.fits none c.in_ok-close.ensures.found c.in_ok-close.ensures.bytes
