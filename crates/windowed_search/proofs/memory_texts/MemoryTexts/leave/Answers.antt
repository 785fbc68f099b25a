use Rattle.std.proofs.Common.{◌+◌, ap, arith}
use Rattle.windowed_search.proofs.TextSteps.{texts_left}
use Rattle.windowed_search.proofs.memory_texts.MemoryTexts.leave.Goals as goal

pub returns-clause-texts : goal.returns-clause-texts
returns-clause-texts c space so_far none =
    texts_left space c.args.self.now _ c.args.count so_far c.args.self.now.some (omega (arith, c.if-count-eq0.false)) c.requires.fits c.in_ok-close.ensures.least (ap (λ a. a + c.args.count) c.in_ok-close.ensures.address)
    c.in_ok-close.ensures.count c.in_ok-close.ensures.found c.in_ok-close.ensures.bytes none
