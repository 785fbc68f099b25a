use Rattle.elf_view.proofs.NulPlaces.{before_found, before_none}
use Rattle.elf_view.proofs.numbers.text_before_nul.Goals as goal

pub returns-in-Some : goal.returns-in-Some
returns-in-Some c = before_found 0 c.args.bytes.now c.in-Some.end c.in-Some.ensures

pub returns-in-None : goal.returns-in-None
returns-in-None c = before_none 0 c.args.bytes.now c.in-None.ensures
