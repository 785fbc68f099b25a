use Rattle.command_line.proofs.asked.read_words.Goals as goal

pub returns : goal.returns
returns c = (c.in_ok-given.given, c.in_ok-given.ensures, c.in_ok-asked_of.ensures, c.flag.ensures, c.flag-2.ensures)
