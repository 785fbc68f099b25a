use Rattle.std.proofs.Common.{map}
use Rattle.std.proofs.lemmas.Result.{IfOk-weaker}
use Rattle.command_words.proofs.given.Given.read.Goals as goal

pub returns : goal.returns
returns c = IfOk-weaker c.read_by.result _ _ (λ given said. (
  map (λ command. command.now) c.commands.result,
  record {
    simple = c.commands.ensures;
    said = said.said c.commands.ensures;
    several = said.several;
  },
)) c.read_by.ensures.said
