use Rattle.std.proofs.Common.{rules}
use Rattle.clap.proofs.WalkLemmas.{raw_values-rows}
use Rattle.command_words.proofs.given.given_in.Goals as goal

pub returns : goal.returns
returns c = record {
  said = c.named_in-found.ensures;
  several = search (rules, raw_values-rows);
}
