use Rattle.backtrace.specs.AgreeLaws.{step_alike}
use Rattle.backtrace.specs.MemoryWords.{words_in}
use Rattle.memory_replies.specs.Backtrace.{words_of}
use Rattle.memory_replies.proofs.stack.is_settled.Goals as goal

pub returns : goal.returns
returns c says image front space is values =
    step_alike (words_of space) (words_in c.args.stack.first c.args.stack.bytes.now) c.args.before c.args.frame (c.is_link_known.ensures says image front space is values)
