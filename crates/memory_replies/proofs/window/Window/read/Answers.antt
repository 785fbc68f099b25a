use Rattle.memory_replies.proofs.WindowLemmas.{read_is}
use Rattle.memory_replies.proofs.window.Window.read.Goals as goal

pub returns : goal.returns
returns c image is low high = read_is image c.args.self.now.at c.args.self.now.bytes.now c.args.offset c.args.count c.part.result.now is low high (rw c.saturating_sub.ensures at c.part.ensures)
