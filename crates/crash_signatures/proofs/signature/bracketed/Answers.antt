use Rattle.std.proofs.Common.{ℕ, List, true, codes, ap}
use Rattle.crash_signatures.specs.Words.{WordSaid}
use Rattle.crash_signatures.proofs.TextLemmas.{joins_more}
use Rattle.crash_signatures.proofs.signature.bracketed.Goals as goal

pub returns : goal.returns
returns c =
    let marked : List ℕ → WordSaid = λ t. record { text = t; is_mark = true } in
    ap marked (joins_more (codes "<") c.args.name.now (codes ">") c.joined-text.result.items c.add.new.text.items c.joined-text.ensures c.add.ensures)
