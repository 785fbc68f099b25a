use Rattle.std.proofs.Common.{ap, ◌∙◌}
use Rattle.symbols.proofs.Naming.{named_permuted}
use Rattle.symbols.specs.Covering.{named}
use Rattle.symbols.proofs.names.Symbols.covering.Goals as goal

pub returns : goal.returns
returns c =
    let s = c.args.self.now in
    c.named.ensures ∙ ap (named c.args.address) c.deref.ensures.value ∙ named_permuted s.entries.now s.functions.items s.whole c.args.address
