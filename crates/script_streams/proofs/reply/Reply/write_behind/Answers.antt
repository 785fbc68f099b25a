use Rattle.std.proofs.Common.{◌++◌, sym, ap, refl}
use Rattle.script_streams.proofs.PrintingLemmas.{told_on}
use Rattle.script_streams.proofs.reply.Reply.write_behind.Goals as goal

pub returns : goal.returns
returns g c = told_on _ _ c.args.text.now c.args.text.now (sym (ap (λ held. held ++ c.args.text.now) c.requires)) c.pass_on-self.ensures c.requires refl
