use Rattle.salvage.proofs.ShutLemmas.{byte_read}
use Rattle.salvage.proofs.shut.read_byte.Goals as goal

pub returns : goal.returns
returns g c = λ honest. byte_read (g.S.Source.seen c.args.source.now) c.read_at.new.into c.args.place (c.in-Ok.ensures.bytes honest)
