use Rattle.std.proofs.Common.{sym, subst}
use Rattle.salvage.specs.Shut.{EndsThere}
use Rattle.salvage.proofs.ShutLemmas.{ends_decided, ends_refused}
use Rattle.salvage.proofs.shut.ends_there.Goals as goal

pub returns-in-Ok : goal.returns-in-Ok
returns-in-Ok g c = λ honest.
    ends_decided (g.S.Source.seen c.args.source.now) c.args.gate c.args.used c.use_bytes.result c.in-Ok.journal.standing c.use_bytes.ensures (c.in-Ok.ensures.gives honest)

pub returns-in-Err : goal.returns-in-Err
returns-in-Err g c = λ honest.
    subst (EndsThere (g.S.Source.seen c.args.source.now) c.args.gate c.args.used) (sym c.not_found.ensures)
    (ends_refused (g.S.Source.seen c.args.source.now) c.args.gate c.args.used c.in-Err.fault (c.in-Err.ensures.gives honest))
