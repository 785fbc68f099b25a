use Rattle.std.proofs.Common.{sym, subst}
use Rattle.salvage.specs.Finding.{IsGateFound}
use Rattle.salvage.proofs.FindLemmas.{gate_decided, gate_refused}
use Rattle.salvage.proofs.finding.is_gate.Goals as goal

pub returns-in-Ok : goal.returns-in-Ok
returns-in-Ok g c = λ honest.
    gate_decided (g.S.Source.seen c.args.source.now) c.args.gate c.ends_at.result c.in-Ok.journal.standing c.ends_at.ensures (c.in-Ok.ensures.gives honest)

pub returns-in-Err : goal.returns-in-Err
returns-in-Err g c = λ honest.
    subst (IsGateFound (g.S.Source.seen c.args.source.now) c.args.gate) (sym c.not_found.ensures)
    (gate_refused (g.S.Source.seen c.args.source.now) c.args.gate c.in-Err.fault (c.in-Err.ensures.gives honest))
