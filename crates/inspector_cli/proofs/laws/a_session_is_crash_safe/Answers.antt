use Rattle.inspector_cli.proofs.HeadlineLemmas.{sessions_safe}
use Rattle.inspector_cli.proofs.KeptLemmas.{lasts_of}
use Rattle.inspector_cli.proofs.laws.a_session_is_crash_safe.Goals as goal

pub returns : goal.returns
returns g c =
    let k = c.what_calls_leave.ensures in
    sessions_safe g.D.Disk (lasts_of g.D.Disk k.finish k.delete k.pin k.label k.upgrade k.retire k.refusals) g.met.D.Disk.seen_may_stay g.met.D.Disk.only_now g.met.D.Disk.counts_now c.nothing_else_is_left.ensures c.sessions_are_runs.ensures.whole c.sessions_are_runs.ensures.front
