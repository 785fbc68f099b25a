use Rattle.inspector_cli.proofs.KeptLemmas.{lasts_of}
use Rattle.inspector_cli.proofs.StageLemmas.{laws_of}
use Rattle.inspector_cli.proofs.StoreHeadLemmas.{stores_safe}
use Rattle.inspector_cli.proofs.laws.a_store_is_crash_safe.Goals as goal

pub returns : goal.returns
returns g c =
    let k = c.what_calls_leave.ensures in
    let l = c.calls_lead_from_mark_to_mark.ensures in
    stores_safe g.D.Disk (lasts_of g.D.Disk k.finish k.delete k.pin k.label k.upgrade k.retire k.refusals) (laws_of g.D.Disk l.stays l.finish l.delete l.pin l.label l.upgrade l.retire)
    c.found_after_a_stop.ensures c.nothing_else_is_left.ensures g.met.D.Disk.seen_may_stay
