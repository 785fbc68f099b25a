use Rattle.inspector_cli.proofs.HeldLemmas.{opening_quiet}
use Rattle.inspector_cli.proofs.ToldLemmas.{session_told}
use Rattle.inspector_cli.proofs.KeptLemmas.{lasts_of}
use Rattle.inspector_cli.proofs.FoundLemmas.{has_parts, stored_found}
use Rattle.inspector_cli.proofs.stored.a_stored_case_is_found.Goals as goal

pub returns-clause-quiet : goal.returns-clause-quiet
returns-clause-quiet g c limit before a call slot = opening_quiet limit a call.state slot

pub returns-clause-told : goal.returns-clause-told
returns-clause-told g c naming read out old stages end new answers closes = session_told g.D.Disk naming read out old stages end new answers closes

pub returns-clause-parts : goal.returns-clause-parts
returns-clause-parts g c s n honest had fresh t =
    let l = c.what_calls_leave.ensures in has_parts g.D.Disk (lasts_of g.D.Disk l.finish l.delete l.pin l.label l.upgrade l.retire l.refusals) s n honest had fresh t

pub returns-clause-found : goal.returns-clause-found
returns-clause-found g c s later l ls n bytes t had fresh spares are is answered spared lived =
    let k = c.what_calls_leave.ensures in
    stored_found g.D.Disk (lasts_of g.D.Disk k.finish k.delete k.pin k.label k.upgrade k.retire k.refusals) c.found_after_a_stop.ensures c.what_stands_is_one.ensures c.kept_over_many_stops.ensures.many s later l ls n bytes t had fresh spares are is answered spared lived
