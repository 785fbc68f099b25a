use Rattle.std.proofs.Common.{subst, sym}
use Rattle.case_tables.specs.Filters.{StartsDayBefore}
use Rattle.case_tables.specs.declared.zones.Zone.{Zone}
use Rattle.case_tables.proofs.ZoneLemmas.{starts_before}
use Rattle.case_tables.proofs.zones.Zone.day_before.Goals as goal

pub returns-in-Ok : goal.returns-in-Ok
returns-in-Ok c =
    let earlier = rw c.in-Ok.is at c.yesterday.ensures.value in
    subst (λ (z : Zone). StartsDayBefore z c.args.time c.midnight.result) (sym c.in-Local.is)
    (starts_before c.in-Local.zone c.args.time c.in_ok-date_at-in-Local.field-0 c.in-Ok.before c.in_ok-date_at-in-Local.ensures earlier c.midnight.result c.midnight.ensures)
