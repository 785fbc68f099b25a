use Rattle.std.proofs.Common.{subst, sym}
use Rattle.case_tables.specs.Filters.{StartsDay}
use Rattle.case_tables.specs.declared.zones.Zone.{Zone}
use Rattle.case_tables.proofs.ZoneLemmas.{starts_day}
use Rattle.case_tables.proofs.zones.Zone.day_start.Goals as goal

pub returns-in_ok-date_at-in-Local : goal.returns-in_ok-date_at-in-Local
returns-in_ok-date_at-in-Local c =
    subst (λ (z : Zone). StartsDay z c.args.time c.midnight.result) (sym c.in-Local.is)
    (starts_day c.in-Local.zone c.args.time c.in_ok-date_at-in-Local.field-0 c.in_ok-date_at-in-Local.ensures c.midnight.result c.midnight.ensures)
