use Rattle.std.proofs.Common.{IfSome, Option, ℕ, subst, sym, w64, FitsSigned, to_z-of_z}
use Rattle.case_tables.specs.Zones.{IsMidnight}
use Rattle.case_tables.proofs.ZoneLemmas.{midnight_of}
use Rattle.case_tables.proofs.zones.midnight.Goals as goal

pub returns-in-Ok : goal.returns-in-Ok
returns-in-Ok c =
    let is = rw c.in-Ok.is at c.to_zoned.ensures in
    let fits : FitsSigned w64 c.as_second.result = record { sfits = c.as_second.type_inv } in
    let at = rw c.timestamp.ensures at c.as_second.ensures in
    let whole = rw (to_z-of_z fits) at c.try_from.ensures in
    subst (λ (o : Option ℕ). IfSome o (IsMidnight c.args.zone c.args.date)) (sym c.ok.ensures.value)
    (midnight_of c.args.zone c.args.date c.in-Ok.start c.try_from.result c.as_second.result is at whole)
