use Rattle.std.proofs.Common.{Ok}
use Rattle.case_listing.specs.Having.{FindsWanted}
use Rattle.case_listing.proofs.HavingLemmas.{with_new}
use Rattle.case_listing.proofs.having.numbers_with.Goals as goal

pub returns-in-Ok : goal.returns-in-Ok
returns-in-Ok g c = (
  Ok c.in-Ok.archive,
  c.in-Ok.ensures,
  with_new (λ found new. FindsWanted g.D.Disk c.in-Ok.archive c.args.wanted.now c.args.sought.now found.items new) c.numbers_in.new.archive c.numbers_in.result c.numbers_in.ensures,
)
