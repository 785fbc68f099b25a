use Rattle.std.proofs.Common.{ℕ, List, Result, subst}
use Rattle.inspector_cli.specs.Life.{LifeEnds, StoresOver}
use Rattle.inspector_cli.specs.Session.{streams_of}
use Rattle.inspector_cli.specs.Storing.{options_asked}
use Rattle.intake.specs.State.{StreamFacts}
use Rattle.archive_files.proofs.storing.store_retiring_first.Goals as goal

pub returns : goal.returns
returns g c = (
  c.open_and_store-ended.result.0,
  subst
      (λ (f : Result StreamFacts (List ℕ)). LifeEnds g.D.Disk c.args.request.limit (streams_of g.I.Input g.O.Output c.args.file.now c.open_and_store-ended.new.file c.args.output.now c.open_and_store-ended.new.output) c.args.disk
      c.open_and_store-ended.result.0 c.open_and_store-ended.result.1
      (StoresOver g.D.Disk c.args.request.policy f (options_asked c.args.request.options) (streams_of g.I.Input g.O.Output c.args.file.now c.open_and_store-ended.new.file c.args.output.now c.open_and_store-ended.new.output)))
      c.within_limit-found.ensures c.open_and_store-ended.ensures.crash_safe,
  c.store_told.ensures,
)
