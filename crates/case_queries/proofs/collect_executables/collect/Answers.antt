use Rattle.std.proofs.Common.{map}
use Rattle.case_queries.specs.CollectingWords.{wanted_view}
use Rattle.case_queries.proofs.AgainLemmas.{stay_if}
use Rattle.case_queries.proofs.collect_executables.collect.Goals as goal

pub returns-clause-kept : goal.returns-clause-kept
returns-clause-kept g c =
    let new = c.kept_or_read.new.archive in
    stay_if g.D.Disk new (g.met.D.Disk.only_now new.disk) c.args.archive.now (map wanted_view c.deref.result.now) c.kept_or_read.result c.kept_or_read.ensures.are c.kept_or_read.ensures.collects
