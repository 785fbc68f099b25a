use Rattle.case_queries.specs.Executables.{is_executable_case}
use Rattle.case_queries.proofs.CollectLemmas.{picked_more}
use Rattle.case_queries.proofs.executable_cases.executables_among.Goals as goal

pub loop-entry-preserved : goal.loop-entry-preserved
loop-entry-preserved c =
    picked_more is_executable_case c.args.entries.now c.loop-entry.entry-index c.entry-item.result _ _ c.loop-entry-test.true c.entry-item.is c.loop-entry.invariant c.in_ok-add_executable.ensures
