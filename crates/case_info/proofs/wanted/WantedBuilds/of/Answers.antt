use Rattle.std.proofs.Common.{[], map, ap, sym, ◌∙◌}
use Rattle.case_info.specs.Gathering.{file_view}
use Rattle.case_info.specs.WantWords.{builds_in}
use Rattle.case_info.specs.Wants.{with_all}
use Rattle.case_info.proofs.WantLemmas.{cores_none, next_core}
use Rattle.case_info.proofs.wanted.WantedBuilds.of.Goals as goal

pub loop-files-init : goal.loop-files-init
loop-files-init c = c.new-wanted.ensures ∙ cores_none []

pub loop-files-preserved : goal.loop-files-preserved
loop-files-preserved c =
    next_core [] (builds_in c.loop-files.wanted) (builds_in c.add_files.new.self) c.args.cores.now c.loop-files.files-index c.files-item.result c.loop-files-test.true c.files-item.is c.loop-files.invariant
    (c.in_ok-add_files.ensures ∙ ap (λ fs. with_all (builds_in c.loop-files.wanted) (map file_view fs)) c.deref.ensures.value)
