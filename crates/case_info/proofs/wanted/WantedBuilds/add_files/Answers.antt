use Rattle.case_info.specs.WantWords.{builds_in}
use Rattle.case_info.proofs.WantLemmas.{all_none, next_all}
use Rattle.case_info.proofs.wanted.WantedBuilds.add_files.Goals as goal

pub loop-file-init : goal.loop-file-init
loop-file-init c = all_none (builds_in c.args.self.now)

pub loop-file-preserved : goal.loop-file-preserved
loop-file-preserved c =
    next_all (builds_in c.args.self.now) (builds_in c.loop-file.self) (builds_in c.add.new.self) c.args.files.now c.loop-file.file-index c.file-item.result _ c.loop-file-test.true c.file-item.is c.loop-file.invariant c.wanted_of.ensures c.in_ok-add.ensures
