use Rattle.shared_disk.specs.Looks.{shared_of}
use Rattle.case_info.proofs.UnpackLemmas.{own_number}
use Rattle.case_info.proofs.unpacking.unpacking_of.Goals as goal

pub returns : goal.returns
returns g c = own_number g.S.SharedDisk _ (shared_of c.args.looked) c.in_ok-seq.seq c.in_ok-unpacking_looked.field-0 c.in_ok-unpacking_looked.ensures
