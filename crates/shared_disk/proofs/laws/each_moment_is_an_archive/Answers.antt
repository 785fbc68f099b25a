use Rattle.shared_disk.specs.StandLaws.{each_moment_stands}
use Rattle.shared_disk.proofs.laws.each_moment_is_an_archive.Goals as goal

pub returns : goal.returns
returns c = each_moment_stands
