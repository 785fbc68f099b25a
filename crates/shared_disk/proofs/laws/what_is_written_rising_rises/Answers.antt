use Rattle.shared_disk.specs.RisingLaws.{marked}
use Rattle.shared_disk.proofs.laws.what_is_written_rising_rises.Goals as goal

pub returns : goal.returns
returns c = marked
