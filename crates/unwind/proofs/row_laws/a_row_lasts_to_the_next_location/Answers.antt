use Rattle.unwind.proofs.Lasting.{row_lasts}
use Rattle.unwind.proofs.row_laws.a_row_lasts_to_the_next_location.Goals as goal

pub returns : goal.returns
returns c = row_lasts
