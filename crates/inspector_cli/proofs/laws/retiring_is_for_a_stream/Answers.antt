use Rattle.inspector_cli.proofs.RetiredLemmas.{retires_nothing_unasked, retires_for_a_stream_alone, retires_unless_refused}
use Rattle.inspector_cli.proofs.laws.retiring_is_for_a_stream.Goals as goal

pub returns-clause-begun : goal.returns-clause-begun
returns-clause-begun g c = retires_for_a_stream_alone g.D.Disk

pub returns-clause-left_out : goal.returns-clause-left_out
returns-clause-left_out g c = retires_unless_refused g.D.Disk

pub returns-clause-unasked : goal.returns-clause-unasked
returns-clause-unasked g c = retires_nothing_unasked g.D.Disk
