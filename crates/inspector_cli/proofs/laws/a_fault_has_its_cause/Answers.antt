use Rattle.inspector_cli.proofs.CauseLemmas.{read_failed, reads_were_many, write_failed}
use Rattle.inspector_cli.proofs.laws.a_fault_has_its_cause.Goals as goal

pub returns-clause-read : goal.returns-clause-read
returns-clause-read g c = read_failed g.D.Disk

pub returns-clause-reads : goal.returns-clause-reads
returns-clause-reads g c = reads_were_many g.D.Disk

pub returns-clause-write : goal.returns-clause-write
returns-clause-write g c = write_failed g.D.Disk
