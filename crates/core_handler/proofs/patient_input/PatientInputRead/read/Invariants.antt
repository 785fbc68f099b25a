use Rattle.std.specs.Io.KnownBytes.{Keeps}
use Rattle.core_handler.proofs.patient_input.PatientInputRead.read.Given as goal

-- nothing was taken so far
abbrev pub invariant-loop : goal.invariant-loop
invariant-loop g l = Keeps (g.I.Read.remaining l.initial.self.reader.now) (g.I.Read.remaining l.self.reader.now)
