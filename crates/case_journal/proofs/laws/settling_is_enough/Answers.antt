use Rattle.case_journal.proofs.EnoughLemmas.{enough, one_before}
use Rattle.case_journal.proofs.laws.settling_is_enough.Goals as goal

pub returns-clause-enough : goal.returns-clause-enough
returns-clause-enough c b device new s last found stands ends finds long differs same again =
    enough b device new s last found stands ends finds long differs same again

pub returns-clause-moments : goal.returns-clause-moments
returns-clause-moments c b device left s t last stands other shape long size differs each = one_before b device left s t last stands other shape long size each differs
