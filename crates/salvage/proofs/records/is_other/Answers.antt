use Rattle.std.proofs.Common.{◌∙◌, sym}
use Rattle.std.proofs.lemmas.Bool.{eq-eqb}
use Rattle.salvage.proofs.records.is_other.Goals as goal

pub returns-then-length-gt0-clause-each : goal.returns-then-length-gt0-clause-each
returns-then-length-gt0-clause-each c = λ size other.
    eq-eqb c.wanted.result c.head_length-length.result (c.wanted.ensures.each size other.1 ∙ sym (c.head_length-length.ensures.each size other.0))
