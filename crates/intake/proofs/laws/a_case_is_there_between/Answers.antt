use Rattle.intake.proofs.InTurnLemmas.{same_at_last, bytes_between}
use Rattle.intake.proofs.laws.a_case_is_there_between.Goals as goal

pub returns : goal.returns
returns c x ys first last numbers turn there found number =
    (same_at_last x ys first last numbers turn there found number, λ y shape bytes. bytes_between x ys first last numbers turn there found number y shape bytes)
