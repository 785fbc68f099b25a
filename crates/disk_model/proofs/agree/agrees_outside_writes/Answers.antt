use Rattle.std.proofs.Common.{◌∙◌, ap, length, get_or, ℕ, List}
use Rattle.disk_model.specs.PartLaws.{place_spared}
use Rattle.disk_model.proofs.agree.agrees_outside_writes.Goals as goal

pub returns-clause-synced : goal.returns-clause-synced
returns-clause-synced g c = λ d bytes only l left. record {
  same_length = ap length (only l left);
  same = λ k outside. ap (λ (m : List ℕ). get_or m k 0) (only l left);
}

pub returns-clause-written : goal.returns-clause-written
returns-clause-written g c = λ old new bytes ranges at n agree follows l left.
    let from = follows l left in
    let before = agree from.0 from.1 in
    record {
      same_length = from.2.same_length ∙ before.same_length;
      same = λ k outside. place_spared at n from.0 l from.2 k 0 outside.0 ∙ before.same k outside.1;
    }

pub returns-clause-kept : goal.returns-clause-kept
returns-clause-kept g c = λ old new bytes ranges agree fewer l left. agree l (fewer l left)
