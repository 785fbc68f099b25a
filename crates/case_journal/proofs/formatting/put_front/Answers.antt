use Rattle.std.proofs.Common.{◌≡◌, ◌++◌, ap, List, ℕ}
use Rattle.case_journal.proofs.formatting.put_front.Goals as goal

put_before : (rest head new : List ℕ) → new ≡ head → new ++ rest ≡ head ++ rest
put_before rest head new is = ap (λ (l : List ℕ). l ++ rest) is

pub returns : goal.returns
returns c = put_before _ _ _ c.copy_from_slice.ensures.after
