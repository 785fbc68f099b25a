-- How many spare cases are dropped, and the cases that are left then.
use Rattle.std.specs.Prelude.{◌≡◌, ℕ, ◌<◌, ◌≤◌, Bool, true, false, not, List, ◌∷◌, length, sum_by, if◌then◌else◌}
use Rattle.retention.specs.declared.Brief.{Brief}
use Rattle.retention.specs.declared.Policy.{Policy}
use Rattle.retention.specs.declared.rule.Totals.{Totals}
use Rattle.retention.specs.Rule.{bytes_in, spare_count, goes, holds_after}

-- the number of the cases, and of their bytes
pub record TotalsAre (totals : Totals) (cases : List Brief) : Type 0 where
  pub count_is : totals.count ≡ length cases
  pub bytes_is : totals.bytes ≡ sum_by bytes_in cases

-- one case and its bytes, or nothing
abbrev pub weight_if : Bool → Brief → Totals
weight_if true case = record { count = 1; bytes = case.length }
weight_if false case = record { count = 0; bytes = 0 }

-- how many of the spare cases the rule drops, and whether no number of them meets the limits
pub record AreToGo (policy : Policy) (cases : List Brief) (count : ℕ) (unmet : Bool) : Type 0 where
  pub within : count ≤ spare_count policy cases
  pub fewer_fail : (n : ℕ) → n < count → holds_after policy cases n ≡ false
  pub unmet_is : unmet ≡ not (holds_after policy cases count)
  pub all_where_unmet : unmet ≡ true → count ≡ spare_count policy cases

-- given n spare cases still to drop: whether the first case is dropped, and how many spare ones are still to drop after it
abbrev pub GoesOn : Policy → ℕ → Brief → Bool → ℕ → Type 0
GoesOn policy n case first after =
    (others : List Brief) → goes policy n (case ∷ others)
    ≡ (if first then case ∷ goes policy after others else goes policy after others)
