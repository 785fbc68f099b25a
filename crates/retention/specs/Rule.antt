-- Which cases are dropped: all that are too old, and of the others the first ones, as few as bring the archive within its limits. Pinned cases stay, and count.
use Rattle.std.specs.Prelude.{◌≡◌, ℕ, zero, suc, ◌<◌, ◌≤◌, Bool, true, false, not, ◌&&◌, nat_lt, nat_le, List, [], ◌∷◌, length, map, filter, sum_by, Option, None, Some, if◌then◌else◌}
use Rattle.retention.specs.declared.Brief.{Brief}
use Rattle.retention.specs.declared.Policy.{Policy}

abbrev pub seq_of : Brief → ℕ
seq_of case = case.seq

abbrev pub bytes_in : Brief → ℕ
bytes_in case = case.length

abbrev pub is_pinned : Brief → Bool
is_pinned case = case.pinned

-- the time is before the limit, if there is one
abbrev pub is_before : ℕ → Option ℕ → Bool
is_before time None = false
is_before time (Some limit) = nat_lt time limit

-- an unpinned case from before the policy's time is dropped, whatever the other limits
abbrev pub is_old : Policy → Brief → Bool
is_old policy case = not case.pinned && is_before case.time policy.before

-- another unpinned case is dropped only for the other limits
abbrev pub is_spare : Policy → Brief → Bool
is_spare policy case = not case.pinned && not (is_before case.time policy.before)

-- how many of those there are
abbrev pub spare_count : Policy → List Brief → ℕ
spare_count policy cases = length (filter (is_spare policy) cases)

-- the cases that are dropped if the first n of those are
abbrev pub goes : Policy → ℕ → List Brief → List Brief
goes policy n [] = []
goes policy zero (c ∷ cs) = if is_old policy c then c ∷ goes policy zero cs else goes policy zero cs
goes policy (suc n) (c ∷ cs) =
    if is_old policy c then c ∷ goes policy (suc n) cs
    else (if is_spare policy c then c ∷ goes policy n cs
    else goes policy (suc n) cs)

-- the cases that stay then
abbrev pub stays : Policy → ℕ → List Brief → List Brief
stays policy n [] = []
stays policy zero (c ∷ cs) = if is_old policy c then stays policy zero cs else c ∷ stays policy zero cs
stays policy (suc n) (c ∷ cs) =
    if is_old policy c then stays policy (suc n) cs
    else (if is_spare policy c then stays policy n cs
    else c ∷ stays policy (suc n) cs)

-- the number is within the limit, if there is one
abbrev pub is_within : ℕ → Option ℕ → Bool
is_within n None = true
is_within n (Some limit) = nat_le n limit

-- `count` cases of `bytes` bytes in all are within the policy's limits
abbrev pub meets : Policy → ℕ → ℕ → Bool
meets policy count bytes = is_within count policy.keep && is_within bytes policy.bytes

-- the limits hold of the cases that stay if the first n of the spare cases are dropped
abbrev pub holds_after : Policy → List Brief → ℕ → Bool
holds_after policy cases n = meets policy (length (stays policy n cases)) (sum_by bytes_in (stays policy n cases))

-- The cases that the rule drops: the old cases and the first `count` of the spare ones, for the least count after which the limits hold. If the
-- limits hold after no count, all spare ones are dropped, and the limits are not met.
pub record IsDecision (policy : Policy) (cases : List Brief) (dropped : List ℕ) (unmet : Bool) : Type 0 where
  pub count : ℕ
  pub within : count ≤ spare_count policy cases
  pub dropped_are : dropped ≡ map seq_of (goes policy count cases)
  pub fewer_fail : (n : ℕ) → n < count → holds_after policy cases n ≡ false
  pub unmet_is : unmet ≡ not (holds_after policy cases count)
  pub all_where_unmet : unmet ≡ true → count ≡ spare_count policy cases

-- Two decisions by one policy for the same cases drop the same.
abbrev pub IsOneDecision : Type 0
IsOneDecision = (policy : Policy) (cases : List Brief) (dropped dropped' : List ℕ) (unmet unmet' : Bool)
    → IsDecision policy cases dropped unmet → IsDecision policy cases dropped' unmet' → dropped ≡ dropped'
