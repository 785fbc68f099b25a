-- How the heaviest core is found: of those so far, and of those that follow.
use Rattle.std.specs.Prelude.{◌≡◌, ℕ, nat_lt, List, ◌∷◌, Option, None, Some, if◌then◌else◌}
use Rattle.std.specs.List.{best_of}
use Rattle.journal_layout.specs.Case.{Case, case_of}
use Rattle.fair_share.specs.Fairness.{cores_of, first_heaviest, is_of, size_of, weight}
use Rattle.fair_share.specs.declared.choosing.Scope.{Scope}
use Rattle.fair_share.specs.declared.choosing.Weighed.{Weighed}

-- the blocks of a core, if it is of this owner
abbrev pub counted : Scope → List ℕ → Case → ℕ
counted scope owner c = if is_of scope owner c then size_of c else 0

-- the core that was weighed
abbrev pub core_of : Weighed → Case
core_of w = case_of w.core.now

abbrev pub best_core : Option Weighed → Option Case
best_core None = None
best_core (Some w) = Some (core_of w)

-- its weight is known
abbrev pub IsWeighed : Scope → List Case → Option Weighed → Type 0
IsWeighed scope cases None = Unit {0}
IsWeighed scope cases (Some w) = w.blocks ≡ weight scope cases (core_of w)

-- the heavier one of two; the first, if both are equally heavy
abbrev pub heavier : (Case → ℕ) → Option Case → Case → Case
heavier weigh None d = d
heavier weigh (Some best) d = if nat_lt (weigh best) (weigh d) then d else best

-- the heaviest of one core, if there is one, and of those that follow
abbrev pub best_from : (Case → ℕ) → Option Case → List Case → Option Case
best_from weigh None rest = first_heaviest weigh rest
best_from weigh (Some c) rest = Some (best_of (λ d best. nat_lt (weigh best) (weigh d)) c rest)

-- `new` counts the core c in addition to `old`: whichever cores follow, the heaviest of all is the same.
abbrev pub TakesUp : Scope → List ℕ → Scope → List Case → Option Weighed → Case → Option Weighed → Type 0
TakesUp wide owner narrow cases old c new = (rest : List Case)
    → best_from (weight narrow cases) (best_core old) (cores_of wide owner (c ∷ rest)) ≡ best_from (weight narrow cases) (best_core new) (cores_of wide owner rest)
