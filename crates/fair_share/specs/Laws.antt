-- Laws of the core that goes if users share an archive fairly.
use Rattle.std.specs.Prelude.{◌≡◌, ◌≤◌, List, [], ◌∷◌, Some}
use Rattle.std.specs.List.{AllByRecursion}
use Rattle.journal_layout.specs.Case.{Case}
use Rattle.fair_share.specs.Owners.{program_of, user_of}
use Rattle.fair_share.specs.Fairness.{cores_of, fairest, weight}
use Rattle.fair_share.specs.declared.choosing.Scope.TheVariants.{All, User, Program}

-- No unpinned core is of a user whose unpinned cores have more blocks.
abbrev pub NoUserHasMore : Type 0
NoUserHasMore = (cases : List Case) (c : Case) → fairest cases ≡ Some c
    → AllByRecursion (λ d. weight User cases d ≤ weight User cases c) (cores_of All [] cases)

-- No unpinned core of this user is of a program whose unpinned cores have more blocks.
abbrev pub NoProgramHasMore : Type 0
NoProgramHasMore = (cases : List Case) (c : Case) → fairest cases ≡ Some c
    → AllByRecursion (λ d. weight Program cases d ≤ weight Program cases c) (cores_of User (user_of c.origin.name) cases)

-- The first unpinned core of a program, which differs from the others, goes only if there are no others.
abbrev pub TheFirstStays : Type 0
TheFirstStays = (cases : List Case) (c : Case) (rest : List Case) → fairest cases ≡ Some c
    → cores_of Program (program_of c.origin.name) cases ≡ c ∷ rest → AllByRecursion (λ d. d ≡ c → ⊥) rest → rest ≡ []
