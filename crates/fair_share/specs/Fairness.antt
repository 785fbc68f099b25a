-- Which core goes if users share an archive fairly: one of the user whose cores have the most blocks.
use Rattle.std.specs.Prelude.{ℕ, zero, suc, ◌-◌, Bool, true, false, not, ◌&&◌, nat_lt, List, [], ◌∷◌, length, sum_by, Option, None, Some, if◌then◌else◌}
use Rattle.std.specs.List.{best_of, filter}
use Rattle.std.specs.Str.{bytes_eq}
use Rattle.journal_layout.specs.Case.{Case, case_of}
use Rattle.journal_layout.specs.Soundness.{blocks_for}
use Rattle.journal_layout.specs.declared.entry.Entry.{Entry}
use Rattle.journal_layout.specs.declared.entry.Kind.{Kind}
use Rattle.journal_layout.specs.declared.entry.Kind.TheVariants.{Core, Exec}
use Rattle.fair_share.specs.Owners.{program_of, user_of}
use Rattle.fair_share.specs.declared.choosing.Scope.{Scope}
use Rattle.fair_share.specs.declared.choosing.Scope.TheVariants.{All, User, Program}

abbrev pub is_core : Kind → Bool
is_core Core = true
is_core Exec = false

-- a core that is not pinned
abbrev pub may_go_first : Case → Bool
may_go_first c = not c.pinned && is_core c.origin.kind

-- whose a name is: everybody's, its user's, or its program's
abbrev pub owner_of : Scope → List ℕ → List ℕ
owner_of All name = []
owner_of User name = user_of name
owner_of Program name = program_of name

-- a core of this owner that is not pinned
abbrev pub is_of : Scope → List ℕ → Case → Bool
is_of scope owner c = may_go_first c && bytes_eq (owner_of scope c.origin.name) owner

abbrev pub is_entry_of : Scope → List ℕ → Entry → Bool
is_entry_of scope owner e = is_of scope owner (case_of e)

-- the cores of this owner that are not pinned, in the order of their numbers
abbrev pub cores_of : Scope → List ℕ → List Case → List Case
cores_of scope owner cases = filter (is_of scope owner) cases

-- the blocks of a case
abbrev pub size_of : Case → ℕ
size_of c = blocks_for c.len

-- the blocks of all unpinned cores of this owner
abbrev pub blocks_of : Scope → List ℕ → List Case → ℕ
blocks_of scope owner cases = sum_by size_of (cores_of scope owner cases)

-- the blocks of all unpinned cores that have the owner of this one
abbrev pub weight : Scope → List Case → Case → ℕ
weight scope cases c = blocks_of scope (owner_of scope c.origin.name) cases

-- the first of the heaviest
abbrev pub first_heaviest : (Case → ℕ) → List Case → Option Case
first_heaviest weigh [] = None
first_heaviest weigh (c ∷ cs) = Some (best_of (λ d best. nat_lt (weigh best) (weigh d)) c cs)

-- Of the cores of one owner the first whose user, or whose program, has the most blocks.
abbrev pub heaviest : Scope → List ℕ → Scope → List Case → Option Case
heaviest wide owner narrow cases = first_heaviest (weight narrow cases) (cores_of wide owner cases)

-- Which of n cores of one program goes, counted from 0: the last but one of three or more, and else the last.
abbrev pub place : ℕ → ℕ
place n = if nat_lt 2 n then n - 2 else n - 1

-- the case at this place
abbrev pub at_place : ℕ → List Case → Option Case
at_place k [] = None
at_place zero (c ∷ cs) = Some c
at_place (suc k) (c ∷ cs) = at_place k cs

-- Of the cores of one program all go but the first and the last, the one of the highest number first; then the last goes, and then the
-- first.
abbrev pub inner : List Case → Option Case
inner cores = at_place (place (length cores)) cores

abbrev pub of_program : Option Case → List Case → Option Case
of_program None cases = None
of_program (Some c) cases = inner (cores_of Program (program_of c.origin.name) cases)

abbrev pub of_user : Option Case → List Case → Option Case
of_user None cases = None
of_user (Some c) cases = of_program (heaviest User (user_of c.origin.name) Program cases) cases

-- The core that goes next: of the user whose unpinned cores have the most blocks, and of the program of that user's of which so it is, the
-- inner one. Of users, and of programs, that have equally many it is the one whose first core has the lowest number.
abbrev pub fairest : List Case → Option Case
fairest cases = of_user (heaviest All [] User cases) cases
