-- Laws of the groups of cores.
use Rattle.std.specs.Prelude.{◌≡◌, ℕ, ◌+◌, ◌<◌, ◌≤◌, ◌==◌, Bool, true, ◌&&◌, List, Some, All, Contains, count_by, filter, is_none, length, map, sum_by}
use Rattle.crash_signatures.specs.Grouping.{IsGrouping}
use Rattle.crash_signatures.specs.Groups.{GroupSaid, home_of, is_home}
use Rattle.crash_signatures.specs.declared.groups.Core.{Core}

-- how often a number stands in a group, with those that are perhaps of it
abbrev pub times_in : ℕ → GroupSaid → ℕ
times_in n g = count_by (λ k. k == n) g.cases + count_by (λ k. k == n) g.perhaps

-- A number stands in all groups together as often as among the cores. So each core is in one group, and there once.
abbrev pub EachCoreIsInOneGroup : Type 0
EachCoreIsInOneGroup = (cores : List Core) (groups : List GroupSaid) → IsGrouping cores groups
    → (n : ℕ) → sum_by (times_in n) groups ≡ count_by (λ c. c.number == n) cores

-- a core without a home, of this signature
abbrev pub is_certainly : List Core → ℕ → Core → Bool
is_certainly cores signature c = is_none (home_of cores c) && c.signature == signature

-- The cases of a group are the cores without a home that have its signature, all of them, and no two groups have one signature. So
-- two of these cores are in one group if they have the same signature, and only then. Each group has such a core.
pub record AreBySignature (cores : List Core) (groups : List GroupSaid) : Type 0 where
  pub cases : All (λ g. g.cases ≡ map (λ c. c.number) (filter (is_certainly cores g.signature) cores)) groups
  pub once : (signature : ℕ) → count_by (λ g. signature == g.signature) groups ≤ 1
  pub some : All (λ g. 0 < length g.cases) groups

abbrev pub SameGroupIffSameSignature : Type 0
SameGroupIffSameSignature = (cores : List Core) (groups : List GroupSaid) → IsGrouping cores groups → AreBySignature cores groups

-- A core of which frames are missing, and its home: cores of its place whose frames are all there. There are such, and all of them
-- have this signature.
pub record HasOneHome (cores : List Core) (signature number : ℕ) : Type 0 where
  pub core : Core
  pub among : Contains cores core
  pub number_is : core.number ≡ number
  pub missing : core.is_missing ≡ true
  pub place : ℕ
  pub at : core.place ≡ Some place
  pub home : Core
  pub home_among : Contains cores home
  pub home_is : is_home place home ≡ true
  pub signed : home.signature ≡ signature
  pub sole : (other : Core) → Contains cores other → is_home place other ≡ true → other.signature ≡ signature

-- each case that is perhaps of a group has its one home there
abbrev pub PerhapsHasOneHome : Type 0
PerhapsHasOneHome = (cores : List Core) (groups : List GroupSaid) → IsGrouping cores groups
    → All (λ g. All (HasOneHome cores g.signature) g.perhaps) groups
