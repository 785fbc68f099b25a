-- Laws of each prune.
use Rattle.std.specs.Prelude.{◌≡◌, ◌⊎◌, ◌≤◌, ℕ, Bool, true, false, not, ◌==◌, List, [], None, map, count_by, Contains}
use Rattle.std.specs.Bool.{Decides}
use Rattle.std.specs.List.{AllZip, filter}
use Rattle.std.specs.List.Sorted.{IsStrictlyIncreasing}
use Rattle.retention.specs.Rule.{IsDecision}
use Rattle.retention.specs.declared.Policy.{Policy}
use Rattle.pruning.specs.Cases.{core_briefs, cores_that_stay, is_among, is_core, mapped_by, names, needs, number}
use Rattle.pruning.specs.Lookups.{IsLookedUp, chosen, debug_file, stored_as}
use Rattle.pruning.specs.Pruning.{GoesBy, IsOfBuild, IsPruning}
use Rattle.pruning.specs.declared.cases.LiveCase.{LiveCase}
use Rattle.pruning.specs.declared.cases.MappedFile.{MappedFile}

-- the numbers of cases rise
abbrev pub AreInOrder : List LiveCase → Type 0
AreInOrder cases = IsStrictlyIncreasing (map number cases)

-- the cases that are left, in their order, once those of these numbers are dropped
abbrev pub left : List ℕ → List LiveCase → List LiveCase
left dropped cases = filter (λ c. not (is_among dropped (number c))) cases

-- Of a prune's numbers: there is one list of them, with no number twice, and in each of its two parts they rise. It has those cores that
-- the retention rule drops by the policy, and those executables and debug files that go if the other cores stay.
pub record IsExact (policy : Policy) (cases : List LiveCase) (dropped : List ℕ) (unmet : Bool) (p : IsPruning policy cases dropped unmet) : Type 0 where
  pub one : (dropped' : List ℕ) (unmet' : Bool) → IsPruning policy cases dropped' unmet' → (dropped ≡ dropped') × (unmet ≡ unmet')
  pub once : (n : ℕ) → count_by (λ m. m == n) dropped ≤ 1
  pub cores_rise : IsStrictlyIncreasing p.cores
  pub builds_rise : IsStrictlyIncreasing p.builds
  pub cores : (decided : List ℕ) (unmet' : Bool) → IsDecision policy (core_briefs cases) decided unmet'
      → (c : LiveCase) → Contains cases c → is_core c ≡ true → is_among dropped (number c) ≡ is_among decided (number c)
  pub builds : (c : LiveCase) → Contains cases c → is_core c ≡ false → Decides (is_among dropped (number c)) (GoesBy (cores_that_stay dropped cases) c)

abbrev pub PrunesExactly : Type 0
PrunesExactly = (policy : Policy) (cases : List LiveCase) (dropped : List ℕ) (unmet : Bool) → AreInOrder cases
    → (p : IsPruning policy cases dropped unmet) → IsExact policy cases dropped unmet p

-- each decision of the retention rule over the cores has this number
abbrev pub IsDecided : Policy → List LiveCase → ℕ → Type 0
IsDecided policy cases n = (decided : List ℕ) (unmet : Bool) → IsDecision policy (core_briefs cases) decided unmet → is_among decided n ≡ true

-- A number that goes is that of a case that is not pinned: a core that the retention rule drops, or an executable or a debug file that
-- has the name of a build.
pub record IsSparing (policy : Policy) (cases : List LiveCase) (n : ℕ) : Type 0 where
  pub case : LiveCase
  pub there : Contains cases case
  pub number_is : number case ≡ n
  pub unpinned : case.brief.pinned ≡ false
  pub either : ((is_core case ≡ true) × IsDecided policy cases n) ⊎ ((is_core case ≡ false) × IsOfBuild case.name.now)

-- Only such numbers go. Without a limit no core goes.
abbrev pub Spares : Type 0
Spares = (policy : Policy) (cases : List LiveCase) (dropped : List ℕ) (unmet : Bool) → AreInOrder cases → IsPruning policy cases dropped unmet
    → ((n : ℕ) → is_among dropped n ≡ true → IsSparing policy cases n)
    × (policy.keep ≡ None → policy.bytes ≡ None → policy.before ≡ None → (c : LiveCase) → Contains cases c → is_core c ≡ true → is_among dropped (number c) ≡ false)

-- A second prune by the same policy, over the cases that are left, drops nothing.
abbrev pub PruneIsDone : Type 0
PruneIsDone = (policy : Policy) (cases : List LiveCase) (dropped : List ℕ) (unmet : Bool) → AreInOrder cases → IsPruning policy cases dropped unmet
    → (again : List ℕ) (unmet' : Bool) → IsPruning policy (left dropped cases) again unmet' → (again ≡ []) × (unmet' ≡ unmet)

-- For a core that stays: each name that its lines may look up is that of the same case after the prune as before. So each file that it
-- maps has the same executable, and each build that it needs the same debug file.
pub record IsAsBefore (cases rest : List LiveCase) (c : LiveCase) : Type 0 where
  pub found : (name : List ℕ) → IsLookedUp c name → stored_as rest name ≡ stored_as cases name
  pub executable : (passes : LiveCase → Bool) (f : MappedFile) → Contains (mapped_by c) f → chosen passes rest f ≡ chosen passes cases f
  pub debug : (f : MappedFile) → Contains (mapped_by c) f → (debug_file rest f.told ≡ debug_file cases f.told) × (debug_file rest f.used ≡ debug_file cases f.used)

abbrev pub PruneChangesNoAnswer : Type 0
PruneChangesNoAnswer = (policy : Policy) (cases : List LiveCase) (dropped : List ℕ) (unmet : Bool) → AreInOrder cases → IsPruning policy cases dropped unmet
    → (c : LiveCase) → Contains (left dropped cases) c → is_core c ≡ true → IsAsBefore cases (left dropped cases) c

-- two views of one case: they are the same, but for the files of a core of these numbers
pub record IsSameCase (gone : List ℕ) (c d : LiveCase) : Type 0 where
  pub name : c.name.now ≡ d.name.now
  pub brief : c.brief ≡ d.brief
  pub kind : is_core c ≡ is_core d
  pub needs : is_among gone (number c) ≡ false → (id : List ℕ) → needs id c ≡ needs id d
  pub names : is_among gone (number c) ≡ false → (name : List ℕ) → names name c ≡ names name d

-- The files that dropped cores map do not count: a prune of some cases is one of the same cases in which they map other files.
abbrev pub CoresThatGoNeedNoFiles : Type 0
CoresThatGoNeedNoFiles = (policy : Policy) (cases : List LiveCase) (dropped : List ℕ) (unmet : Bool) → AreInOrder cases → IsPruning policy cases dropped unmet
    → (others : List LiveCase) → AllZip (IsSameCase dropped) cases others → IsPruning policy others dropped unmet
