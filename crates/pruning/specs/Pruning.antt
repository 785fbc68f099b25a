-- Which cases a prune drops.
use Rattle.std.specs.Prelude.{◌≡◌, ◌⊎◌, ◌<◌, ℕ, Bool, false, List, [], ◌∷◌, ◌++◌, All}
use Rattle.retention.specs.Rule.{IsDecision}
use Rattle.retention.specs.declared.Policy.{Policy}
use Rattle.build_ids.specs.BuildName.{IsNameOf}
use Rattle.pruning.specs.Cases.{core_briefs, cores_that_stay, is_core, named, needed, number}
use Rattle.pruning.specs.declared.cases.LiveCase.{LiveCase}

-- The name is that of the executable or of the debug file of a build (GDB, "Debugging Information in Separate Files"): a name with
-- upper-case digits, or with those of fewer than 2 or more than 55 bytes, is of none.
pub record IsOfBuild (name : List ℕ) : Type 0 where
  pub id : List ℕ
  pub bytes : All (λ c. c < 256) id
  pub named : IsNameOf id name

-- A case goes: it is an executable or a debug file and not pinned, its name is of a build, this build is not needed, and no mapped file
-- has its name.
pub record Goes (is_needed is_named : List ℕ → Bool) (c : LiveCase) : Type 0 where
  pub executable : is_core c ≡ false
  pub unpinned : c.brief.pinned ≡ false
  pub build : IsOfBuild c.name.now
  pub not_needed : is_needed build.id ≡ false
  pub not_named : is_named c.name.now ≡ false

-- the cases that go if these cores stay
abbrev pub GoesBy : List LiveCase → LiveCase → Type 0
GoesBy cores = Goes (needed cores) (named cores)

-- the numbers are those of the cases of which this holds, each once, in their order
abbrev pub ArePicked : (LiveCase → Type 0) → List LiveCase → List ℕ → Type 0
ArePicked P [] numbers = numbers ≡ []
ArePicked P (c ∷ cs) numbers =
    (P c × (rest : List ℕ) × (numbers ≡ number c ∷ rest) × ArePicked P cs rest) ⊎ ((P c → ⊥) × ArePicked P cs numbers)

-- The cases that a prune drops: the cores that the retention rule drops by the policy, over the cores alone; then the executables and debug
-- files that the other cores do not need.
pub record IsPruning (policy : Policy) (cases : List LiveCase) (dropped : List ℕ) (unmet : Bool) : Type 0 where
  pub cores : List ℕ
  pub builds : List ℕ
  pub dropped_are : dropped ≡ cores ++ builds
  pub decided : IsDecision policy (core_briefs cases) cores unmet
  pub picked : ArePicked (GoesBy (cores_that_stay cores cases)) cases builds
