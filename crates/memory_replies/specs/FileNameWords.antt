-- The meaning of the code's names of mapped files.
use Rattle.std.specs.Prelude.{◌≡◌, ℕ, Bool, List}
use Rattle.std.specs.Borrow.{Bor}
use Rattle.std.specs.BTreeSet.{BTreeSet, contains_by}
use Rattle.std.specs.Cmp.Lexicographic.{slice_cmp}
use Rattle.std.specs.Ordering.{nat_cmp}
use Rattle.memory_replies.specs.Memory.{is_mapped}
use Rattle.memory_replies.specs.declared.file_names.FileNames.{FileNames}

-- whether it is one of these
abbrev pub is_in : BTreeSet (Bor (List ℕ)) → List ℕ → Bool
is_in names name = contains_by (λ k. slice_cmp nat_cmp name k.now) names

abbrev pub is_among : FileNames → List ℕ → Bool
is_among s name = is_in s.names name

-- they are the names of the mapped files of a core
abbrev pub AreNamesOf : List ℕ → FileNames → Type 0
AreNamesOf b s = (name : List ℕ) → is_among s name ≡ is_mapped b name
