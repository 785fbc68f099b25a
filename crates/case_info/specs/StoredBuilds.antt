-- The builds that are still wanted once an executable is stored by its build.
use Rattle.std.specs.Prelude.{◌≡◌, ◌&&◌, not, ℕ, true, List, None, Some}
use Rattle.std.specs.Str.{bytes_eq}
use Rattle.address_space.specs.Source.{ExecutableView}
use Rattle.build_ids.specs.BuildName.{build_name, has_name}
use Rattle.build_replies.specs.Builds.{NamedBuild}
use Rattle.build_replies.specs.ByBuild.{agrees, stored_as}
use Rattle.case_info.specs.Wants.{has_id}

-- It is no debug file, has that ID, and is stored under the name of that build, which no other has.
pub record IsStoredByBuild (stored : List ExecutableView) (id : List ℕ) (x : ExecutableView) : Type 0 where
  pub can : has_name id ≡ true
  pub name : x.path ≡ build_name id
  pub is : agrees (Some id) x.image ≡ true
  pub free : stored_as stored (build_name id) ≡ None

-- That ID is wanted no more, and each other as before.
abbrev pub WantsOthers : List ℕ → List NamedBuild → List NamedBuild → Type 0
WantsOthers id before after = (other : List ℕ) → has_id after other ≡ (not (bytes_eq id other) && has_id before other)
