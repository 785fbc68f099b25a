-- The meaning of the code's answers to lines about builds.
use Rattle.std.specs.Prelude.{◌≡◌, ℕ, not, if◌then◌else◌, List, [], ◌∷◌, ◌++◌, map, Option, None, Some}
use Rattle.build_replies.specs.Builds.{BuildsAsking, NamedBuild, NumberedName, compares, id_in, uses, wants}
use Rattle.build_replies.specs.NameWords.{is_one_of}
use Rattle.build_replies.specs.declared.builds.BuildsAsked.{BuildsAsked}
use Rattle.build_replies.specs.declared.builds.BuildsAsked.TheVariants as asked
use Rattle.build_replies.specs.declared.used.NumberedCase.{NumberedCase}
use Rattle.build_replies.specs.declared.wanted.WantedBuild.{WantedBuild}

abbrev pub numbered_view : NumberedCase → NumberedName
numbered_view c = (c.number, c.name.now)

abbrev pub wanted_view : WantedBuild → NamedBuild
wanted_view w = (w.name.now, w.id.now)

abbrev pub asking_view : BuildsAsked → BuildsAsking
asking_view asked.Compared = compares
asking_view (asked.Used cases) = uses (map numbered_view cases.now)
asking_view asked.Wanted = wants

-- one more, if none of them has its ID
abbrev pub with_build : List NamedBuild → Option NamedBuild → List NamedBuild
with_build ws None = ws
with_build ws (Some w) = if not (is_one_of (map id_in ws) w.1) then ws ++ w ∷ [] else ws

-- these IDs were theirs, and are
abbrev pub AddsBuild : List (List ℕ) → List NamedBuild → Option NamedBuild → List (List ℕ) → List NamedBuild → Type 0
AddsBuild ids ws w more after = ids ≡ map id_in ws → (more ≡ map id_in after) × (after ≡ with_build ws w)
