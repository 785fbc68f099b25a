-- The meaning of the code's choice of executables.
use Rattle.std.specs.Prelude.{ℕ, List, [], ◌++◌, map, Option}
use Rattle.address_space.specs.Source.{ExecutableView}
use Rattle.address_space.specs.SpaceWords.{attached_view}
use Rattle.build_replies.specs.Choosing.{Choice}
use Rattle.build_replies.specs.ByBuild.{Chosen, by_build, by_path, debug_by, none, other, others_by, used_by}
use Rattle.build_replies.specs.declared.choosing.ChosenFile.{ChosenFile}
use Rattle.build_replies.specs.declared.choosing.ChosenFile.TheVariants as code
use Rattle.build_replies.specs.declared.choosing.ChosenExecutables.{ChosenExecutables}

abbrev pub chosen_view : ChosenFile → Chosen
chosen_view (code.ByBuild x) = by_build (attached_view x)
chosen_view (code.ByPath x) = by_path (attached_view x)
chosen_view (code.Other x) = other (attached_view x)
chosen_view code.Nothing = none

abbrev pub choice_view : ChosenExecutables → Choice
choice_view c = record { used = map attached_view c.used.items; others = map attached_view c.others.items; debugs = map attached_view c.debugs.items }

-- none yet, and one more
abbrev pub no_choice : Choice
no_choice = record { used = []; others = []; debugs = [] }

abbrev pub with_chosen : List ℕ → Chosen → Choice → Choice
with_chosen path k c = record { used = c.used ++ used_by path k; others = c.others ++ others_by path k; debugs = c.debugs }

-- and one debug file more, if there is one
abbrev pub with_debug : List ℕ → Option ExecutableView → Choice → Choice
with_debug path d c = record { used = c.used; others = c.others; debugs = c.debugs ++ debug_by path d }
