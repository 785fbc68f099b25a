-- The meaning of the code's wanted builds.
use Rattle.std.specs.Prelude.{List, map}
use Rattle.build_replies.specs.Builds.{NamedBuild}
use Rattle.build_replies.specs.BuildsWords.{wanted_view}
use Rattle.case_info.specs.declared.wanted.WantedBuilds.{WantedBuilds}

abbrev pub builds_in : WantedBuilds → List NamedBuild
builds_in w = map wanted_view w.builds.items
