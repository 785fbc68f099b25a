use Rattle.std.proofs.Common.{rules, tests, sym, ◌∙◌}
use Rattle.std.proofs.lemmas.Iterator.{YieldsList-from_slice}
use Rattle.std.proofs.lemmas.Iterator.Search.{any_from_yields_List}
use Rattle.case_unpacking.specs.PlaceViews.{place_said}
use Rattle.case_unpacking.specs.Places.{below_root, meet}
use Rattle.case_unpacking.proofs.PlaceLemmas.{any_mapped}
use Rattle.case_unpacking.proofs.places.is_met.Goals as goal

pub returns : goal.returns
returns c =
    any_from_yields_List (λ q. meet (below_root c.args.path.now) (place_said q)) _ _ _ c.any.ensures.ran (YieldsList-from_slice c.args.before.now cc) (λ x b q k. search (rules, tests))
    ∙ sym (any_mapped (meet (below_root c.args.path.now)) place_said c.args.before.now)
