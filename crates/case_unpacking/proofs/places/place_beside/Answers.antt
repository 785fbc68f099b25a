use Rattle.std.proofs.Common.{map, option_map, sym, ap, ◌∙◌, Bor, List, ℕ}
use Rattle.case_unpacking.specs.PlaceViews.{file_said, place_said}
use Rattle.case_unpacking.proofs.PlaceLemmas.{beside_own}
use Rattle.case_unpacking.proofs.places.place_beside.Goals as goal

pub returns-in-Some : goal.returns-in-Some
returns-in-Some c =
    beside_own (map place_said c.args.before.now) (file_said c.args.file.now) c.in-Some.path.now
    (sym (ap (option_map (λ (r : Bor (List ℕ)). r.now)) c.in-Some.is) ∙ c.plain_path.ensures)
    (sym c.is_met.ensures ∙ c.if-not-is_met.true)
