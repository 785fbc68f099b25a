use Rattle.std.proofs.Common.{[], ◌∷◌, map, refl, sym, ap, ◌∙◌}
use Rattle.std.proofs.lemmas.List.{map-append}
use Rattle.std.specs.Option.{option_map}
use Rattle.build_replies.specs.BuildsWords.{wanted_view}
use Rattle.build_replies.specs.TableWords.{table_rows}
use Rattle.build_replies.proofs.WantLemmas.{adds_known, adds_one}
use Rattle.build_replies.proofs.wanted.add.Goals as goal

pub returns-in_ok-push-2 : goal.returns-in_ok-push-2
returns-in_ok-push-2 c =
    adds_one (table_rows c.args.ids.now) (table_rows c.push.new.self) _ (map wanted_view c.args.builds.now.items) (map wanted_view c.push-then-is_new.new.self.items) (option_map wanted_view c.args.wanted) (wanted_view c.in-Some.wanted)
    (sym (ap (option_map wanted_view) c.in-Some.is)) (sym c.is_new.ensures ∙ c.if-is_new.true) c.in_ok-push.ensures refl
    (ap (map wanted_view) c.in_ok-push-2.ensures.items ∙ map-append wanted_view c.args.builds.now.items (c.in-Some.wanted ∷ []))

pub returns-else-is_new : goal.returns-else-is_new
returns-else-is_new c =
    adds_known (table_rows c.args.ids.now) (map wanted_view c.args.builds.now.items) (option_map wanted_view c.args.wanted) (wanted_view c.in-Some.wanted)
    (sym (ap (option_map wanted_view) c.in-Some.is)) (sym c.is_new.ensures ∙ c.if-is_new.false)
