use Rattle.std.proofs.Common.{◌≡◌, true, cond, ◌||◌, ◌++◌, ◌∷◌, [], map, rules, ap, sym, ◌∙◌}
use Rattle.std.specs.Str.{bytes_eq}
use Rattle.std.proofs.lemmas.List.{map-append}
use Rattle.std.proofs.lemmas.Map.Text.{is_eq-slice_cmp}
use Rattle.build_replies.specs.BuildsWords.{wanted_view}
use Rattle.build_replies.specs.declared.wanted.WantedBuild.{WantedBuild}
use Rattle.case_info.specs.Wants.{has_id, is_in}
use Rattle.case_info.proofs.OnceLemmas.{has_more, inserted}
use Rattle.case_info.proofs.wanted.WantedBuilds.add.Goals as goal

pub invariant_of-self-then-is_new : goal.invariant_of-self-then-is_new
invariant_of-self-then-is_new c =
    let old = c.args.self.now in
    let w = wanted_view c.in-Some.build in
    let put : c.push.new.self.items ≡ old.builds.items ++ c.in-Some.build ∷ [] = search rules in
    record {
      same = λ id.
          c.in_ok-is_new.ensures.updates.0 (record { ref_ptr = (0, 0); now = id })
          ∙ ap (λ t. cond t true (is_in old.ids id)) (is_eq-slice_cmp c.in-Some.build.id.now id)
          ∙ inserted (bytes_eq c.in-Some.build.id.now id) (is_in old.ids id)
          ∙ ap (λ t. t || bytes_eq c.in-Some.build.id.now id) (old.same id)
          ∙ sym (has_more (map wanted_view old.builds.items) w id)
          ∙ ap (λ ws. has_id ws id) (sym (ap (map wanted_view) put ∙ map-append wanted_view old.builds.items (c.in-Some.build ∷ [])));
    }
