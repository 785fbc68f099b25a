use Rattle.std.proofs.Common.{◌++◌, [], ◌∷◌, ◌||◌, sym, ap, ◌∙◌, subst, append_assoc}
use Rattle.stream_names.specs.Template.{parts_of}
use Rattle.stream_names.specs.Expansion.{parts_text, is_pid_part}
use Rattle.stream_names.specs.Naming.{KeepsText}
use Rattle.stream_names.proofs.PartLemmas.{parts_text-push, list_any-push}
use Rattle.stream_names.proofs.template.Template.expand.Goals as goal

pub loop-part-preserved : goal.loop-part-preserved
loop-part-preserved c =
    let so_far = c.loop-part.invariant in
    let part = c.in-Some.part in
    let facts = c.args.facts.now in
    record {
      done = so_far.done ++ part ∷ [];
      cut = append_assoc so_far.done (part ∷ []) (parts_of c.in-Some.after.now)
          ∙ ap (λ parts. so_far.done ++ parts) (sym c.in-Some.ensures.part)
          ∙ so_far.cut;
      keeps = subst (λ text. KeepsText text c.add_part.new.text) (sym (parts_text-push facts so_far.done part)) (c.add_part.ensures (parts_text facts so_far.done) so_far.keeps);
      shows_pid = c.shows_pid_with-shows_pid.ensures ∙ ap (λ shown. shown || is_pid_part part) so_far.shows_pid ∙ sym (list_any-push so_far.done part);
    }
