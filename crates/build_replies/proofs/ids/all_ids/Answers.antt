use Rattle.std.proofs.Common.{List, ℕ, Option, ap, ◌∙◌}
use Rattle.build_ids.specs.BuildId.{build_id_of}
use Rattle.build_replies.specs.ToldLaws.{ids_more}
use Rattle.build_replies.proofs.ids.all_ids.Goals as goal

pub loop-i-preserved : goal.loop-i-preserved
loop-i-preserved c =
    let image = c.args.image.now in
    let front = c.front-front.result in
    let name = front.path.now in
    let id = c.build_id-id.ensures ∙ ap build_id_of c.part.ensures ∙ c.front-front.ensures.id image in record {
      all = c.count-i-end.ensures;
      so_far = ids_more image c.args.mapped.now c.loop-i.i name c.loop-i.ids.items c.push.new.self.items c.in_ok-new.field-0 c.loop-i.invariant.so_far c.front-front.ensures.name
          (c.in_ok-new.ensures ∙ ap (λ (o : Option (List ℕ)). (name, o)) id) c.in_ok-push.ensures.items;
    }
