use Rattle.std.proofs.Common.{Option, List, ℕ, ap, ◌∙◌}
use Rattle.build_replies.specs.ToldLaws.{ids_more, ids_none}
use Rattle.case_queries.proofs.BuildLemmas.{begins_still, more_then, same_pieces}
use Rattle.case_queries.proofs.told.read_ids.Goals as goal

pub loop-i-init : goal.loop-i-init
loop-i-init g c = record {
  all = c.count-i-end.ensures;
  has = c.requires.has;
  more = same_pieces c.args.image c.args.pieces.now.items;
  sees = λ before sees. sees;
  so_far = λ image begins. ids_none image c.args.mapped.now _ c.new-ids.ensures.items;
}

pub returns-in_default-clause-sees : goal.returns-in_default-clause-sees
returns-in_default-clause-sees g c before sees = let now = c.in_ok-id.ensures.sees before (c.loop-i.invariant.sees before sees) in (now.0, now.1, now.2.0)

pub loop-i-preserved : goal.loop-i-preserved
loop-i-preserved g c =
    let so_far = c.loop-i.invariant in
    let read = c.in_ok-id.ensures in
    let name = c.front.result.path.now in record {
      all = c.count-i-end.ensures;
      has = read.has;
      more = more_then c.args.image c.args.pieces.now.items c.loop-i.pieces.items c.read_id.new.pieces.items so_far.more read.id.0;
      sees = λ before sees. read.sees before (so_far.sees before sees);
      so_far = λ image begins.
          ids_more image c.args.mapped.now c.loop-i.i name c.loop-i.ids.items c.push.new.self.items c.in_ok-id.id
          (so_far.so_far image (begins_still c.args.image c.loop-i.pieces.items c.read_id.new.pieces.items image read.id.0 begins)) c.front.ensures.name
          (read.id.1 image begins ∙ ap (λ (o : Option (List ℕ)). (name, o)) (c.front.ensures.id image)) c.in-Ok.ensures.items;
    }
