use Rattle.std.proofs.Common.{◌++◌, map, ap, sym, subst, ◌∙◌}
use Rattle.std.specs.List.Sorted.{IsStrictlyIncreasing}
use Rattle.retention.specs.Rule.{IsDecision, seq_of}
use Rattle.pruning.specs.Cases.{cores_that_stay, named, needed}
use Rattle.pruning.specs.KeptWords.{Keeps, has_id, has_name}
use Rattle.pruning.specs.Pruning.{Goes, GoesBy}
use Rattle.pruning.proofs.BuildLemmas.{goes_alike, picked_alike}
use Rattle.pruning.proofs.CoreLemmas.{cores_in_order}
use Rattle.pruning.proofs.dropping.prune.Goals as goal

pub decide-requires : goal.decide-requires
decide-requires c = subst (λ bs. IsStrictlyIncreasing (map seq_of bs)) (sym (c.deref.ensures.value ∙ c.in_ok-briefs.ensures)) (cores_in_order c.args.cases.now c.requires)

pub returns : goal.returns
returns c =
    let kept = c.in_ok-kept.kept in
    let cores = c.in_ok-cores.cores.dropped.items in
    let staying = cores_that_stay cores c.args.cases.now in
    let keeps : Keeps kept staying = subst (λ gone. Keeps kept (cores_that_stay gone c.args.cases.now)) c.deref-2.ensures.value c.in_ok-kept.ensures in
    record {
      cores = cores;
      builds = c.in_ok-builds.builds.items;
      dropped_are = c.in_ok-extend_from_slice.ensures.items ∙ ap (λ ns. cores ++ ns) c.deref-3.ensures.value;
      decided = subst (λ bs. IsDecision c.args.policy.now bs cores c.in_ok-cores.cores.unmet) (c.deref.ensures.value ∙ c.in_ok-briefs.ensures) c.in_ok-cores.ensures.decision;
      picked = picked_alike (Goes (has_id kept) (has_name kept)) (GoesBy staying)
          (goes_alike (has_id kept) (has_name kept) (needed staying) (named staying) keeps.ids keeps.names)
          (goes_alike (needed staying) (named staying) (has_id kept) (has_name kept) (λ id. sym (keeps.ids id)) (λ name. sym (keeps.names name)))
          c.args.cases.now c.in_ok-builds.builds.items c.in_ok-builds.ensures;
    }
