use Rattle.std.proofs.Common.{◌||◌, ap, subst, ◌∙◌, sym, All, ◌<◌, ℕ}
use Rattle.pruning.specs.KeptWords.{has_id, has_name}
use Rattle.pruning.proofs.BuildLemmas.{goes_unless}
use Rattle.pruning.proofs.dropping.goes.Goals as goal

pub returns-in-Some : goal.returns-in-Some
returns-in-Some c =
    let kept = c.args.kept.now in
    let case = c.args.case.now in
    goes_unless (record { builds = c.a_name_is_of_one_build.ensures.builds; debugs = c.a_name_is_of_one_build.ensures.debugs; apart = c.a_name_is_of_one_build.ensures.apart })
    (has_id kept) (has_name kept) case c.in-Some.id.items c.is_kept.result
    (c.is_kept.ensures.kept ∙ ap (λ id. has_id kept id || has_name kept case.name.now) c.deref.ensures.0)
    (subst (All (λ (b : ℕ). b < 256)) c.deref.ensures.0 c.is_kept.ensures.bytes)
    (sym c.is_core.ensures ∙ c.if-is_core.false) c.if-case.false c.in-Some.ensures
