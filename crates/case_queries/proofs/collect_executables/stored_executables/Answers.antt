use Rattle.std.proofs.Common.{◌≡◌, List, IfOk, Vec, Global, map, subst}
use Rattle.build_replies.specs.Builds.{NamedId}
use Rattle.build_replies.specs.Mapped.{id_view}
use Rattle.intake.specs.Parts.{state_of}
use Rattle.case_queries.specs.Collecting.{CollectsAll, wanted_by}
use Rattle.case_queries.specs.CollectingWords.{collected_view, read_as}
use Rattle.case_queries.specs.declared.collect_executables.StoredExecutable.{StoredExecutable}
use Rattle.case_queries.proofs.collect_executables.stored_executables.Goals as goal

pub returns-clause-collects : goal.returns-clause-collects
returns-clause-collects g c =
    let now = c.args.archive.now in
    subst (λ (ts : List NamedId). CollectsAll g.D.Disk now (wanted_by ts (state_of now).cases) (collected_view c.collect.result) c.collect.new.archive) c.listed.ensures
    (c.collect.ensures.collected (wanted_by (map id_view c.listed.result.now) (state_of now).cases) c.wanted_by_build-wanted.ensures)

pub returns-clause-are : goal.returns-clause-are
returns-clause-are g c =
    let now = c.args.archive.now in
    subst (λ (ts : List NamedId). IfOk c.collect.result (λ (v : Vec StoredExecutable Global). map read_as v.items ≡ wanted_by ts (state_of now).cases)) c.listed.ensures
    (c.collect.ensures.are (wanted_by (map id_view c.listed.result.now) (state_of now).cases) c.wanted_by_build-wanted.ensures)
