use Rattle.std.proofs.Common.{List, map, ap, subst, ◌∙◌}
use Rattle.std.specs.Prelude.{◌++◌}
use Rattle.address_space.specs.Source.{ExecutableView}
use Rattle.build_replies.specs.Mapped.{told_view}
use Rattle.case_queries.specs.CollectingWords.{executable_view}
use Rattle.case_queries.specs.Facts.{SaysFacts}
use Rattle.case_queries.specs.declared.collect_executables.StoredExecutable.{StoredExecutable}
use Rattle.case_queries.proofs.facts.core_facts.Goals as goal

pub core_facts_with-requires-clause-serve : goal.core_facts_with-requires-clause-serve
core_facts_with-requires-clause-serve g c = c.in-Ok.ensures.serve

pub returns : goal.returns
returns g c = λ before sees.
    let o = c.args.image in
    let p = c.in-Ok.prepared in
    let views = p.views
    ∙ ap (λ (ys : List StoredExecutable). map executable_view ys ++ map executable_view p.debug_files.now) c.in-Ok.ensures.stored
    ∙ ap (λ (ds : List StoredExecutable). map executable_view c.args.executables.now ++ map executable_view ds) c.in-Ok.ensures.debugs in
    subst (λ (ys : List ExecutableView). SaysFacts g.D.Disk before o.seq o.front.now o.size (told_view c.args.told.files) ys c.args.threads c.args.lines c.in_ok-core_facts_with.field-0 c.core_facts_with.new.archive) views
    (c.in_ok-core_facts_with.ensures before sees)
