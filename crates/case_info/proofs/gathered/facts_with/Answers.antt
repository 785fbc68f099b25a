use Rattle.std.proofs.Common.{ℕ, subst}
use Rattle.build_replies.specs.Mapped.{told_view}
use Rattle.case_queries.specs.Facts.{SaysFacts}
use Rattle.case_queries.specs.Preparing.{prepared_views}
use Rattle.case_info.proofs.gathered.facts_with.Goals as goal

pub returns-in-Ok : goal.returns-in-Ok
returns-in-Ok g c = λ before sees.
    let o = c.args.image in
    subst (λ (n : ℕ). SaysFacts g.D.Disk before o.seq o.front.now o.size (told_view c.args.told.files) (prepared_views c.args.prepared.now) n 0 c.in-Ok.facts c.core_facts_with.new.archive)
    c.shown_count-count.ensures (c.in-Ok.ensures before sees)
