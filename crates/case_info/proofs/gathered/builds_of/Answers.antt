use Rattle.std.proofs.Common.{List, map, subst}
use Rattle.std.proofs.lemmas.List.{append-nil}
use Rattle.address_space.specs.Source.{ExecutableView}
use Rattle.build_replies.specs.Mapped.{told_view}
use Rattle.case_queries.specs.CollectingWords.{executable_view}
use Rattle.case_queries.specs.Facts.{SaysFacts}
use Rattle.case_info.proofs.gathered.builds_of.Goals as goal

pub returns-in-Ok : goal.returns-in-Ok
returns-in-Ok g c = λ before sees.
    let o = c.args.image in
    subst (λ (xs : List ExecutableView). SaysFacts g.D.Disk before o.seq o.front.now o.size (told_view c.args.told.files) xs 0 0 c.in-Ok.facts c.core_facts.new.archive) (append-nil (map executable_view c.args.executables.now)) (c.in-Ok.ensures before sees)
