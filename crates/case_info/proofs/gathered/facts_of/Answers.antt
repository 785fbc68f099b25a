use Rattle.std.proofs.Common.{ℕ, ◌++◌, map, subst}
use Rattle.build_replies.specs.Mapped.{told_view}
use Rattle.case_queries.specs.CollectingWords.{executable_view}
use Rattle.case_queries.specs.Facts.{SaysFacts}
use Rattle.case_info.specs.Screens.{screen_lines}
use Rattle.case_info.proofs.gathered.facts_of.Goals as goal

pub returns-in-Ok : goal.returns-in-Ok
returns-in-Ok g c = λ before sees.
    let o = c.args.image in
    subst (λ (n : ℕ). SaysFacts g.D.Disk before o.seq o.front.now o.size (told_view c.args.told.files) (map executable_view c.args.executables.now ++ map executable_view c.args.debug_files.now) n screen_lines c.in-Ok.facts c.core_facts.new.archive)
    c.shown_count-count.ensures (c.in-Ok.ensures before sees)
