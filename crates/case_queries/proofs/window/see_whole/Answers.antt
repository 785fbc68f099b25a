use Rattle.std.proofs.Common.{ap}
use Rattle.case_queries.specs.declared.kept_image.KeptImage.{KeptImage}
use Rattle.case_queries.proofs.WindowLemmas.{all_seen}
use Rattle.case_queries.proofs.window.see_whole.Goals as goal

pub returns-clause-seen : goal.returns-clause-seen
returns-clause-seen g c query =
    all_seen g.D.Disk c.args.archive.now c.see_image.new.archive c.args.seq query c.all_of.result c.in_ok-kept.kept.image.items c.in_ok-kept.ensures.seen (ap (λ (k : KeptImage). k.image.items) c.all_of.ensures.kept) c.all_of.ensures.size c.all_of.ensures.part.0 c.all_of.ensures.part.1
