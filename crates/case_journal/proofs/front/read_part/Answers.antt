use Rattle.std.proofs.Common.{◌∙◌, ap, sym, arith}
use Rattle.disk_model.specs.Places.{part}
use Rattle.case_journal.proofs.ViewLemmas.{shown_by}
use Rattle.case_journal.proofs.front.read_part.Goals as goal

pub returns-clause-shows : goal.returns-clause-shows
returns-clause-shows g c b view =
    let same = c.read_at.auto.into in
    let within = c.requires in
    shown_by g.D.Disk c.args.disk.now c.read_at.new.self c.args.at c.read_at.new.into b view (omega arith)
    (λ honest. c.in-Ok.ensures.bytes honest ∙ ap (part (g.D.Disk.seen c.args.disk.now) c.args.at) (sym same))
    c.read_at.ensures.seen c.read_at.ensures.honesty c.read_at.ensures.size
