use Rattle.std.proofs.Common.{◌≡◌, ◌+◌, ◌-◌, Ok, subst, refl, arith, ◌∙◌}
use Rattle.case_queries.specs.Windows.{ReadsRange}
use Rattle.case_queries.proofs.WalkLemmas.{walk_reads, walk_refused}
use Rattle.case_queries.proofs.walk.Walk.read.Goals as goal

pub returns-in-Ok-clause-walks : goal.returns-in-Ok-clause-walks
returns-in-Ok-clause-walks g c before space aim so_far =
    let image = c.args.image in
    let at = c.args.self.now.at in
    let n = c.args.count in
    let count : at + n - at ≡ n = omega arith in
    let long = c.in-Ok.ensures.long in
    let range = subst (λ k. ReadsRange g.D.Disk c.args.archive.now image.seq image.front.now at k (Ok tt) c.read_range.new.bytes.items c.read_range.new.archive) count c.in-Ok.ensures.reads in
    walk_reads g.D.Disk before image space aim c.args.archive.now c.read_range.new.archive c.args.self.now _ n so_far c.requires.within range refl (long ∙ count) refl

pub returns-in-Err-clause-walks : goal.returns-in-Err-clause-walks
returns-in-Err-clause-walks g c before space aim so_far =
    walk_refused g.D.Disk before c.args.image space aim c.args.archive.now c.read_range.new.archive c.args.self.now (c.args.self.now.at + c.args.count - c.args.self.now.at) c.read_range.new.bytes.items c.in-Err.fault c.requires.has so_far c.in-Err.ensures.reads
