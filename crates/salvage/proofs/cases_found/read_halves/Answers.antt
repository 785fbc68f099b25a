use Rattle.std.proofs.Common.{arith}
use Rattle.salvage.proofs.HalfLemmas.{all_still}
use Rattle.salvage.proofs.ReadsLemmas.{both_halves}
use Rattle.salvage.proofs.cases_found.read_halves.Goals as goal

pub returns-clause-all : goal.returns-clause-all
returns-clause-all c = λ long.
    let shape = c.args.shape in
    let front = c.args.front.now in
    let a = c.half_of.result in
    let b = c.half_of-2.result in
    let new = c.read_half-2.new.self.reads.items in
    both_halves shape front new c.read_half-2.new.self.drops.items a b c.half_of.ensures.start c.half_of.ensures.end c.half_of-2.ensures.start c.half_of-2.ensures.end
    (all_still shape.data_blocks front a.start a.end c.read_half.new.self.reads.items new c.read_half.new.self.drops.items c.read_half-2.new.self.drops.items c.in_ok-read_half-2.ensures.stay c.in_ok-read_half-2.ensures.kept
    (c.in_ok-read_half.ensures.all (omega (arith, long, c.half_of.ensures.end))))
    (c.in_ok-read_half-2.ensures.all (omega (arith, long, c.half_of-2.ensures.end)))
