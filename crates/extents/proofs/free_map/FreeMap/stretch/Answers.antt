use Rattle.std.proofs.Common.{arith, ap, length, subst, List, ℕ}
use Rattle.extents.specs.FreeLaws.{run_of}
use Rattle.extents.specs.FreeWords.{IsFreeStart}
use Rattle.extents.proofs.MapLemmas.{length_flags_of, stretch_is}
use Rattle.extents.proofs.free_map.FreeMap.stretch.Goals as goal

pub overflow_sub-self-inside : goal.overflow_sub-self-inside
overflow_sub-self-inside c = omega (arith, ap length c.self.view_is, length_flags_of c.self.inside.words.items c.self.inside.blocks)

pub free_at_start-requires-clause-fits : goal.free_at_start-requires-clause-fits
free_at_start-requires-clause-fits c =
    let e = c.min-count.ensures in
    let limit = c.self.invariant.limit in
    omega (arith, e, limit, ap length c.self.view_is, length_flags_of c.self.inside.words.items c.self.inside.blocks)

pub free_at_start-requires-clause-within : goal.free_at_start-requires-clause-within
free_at_start-requires-clause-within c =
    let e = c.min-count.ensures in
    let enough = c.self.invariant.enough in
    omega (arith, e, enough, ap length c.deref.ensures.value, ap length c.self.view_is, length_flags_of c.self.inside.words.items c.self.inside.blocks)

pub returns : goal.returns
returns c =
    let s = c.self.inside in
    let e = c.min-count.ensures in
    let P : List ℕ → Type 0 = λ ws. IsFreeStart ws (run_of c.args.start c.min-count.result) c.free_at_start.result in
    stretch_is s.words.items s.blocks c.args.start c.args.want c.min-count.result c.free_at_start.result c.args.self.now c.self.view_is
    (omega (arith, ap length c.self.view_is, length_flags_of s.words.items s.blocks)) e (subst P c.deref.ensures.value c.free_at_start.ensures)
