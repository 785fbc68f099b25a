use Rattle.std.proofs.Common.{◌+◌, List, map, drop, ap, sym, subst, arith}
use Rattle.std.proofs.lemmas.Result.{err_from_is_err_and}
use Rattle.address_space.specs.Source.{ExecutableView}
use Rattle.case_queries.specs.Collecting.{Wanted}
use Rattle.case_queries.specs.CollectingWords.{executable_view, read_as, wanted_view}
use Rattle.case_queries.proofs.CollectLemmas.{GoesOn, all_read, read_more, read_on, read_short, read_refused, read_none, read_all, left_cons, left_none}
use Rattle.case_queries.proofs.collect_executables.read_each.Goals as goal

pub loop-case-init : goal.loop-case-init
loop-case-init g c = record {
  goes = read_none g.D.Disk c.args.archive.now (map wanted_view c.args.wanted.now) (map executable_view c.new-found.result.items) (ap (map executable_view) c.new-found.ensures.items);
  are = ap (map read_as) c.new-found.ensures.items;
}

pub loop-case-preserved : goal.loop-case-preserved
loop-case-preserved g c =
    let all = map wanted_view c.args.wanted.now in
    let left = map wanted_view (drop (c.loop-case.case-index + 1) c.args.wanted.now) in record {
      goes = subst (λ (xs : List ExecutableView). GoesOn g.D.Disk c.args.archive.now all xs c.see_image.new.archive left) (sym c.in-Ok.ensures.view)
          (read_on g.D.Disk c.args.archive.now all (map executable_view c.loop-case.found.items) c.loop-case.archive c.see_image.new.archive c.case-item.result.seq c.case-item.result.path.items c.in_ok-seen.seen.image.items left
          (subst (λ (ws : List Wanted). GoesOn g.D.Disk c.args.archive.now all (map executable_view c.loop-case.found.items) c.loop-case.archive ws)
          (left_cons c.args.wanted.now c.loop-case.case-index c.case-item.result c.loop-case-test.true c.case-item.is) c.loop-case.invariant.goes)
          c.in_ok-seen.ensures.seen);
      are = read_more c.loop-case.found.items c.add_read.new.found.items c.args.wanted.now c.loop-case.case-index c.case-item.result c.loop-case-test.true c.case-item.is c.loop-case.invariant.are c.in-Ok.ensures.are;
    }

pub returns-in_err-seen-clause-collects : goal.returns-in_err-seen-clause-collects
returns-in_err-seen-clause-collects g c =
    let p = err_from_is_err_and c.from_residual.result c.from_residual.ensures.1 in
    let all = map wanted_view c.args.wanted.now in
    let left = map wanted_view (drop (c.loop-case.case-index + 1) c.args.wanted.now) in
    rw (p.1, p.2)
    (read_refused g.D.Disk c.args.archive.now all (map executable_view c.loop-case.found.items) c.loop-case.archive c.see_image.new.archive c.case-item.result.seq c.case-item.result.path.items c.in_err-seen.field-0.0 left
    (subst (λ (ws : List Wanted). GoesOn g.D.Disk c.args.archive.now all (map executable_view c.loop-case.found.items) c.loop-case.archive ws)
    (left_cons c.args.wanted.now c.loop-case.case-index c.case-item.result c.loop-case-test.true c.case-item.is) c.loop-case.invariant.goes)
    c.in_err-seen.ensures.seen)

pub returns-in_default-clause-collects : goal.returns-in_default-clause-collects
returns-in_default-clause-collects g c =
    let all = map wanted_view c.args.wanted.now in
    let left = map wanted_view (drop (c.loop-case.case-index + 1) c.args.wanted.now) in
    read_short g.D.Disk c.args.archive.now all (map executable_view c.loop-case.found.items) c.loop-case.archive c.see_image.new.archive c.case-item.result.seq c.case-item.result.path.items c.in_ok-seen.seen.image.items left
    (subst (λ (ws : List Wanted). GoesOn g.D.Disk c.args.archive.now all (map executable_view c.loop-case.found.items) c.loop-case.archive ws)
    (left_cons c.args.wanted.now c.loop-case.case-index c.case-item.result c.loop-case-test.true c.case-item.is) c.loop-case.invariant.goes)
    c.in_ok-seen.ensures.seen

pub returns-clause-collects : goal.returns-clause-collects
returns-clause-collects g c =
    read_all g.D.Disk c.args.archive.now (map wanted_view c.args.wanted.now) (map executable_view c.loop-case.found.items) c.loop-case.archive (map wanted_view (drop c.loop-case.case-index c.args.wanted.now)) c.loop-case.invariant.goes
    (left_none c.args.wanted.now c.loop-case.case-index (omega (arith, c.loop-case-test.false)))

pub returns-clause-are : goal.returns-clause-are
returns-clause-are g c = all_read c.loop-case.found.items c.args.wanted.now c.loop-case.case-index c.loop-case.invariant.are (omega (arith, c.loop-case-test.false))
