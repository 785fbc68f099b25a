use Rattle.std.proofs.Common.{IsPermutation, length, refl, sym, ap, subst, ◌∙◌, arith}
use Rattle.std.proofs.lemmas.Option.{slice_get_within}
use Rattle.case_queries.specs.ExecutableWords.{AreOf}
use Rattle.intake.specs.Parts.{state_of}
use Rattle.case_info.specs.CrashWords.{HasFound, crashes_in}
use Rattle.case_info.proofs.SearchLemmas.{found_all, found_none, slice_get_ends}
use Rattle.case_info.proofs.crash_search.crashes_of.Goals as goal

pub loop-seq-init : goal.loop-seq-init
loop-seq-init g c = record {
  order = refl;
  stored = c.in_ok-search.ensures.stored;
  found = found_none g.D.Disk g.met.D.Disk.only_now c.args.archive.now c.in_ok-search.search.order.items _ c.in_ok-search.ensures.found;
}

pub loop-seq-preserved : goal.loop-seq-preserved
loop-seq-preserved g c =
    let inv = c.loop-seq.invariant in
    let on = c.in_ok-find_alike.ensures.0 in
    let now = c.find_alike.new.archive in
    record {
      order = on.order ∙ inv.order;
      stored = subst (λ cases. AreOf cases c.find_alike.new.search.stored) (sym on.cases) (subst (AreOf (state_of c.loop-seq.archive).cases) (sym on.stored) inv.stored);
      found =
          subst (λ ns. HasFound g.D.Disk c.args.archive.now ns (crashes_in c.find_alike.new.search) now) (sym (ap (λ v. v.items) on.order))
          (on.found c.args.archive.now inv.found);
    }

pub loop-seq-smaller : goal.loop-seq-smaller
loop-seq-smaller g c =
    let within = slice_get_within c.loop-seq.search.order.items (length (crashes_in c.loop-seq.search)) c.in-Some.seq (sym c.in-Some.ensures) in
    let more = c.in_ok-find_alike.ensures.1 in
    let same = ap (λ v. length v.items) c.in_ok-find_alike.ensures.0.order in
    omega (arith, within, more, same)

pub returns : goal.returns
returns g c =
    let inv = c.loop-seq.invariant in
    let s = c.loop-seq.search in
    record {
      order = s.order.items;
      each = subst (λ ns. IsPermutation c.args.numbers.now ns) (sym (ap (λ v. v.items) inv.order)) c.in_ok-search.ensures.order;
      seen = crashes_in s;
      sees = found_all g.D.Disk c.args.archive.now c.loop-seq.archive s.order.items (crashes_in s) inv.found (slice_get_ends s.order.items (length (crashes_in s)) (sym c.next_core.ensures ∙ c.in_default.is));
      all = c.in_order.ensures.all;
      rising = c.in_order.ensures.rising;
    }
