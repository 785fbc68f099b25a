use Rattle.std.proofs.Common.{length, sym, ap, subst, arith}
use Rattle.std.proofs.lemmas.Option.{slice_get_within}
use Rattle.std.specs.Option.{option_map}
use Rattle.core_crashes.specs.CaseReading.{IsOnlyRead}
use Rattle.case_queries.specs.ExecutableWords.{AreOf}
use Rattle.core_crashes.specs.Views.{crashed_said}
use Rattle.intake.specs.Parts.{state_of}
use Rattle.case_info.specs.Crashes.{SeesCrash}
use Rattle.case_info.specs.CrashWords.{TriesCrash, crashes_in}
use Rattle.case_info.proofs.SearchLemmas.{added_longer, crash_leaves, goes_more, goes_none, goes_reads, goes_then, stay_prepared}
use Rattle.case_info.proofs.crash_search.find_served.Goals as goal

pub loop-seq-init : goal.loop-seq-init
loop-seq-init g c = record { on = goes_none g.D.Disk g.met.D.Disk.only_now c.args.archive.now c.args.search.now; stay = c.requires.stay }

pub crash_if_served-requires-clause-stored : goal.crash_if_served-requires-clause-stored
crash_if_served-requires-clause-stored g c =
    let on = c.loop-seq.invariant.on in
    subst (λ cases. AreOf cases c.loop-seq.search.stored) (sym on.cases) (subst (AreOf (state_of c.args.archive.now).cases) (sym on.stored) c.requires.stored)

pub loop-seq-preserved : goal.loop-seq-preserved
loop-seq-preserved g c =
    let old = c.args.archive.now in
    let inv = c.loop-seq.invariant in
    let a = c.loop-seq.archive in
    let b = c.crash_if_served.new.archive in
    let s = c.loop-seq.search in
    let t = c.add_crash.new.search in
    let seq = c.in-Some.seq in
    let crash = crashed_said c.in-Some-2.crash in
    let sees : SeesCrash g.D.Disk a seq crash b = subst (λ o. TriesCrash g.D.Disk a seq (option_map crashed_said o) b) c.in-Some-2.is c.in_ok-crash.ensures in
    let adds = c.in_ok-add_crash.ensures in
    let one = goes_more g.D.Disk g.met.D.Disk.only_now a b s t seq crash (sym c.in-Some.ensures) sees adds in
    record {
      on = goes_then g.D.Disk g.met.D.Disk.only_now old a b c.args.search.now s t inv.on one;
      stay = stay_prepared g.D.Disk g.met.D.Disk.only_now a b c.args.prepared.now (crash_leaves g.D.Disk a b seq crash sees) inv.stay;
    }

pub loop-seq-smaller : goal.loop-seq-smaller
loop-seq-smaller g c =
    let within = slice_get_within c.loop-seq.search.order.items (length (crashes_in c.loop-seq.search)) c.in-Some.seq (sym c.in-Some.ensures) in
    let adds = c.in_ok-add_crash.ensures in
    let longer = added_longer c.loop-seq.search c.add_crash.new.search (crashed_said c.in-Some-2.crash) adds in
    let same = ap (λ v. length v.items) adds.order in
    omega (arith, within, longer, same)

pub returns-in_default-2 : goal.returns-in_default-2
returns-in_default-2 g c =
    let inv = c.loop-seq.invariant in
    let a = c.loop-seq.archive in
    let b = c.crash_if_served.new.archive in
    let s = c.loop-seq.search in
    let reads : IsOnlyRead g.D.Disk a b = subst (λ o. TriesCrash g.D.Disk a c.in-Some.seq (option_map crashed_said o) b) c.in_default-2.is c.in_ok-crash.ensures in
    let within = slice_get_within s.order.items (length (crashes_in s)) c.in-Some.seq (sym c.in-Some.ensures) in
    goes_then g.D.Disk g.met.D.Disk.only_now c.args.archive.now a b c.args.search.now s s inv.on
    (goes_reads g.D.Disk g.met.D.Disk.only_now a b s within reads)
