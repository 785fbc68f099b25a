use Rattle.build_replies.specs.Choosing.{Choice}
use Rattle.frame_replies.specs.Walking.{AreExecutablesOf}
use Rattle.std.proofs.Common.{List, Option, Vec, Global, sym, subst, ap, ◌∙◌, arith, rules}
use Rattle.frame_replies.specs.declared.values.FramesAnswer.{FramesAnswer}
use Rattle.build_replies.specs.Mapped.{told_view}
use Rattle.intake.specs.Parts.{Parts}
use Rattle.case_queries.specs.Facts.{AreFramesOf}
use Rattle.case_queries.specs.Pieces.{BeginsWith, SeesPieces}
use Rattle.case_queries.specs.Preparing.{prepared_views}
use Rattle.case_queries.specs.declared.window.Part.{Part}
use Rattle.case_queries.proofs.FactLemmas.{frames_more}
use Rattle.case_queries.proofs.FramesLemmas.{walks_same}
use Rattle.case_queries.proofs.facts.unwind_threads.Goals as goal

pub process_in_core-requires : goal.process_in_core-requires
process_in_core-requires g c =
    let p = c.args.prepared.now in
    subst (λ (k : Choice). AreExecutablesOf k p.unwound) (sym (c.requires.chosen ∙ c.requires.serve)) p.are

pub loop-thread-init : goal.loop-thread-init
loop-thread-init g c =
    let o = c.args.image in
    let found = c.in-Ok.ensures in
    record {
      has = c.requires.has;
      walks = found.walks o (prepared_views c.args.prepared.now) c.requires.front c.requires.sound c.requires.told c.requires.chosen;
      pieces = ap (λ (v : Vec Part Global). v.items) found.pieces;
      sees = λ before seen. seen;
      told = λ before seen. subst (λ (us : List (Option FramesAnswer)). AreFramesOf g.D.Disk before o.seq o.front.now o.size (told_view c.args.told.files) (prepared_views c.args.prepared.now) c.args.lines 0 us) (sym c.new-all.ensures.items) tt;
      count = search (rules, c.new-all.ensures.items);
    }

pub thread_frames-requires-clause-own : goal.thread_frames-requires-clause-own
thread_frames-requires-clause-own g c = c.loop-thread.invariant.walks.own

pub thread_frames-requires-clause-some : goal.thread_frames-requires-clause-some
thread_frames-requires-clause-some g c = c.loop-thread.invariant.walks.some

pub loop-thread-preserved : goal.loop-thread-preserved
loop-thread-preserved g c =
    let o = c.args.image in
    let xs = prepared_views c.args.prepared.now in
    let told = c.args.told in
    let so_far = c.loop-thread.invariant in
    let thread = c.loop-thread.thread in
    let new = c.thread_frames.new.archive in
    let last = c.in_ok-frames.ensures in
    let first = told.pieces.items in
    let now = λ (before : Parts g.row.D.Denot) (seen : SeesPieces g.D.Disk before o first c.args.archive.now). subst (λ ps. SeesPieces g.D.Disk before o ps c.loop-thread.archive) (sym so_far.pieces) (so_far.sees before seen) in
    record {
      has = last.has;
      walks = walks_same o xs c.loop-thread.found c.thread_frames.new.found last.process last.pieces so_far.walks;
      pieces = last.pieces ∙ so_far.pieces;
      sees = λ before seen. subst (λ ps. SeesPieces g.D.Disk before o ps new) so_far.pieces (last.sees before (now before seen));
      told = λ before seen.
          subst (λ (us : List (Option FramesAnswer)). AreFramesOf g.D.Disk before o.seq o.front.now o.size (told_view told.files) xs c.args.lines 0 us) (sym c.in-Ok-push.ensures.items)
          (frames_more g.D.Disk before o.seq o.front.now o.size (told_view told.files) xs c.args.lines 0 thread c.loop-thread.all.items c.in_ok-frames.frames (so_far.told before seen) (omega (arith, so_far.count))
          (last.told before (told_view told.files) xs so_far.walks (λ b begins. c.requires.told.told b (subst (λ ps. BeginsWith o ps b) so_far.pieces begins)) (now before seen)));
      count = search (rules, c.in-Ok-push.ensures.items, so_far.count);
    }

pub returns-clause-told : goal.returns-clause-told
returns-clause-told g c = λ before sees. c.loop-thread.invariant.told before sees

pub returns-clause-sees : goal.returns-clause-sees
returns-clause-sees g c = λ before sees. c.loop-thread.invariant.sees before sees
