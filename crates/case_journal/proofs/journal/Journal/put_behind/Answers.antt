use Rattle.std.proofs.Common.{◌∙◌, ◌+◌, ℕ, ap, sym, length, IsTrue}
use Rattle.disk_model.specs.CauseLaws.{never_falls}
use Rattle.journal_layout.specs.Layout.{half_start}
use Rattle.journal_snapshot.specs.FillLaws.{fills_of}
use Rattle.case_journal.specs.Journaled.{Journaled}
use Rattle.case_journal.proofs.PutLemmas.{publishes, put_fits, behind_fills, behind_half, behind_moments, behind_keeps}
use Rattle.case_journal.proofs.journal.Journal.put_behind.Goals as goal

pub returns-in_err-publish-clause-run : goal.returns-in_err-publish-clause-run
returns-in_err-publish-clause-run g c r put =
    let place = ap (λ (h : ℕ). h + c.self.inside.used) c.half_start.ensures ∙ ap (λ (j : Journaled). half_start j.standing.shape j.standing.half + j.standing.used) c.self.view_is in
    let gate = c.half_start.result + c.self.inside.used in
    let s = c.args.self.now.standing in
    let n = length c.args.behind.now in
    record {
      moments = λ honest. behind_moments s r g.D.Disk c.args.disk.now c.publish.new.disk (put_fits s r c.args.behind.now c.requires.in_half put)
          (c.publish.ensures.any_moment s r (publishes s r gate c.args.behind.now place c.requires.in_half put) honest (c.requires.keeps.holds c.requires.runs honest).stands);
      half = behind_half g.D.Disk c.args.disk.now c.publish.new.disk s r gate n (put_fits s r c.args.behind.now c.requires.in_half put) place put.long
          (fills_of g.D.Disk gate (1 + n) c.args.disk.now c.publish.new.disk (g.met.D.Disk.counts_now c.publish.new.disk) c.publish.ensures.outside c.publish.ensures.others c.publish.ensures.honesty c.publish.ensures.size);
      fills = behind_fills g.D.Disk c.args.disk.now c.publish.new.disk s gate n place c.requires.in_half
          (fills_of g.D.Disk gate (1 + n) c.args.disk.now c.publish.new.disk (g.met.D.Disk.counts_now c.publish.new.disk) c.publish.ensures.outside c.publish.ensures.others c.publish.ensures.honesty c.publish.ensures.size);
      doubts = λ honest. c.publish.ensures.doubts s r (publishes s r gate c.args.behind.now place c.requires.in_half put) honest (c.requires.keeps.holds c.requires.runs honest);
      later = never_falls _ _ c.publish.result c.publish.ensures.cause;
    }

pub returns-clause-run : goal.returns-clause-run
returns-clause-run g c r put =
    let place = ap (λ (h : ℕ). h + c.self.inside.used) c.half_start.ensures ∙ ap (λ (j : Journaled). half_start j.standing.shape j.standing.half + j.standing.used) c.self.view_is in
    let gate = c.half_start.result + c.self.inside.used in
    let s = c.args.self.now.standing in
    let n = length c.args.behind.now in
    record {
      moments = λ honest. behind_moments s r g.D.Disk c.args.disk.now c.publish.new.disk (put_fits s r c.args.behind.now c.requires.in_half put)
          (c.publish.ensures.any_moment s r (publishes s r gate c.args.behind.now place c.requires.in_half put) honest (c.requires.keeps.holds c.requires.runs honest).stands);
      half = behind_half g.D.Disk c.args.disk.now c.publish.new.disk s r gate n (put_fits s r c.args.behind.now c.requires.in_half put) place put.long
          (fills_of g.D.Disk gate (1 + n) c.args.disk.now c.publish.new.disk (g.met.D.Disk.counts_now c.publish.new.disk) c.publish.ensures.outside c.publish.ensures.others c.publish.ensures.honesty c.publish.ensures.size);
      fills = behind_fills g.D.Disk c.args.disk.now c.publish.new.disk s gate n place c.requires.in_half
          (fills_of g.D.Disk gate (1 + n) c.args.disk.now c.publish.new.disk (g.met.D.Disk.counts_now c.publish.new.disk) c.publish.ensures.outside c.publish.ensures.others c.publish.ensures.honesty c.publish.ensures.size);
      doubts = λ honest. c.publish.ensures.doubts s r (publishes s r gate c.args.behind.now place c.requires.in_half put) honest (c.requires.keeps.holds c.requires.runs honest);
      later = never_falls _ _ c.publish.result c.publish.ensures.cause;
    }

pub returns-clause-kept : goal.returns-clause-kept
returns-clause-kept g c r put =
    let place = ap (λ (h : ℕ). h + c.self.inside.used) c.half_start.ensures ∙ ap (λ (j : Journaled). half_start j.standing.shape j.standing.half + j.standing.used) c.self.view_is in
    let gate = c.half_start.result + c.self.inside.used in
    let s = c.args.self.now.standing in
    let was : IsTrue (g.D.Disk.is_honest c.publish.new.disk) → IsTrue (g.D.Disk.is_honest c.args.disk.now) = λ honest. sym c.publish.ensures.honesty ∙ honest in
    behind_keeps s r g.D.Disk c.args.disk.now c.publish.new.disk (put_fits s r c.args.behind.now c.requires.in_half put) (c.publish.ensures.size ∙ c.requires.keeps.size)
    (λ honest. (c.in_ok-publish.ensures.stable (was honest)).0)
    (λ honest. c.in_ok-publish.ensures.made s r (publishes s r gate c.args.behind.now place c.requires.in_half put) (was honest) (c.requires.keeps.holds c.requires.runs (was honest)).stands)
    (λ honest. c.publish.ensures.doubts s r (publishes s r gate c.args.behind.now place c.requires.in_half put) (was honest) (c.requires.keeps.holds c.requires.runs (was honest)))
