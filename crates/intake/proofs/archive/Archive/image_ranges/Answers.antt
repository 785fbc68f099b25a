use Rattle.std.proofs.Common.{◌≤◌, sym, subst, arith, List}
use Rattle.std.proofs.lemmas.Result.{err_from_is_err_and}
use Rattle.extents.specs.Runs.{runs_of}
use Rattle.extents.specs.declared.run_list.Run.{Run}
use Rattle.journal_layout.specs.Case.{case_of}
use Rattle.journal_layout.specs.declared.shape.Shape.{Shape}
use Rattle.intake.specs.Ranges.{CoversRuns}
use Rattle.intake.specs.Reading.{LieWithin}
use Rattle.intake.specs.Sound.{case_blocks}
use Rattle.intake.proofs.ImageLemmas.{case_lies, has_case}
use Rattle.intake.proofs.RangeLemmas.{located}
use Rattle.intake.proofs.archive.Archive.image_ranges.Goals as goal

pub returns-in_default : goal.returns-in_default
returns-in_default g c = rw (← c.self.view_is) (c.if-self.false, (sym c.in_default.ensures))

pub ranges_of-requires-clause-within : goal.ranges_of-requires-clause-within
ranges_of-requires-clause-within g c =
    let running = c.self.invariant.sound.runs c.if-self.false in
    let all : case_blocks c.self.inside.journal.standing.cases ≤ c.self.inside.journal.standing.shape.data_blocks = (let t = running.total in omega (arith, t)) in
    let lies = case_lies c.self.inside.journal.standing.shape.data_blocks c.self.inside.journal.standing.cases c.self.inside.journal.standing.next c.args.seq (case_of c.in-Some.stored.now) running.cases all c.in-Some.ensures in
    subst (λ (s : Shape). LieWithin s.data_blocks c.runs.result.now) (sym c.shape-shape.ensures)
    (subst (λ (rs : List Run). LieWithin c.self.inside.journal.standing.shape.data_blocks rs) (sym c.runs.ensures.shortest) lies.within)

pub returns-in_err-ranges : goal.returns-in_err-ranges
returns-in_err-ranges g c =
    let p = err_from_is_err_and c.from_residual.result c.from_residual.ensures.1 in
    rw (p.1, p.2) (
      (case_of c.in-Some.stored.now),
      rw (← c.self.view_is) (has_case g.D.Disk.seen c.self.inside.disk c.self.inside.disk c.self.inside.journal c.self.inside.settings.limit c.self.inside.slots c.self.inside.slots c.self.inside.stopped c.self.inside.stopped
          c.args.seq (case_of c.in-Some.stored.now) c.if-self.false c.in-Some.ensures),
    )

pub returns : goal.returns
returns g c =
    let running = c.self.invariant.sound.runs c.if-self.false in
    let all : case_blocks c.self.inside.journal.standing.cases ≤ c.self.inside.journal.standing.shape.data_blocks = (let t = running.total in omega (arith, t)) in
    let lies = case_lies c.self.inside.journal.standing.shape.data_blocks c.self.inside.journal.standing.cases c.self.inside.journal.standing.next c.args.seq (case_of c.in-Some.stored.now) running.cases all c.in-Some.ensures in
    rw (← c.self.view_is)
    (located g.D.Disk c.self.inside.disk c.self.inside.journal c.self.inside.settings.limit c.self.inside.slots c.self.inside.stopped c.args.seq (case_of c.in-Some.stored.now) c.in_ok-ranges.ranges.items
    c.if-self.false c.in-Some.ensures lies
    (subst (λ (s : Shape). CoversRuns s (runs_of c.in-Some.stored.now.runs) c.in-Some.stored.now.length c.in_ok-ranges.ranges.items) c.shape-shape.ensures
    (subst (λ (rs : List Run). CoversRuns c.shape-shape.result rs c.in-Some.stored.now.length c.in_ok-ranges.ranges.items) c.runs.ensures.shortest c.in_ok-ranges.ensures))
    running.keeps.keeps.size
    (λ honest. g.met.D.Disk.whole c.self.inside.disk honest))
