use Rattle.std.proofs.Common.{◌≡◌, ℕ, arith, refl, subst, ◌∙◌}
use Rattle.std.proofs.lemmas.List.{length-map}
use Rattle.intake.specs.Parts.{state_of}
use Rattle.inspector_cli.proofs.CloseLemmas.{ClosesBelow, closes_on, closes_none, closed_all}
use Rattle.intake.specs.StayLaws.{stays_none, stays_then}
use Rattle.inspector_cli.proofs.run.close_streams.Goals as goal

pub loop-slot-init : goal.loop-slot-init
loop-slot-init g c = record { closed = closes_none (state_of c.args.archive.now); stays = stays_none g.D.Disk c.args.archive.now; same = refl; few = λ some. absurd (omega arith) }

pub loop-slot-preserved : goal.loop-slot-preserved
loop-slot-preserved g c = record {
  closed =
      closes_on c.loop-slot.slot (state_of c.args.archive.now) (state_of c.loop-slot.archive) (state_of c.abandon.new.self) c.abandon.result c.loop-slot.invariant.closed c.abandon.ensures.step c.abandon.ensures.quiet;
  stays =
      stays_then g.D.Disk c.args.archive.now c.loop-slot.archive c.abandon.new.self c.loop-slot.invariant.stays c.abandon.ensures.stays;
  same = c.abandon.ensures.disk ∙ c.loop-slot.invariant.same;
  few = λ some. rw length-map c.abandon.ensures.slots;
}

pub returns : goal.returns
returns g c =
    let last : c.loop-slot.slot ≡ 8 = omega arith in
    closed_all g.D.Disk c.args.archive.now c.loop-slot.archive
    (subst (λ (n : ℕ). ClosesBelow n (state_of c.args.archive.now) (state_of c.loop-slot.archive)) last c.loop-slot.invariant.closed)
    (c.loop-slot.invariant.few (omega arith)) c.loop-slot.invariant.same c.loop-slot.invariant.stays
