use Rattle.std.proofs.Common.{◌≡◌, ◌∙◌, ap, sym, arith, ℕ, ◌+◌, ◌%◌, ◌<◌, List, inr, subst}
use Rattle.journal_layout.specs.declared.shape.Shape.{Shape}
use Rattle.intake.specs.Step.{longer}
use Rattle.intake.specs.Contents.{zero_block}
use Rattle.intake.specs.Growth.{Adds}
use Rattle.intake.specs.Parts.{taken_in}
use Rattle.intake.specs.StreamView.{parts_of, facts_of}
use Rattle.intake.proofs.BlockLemmas.{cleared, needed, taken_lengthened, taken_refreshed}
use Rattle.intake.proofs.blocks.grow.Goals.{then-n-eq0-via-then-n-eq0, then-n-eq0-via-else-n-eq0+then-stream-n-lt4096}
use Rattle.intake.proofs.RestLemmas.{rests_still}
use Rattle.intake.proofs.blocks.grow.Goals as goal

pub returns-then-n-eq0-clause-bytes : goal.returns-then-n-eq0-clause-bytes
returns-then-n-eq0-clause-bytes g c honest j same =
    taken_lengthened j (g.D.Disk.seen c.args.disk.now) (parts_of c.args.block.now c.args.stream.now) c.args.n c.requires.fine.block
    (elim c.then-n-eq0.branch as (λ _. c.args.stream.now.length % 4096 + c.args.n < 4096) [ then-n-eq0-via-then-n-eq0 w ↦ omega (arith, w.if-n-eq0.true) | then-n-eq0-via-else-n-eq0+then-stream-n-lt4096 w ↦ omega (arith, w.if-stream-n-lt4096.true) ])

pub returns-clause-step : goal.returns-clause-step
returns-clause-step g c =
    let zeros : c.clear_from.new.self ≡ zero_block = c.clear_from.ensures ∙ cleared c.args.block.now c.requires.fine.block in
    let short = c.if-n-limit.false in
    let limit = c.requires.fine.limit in (
      omega arith,
      inr (
        needed c.args.stream.now.length c.args.n c.if-n-eq0.false c.if-stream-n-lt4096.false c.requires.room,
        c.in_ok-add_block.ensures.reply,
        c.in_ok-add_block.ensures.more,
        ap (λ (x : List ℕ). record (parts_of c.args.block.now c.args.stream.now) { facts = longer (facts_of c.args.stream.now) c.args.n c.add_block.new.runs; block = x }) zeros,
      ),
    )

pub returns-clause-bytes : goal.returns-clause-bytes
returns-clause-bytes g c honest j same =
    let zeros : c.clear_from.new.self ≡ zero_block = c.clear_from.ensures ∙ cleared c.args.block.now c.requires.fine.block in
    let adds : Adds j.standing.shape c.args.free.now c.args.stream.now.runs c.add_block.new.runs c.args.block.now (g.D.Disk.seen c.args.disk.now) (g.D.Disk.seen c.add_block.new.disk) =
    subst (λ (x : Shape). Adds x c.args.free.now c.args.stream.now.runs c.add_block.new.runs c.args.block.now (g.D.Disk.seen c.args.disk.now) (g.D.Disk.seen c.add_block.new.disk)) (sym same)
    (subst (λ (x : List ℕ). Adds c.args.shape c.args.free.now c.args.stream.now.runs c.add_block.new.runs x (g.D.Disk.seen c.args.disk.now) (g.D.Disk.seen c.add_block.new.disk)) c.bytes.ensures (c.in_ok-add_block.ensures.added honest)) in
    ap (λ (x : List ℕ). taken_in j (g.D.Disk.seen c.add_block.new.disk) (record (parts_of c.args.block.now c.args.stream.now) { facts = longer (facts_of c.args.stream.now) c.args.n c.add_block.new.runs; block = x })) zeros
    ∙ taken_refreshed j c.args.free.now (g.D.Disk.seen c.args.disk.now) (g.D.Disk.seen c.add_block.new.disk) (parts_of c.args.block.now c.args.stream.now) c.args.n c.add_block.new.runs c.requires.fine.block c.requires.held
    (needed c.args.stream.now.length c.args.n c.if-n-eq0.false c.if-stream-n-lt4096.false c.requires.room) adds

pub returns-then-n-limit-clause-rests : goal.returns-then-n-limit-clause-rests
returns-then-n-limit-clause-rests g c j shape none guards = rests_still g.D.Disk c.args.disk.now j (g.met.D.Disk.only_now c.args.disk.now) guards

pub returns-then-n-eq0-clause-rests : goal.returns-then-n-eq0-clause-rests
returns-then-n-eq0-clause-rests g c j shape none guards = rests_still g.D.Disk c.args.disk.now j (g.met.D.Disk.only_now c.args.disk.now) guards
