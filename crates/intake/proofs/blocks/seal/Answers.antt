use Rattle.std.proofs.Common.{◌∙◌, refl, sym, subst, List, ℕ}
use Rattle.extents.specs.FreeSet.{free_count}
use Rattle.intake.specs.Closing.{ClosesBytes, ClosesPadded}
use Rattle.intake.specs.StreamView.{parts_of}
use Rattle.intake.proofs.CloseLemmas.{closed_whole, closed_part, padded_whole, padded_part, sealed_whole, sealed_part, always}
use Rattle.intake.proofs.RestLemmas.{rests_then}
use Rattle.intake.proofs.blocks.seal.Goals as goal

-- no bytes are left over
pub returns-then-used-eq0-clause-step : goal.returns-then-used-eq0-clause-step
returns-then-used-eq0-clause-step g c = sealed_whole (free_count c.args.free.now) (parts_of c.args.block.now c.args.stream.now) c.make_stable.result c.if-used-eq0.true c.make_stable.ensures.reply

pub returns-then-used-eq0-clause-bytes : goal.returns-then-used-eq0-clause-bytes
returns-then-used-eq0-clause-bytes g c honest =
    let s = parts_of c.args.block.now c.args.stream.now in
    always c.make_stable.result _
    (subst (λ (b : List ℕ). ClosesBytes c.args.shape s c.args.stream.now.runs (g.D.Disk.seen c.args.disk.now) b) (sym (c.make_stable.ensures.seen honest))
    (closed_whole c.args.shape c.args.free.now (g.D.Disk.seen c.args.disk.now) s c.requires.map (g.met.D.Disk.whole c.args.disk.now honest ∙ c.requires.disk)
    c.requires.held c.requires.filled c.if-used-eq0.true))

pub returns-then-used-eq0-clause-padded : goal.returns-then-used-eq0-clause-padded
returns-then-used-eq0-clause-padded g c honest =
    let s = parts_of c.args.block.now c.args.stream.now in
    always c.make_stable.result _
    (subst (λ (b : List ℕ). ClosesPadded c.args.shape s c.args.stream.now.runs (g.D.Disk.seen c.args.disk.now) b) (sym (c.make_stable.ensures.seen honest))
    (padded_whole c.args.shape c.args.free.now (g.D.Disk.seen c.args.disk.now) s c.requires.map (g.met.D.Disk.whole c.args.disk.now honest ∙ c.requires.disk)
    c.requires.held c.if-used-eq0.true))

-- the last block is written
pub returns-clause-step : goal.returns-clause-step
returns-clause-step g c =
    sealed_part (free_count c.args.free.now) (parts_of c.args.block.now c.args.stream.now) _ c.make_stable-2.result c.if-used-eq0.false c.in_ok-add_block.ensures.reply c.in_ok-add_block.ensures.more refl
    c.make_stable-2.ensures.reply

pub returns-clause-bytes : goal.returns-clause-bytes
returns-clause-bytes g c honest =
    let s = parts_of c.args.block.now c.args.stream.now in
    always c.make_stable-2.result _
    (subst (λ (b : List ℕ). ClosesBytes c.args.shape s c.add_block.new.runs (g.D.Disk.seen c.args.disk.now) b) (sym (c.make_stable-2.ensures.seen (c.add_block.ensures.disk.honesty ∙ honest)))
    (closed_part c.args.shape c.args.free.now (g.D.Disk.seen c.args.disk.now) (g.D.Disk.seen c.add_block.new.disk) _ s c.add_block.new.runs c.requires.map (g.met.D.Disk.whole c.args.disk.now honest ∙ c.requires.disk)
    c.requires.held c.requires.filled c.requires.block (c.in_ok-add_block.ensures.added honest) (c.bytes.ensures ∙ c.clear_from.ensures)))

pub returns-clause-padded : goal.returns-clause-padded
returns-clause-padded g c honest =
    let s = parts_of c.args.block.now c.args.stream.now in
    always c.make_stable-2.result _
    (subst (λ (b : List ℕ). ClosesPadded c.args.shape s c.add_block.new.runs (g.D.Disk.seen c.args.disk.now) b) (sym (c.make_stable-2.ensures.seen (c.add_block.ensures.disk.honesty ∙ honest)))
    (padded_part c.args.shape c.args.free.now (g.D.Disk.seen c.args.disk.now) (g.D.Disk.seen c.add_block.new.disk) _ s c.add_block.new.runs c.requires.map (g.met.D.Disk.whole c.args.disk.now honest ∙ c.requires.disk)
    c.requires.held c.if-used-eq0.false c.requires.block (c.in_ok-add_block.ensures.added honest) (c.bytes.ensures ∙ c.clear_from.ensures)))

pub returns-clause-rests : goal.returns-clause-rests
returns-clause-rests g c j shape spares guards =
    let first = c.add_block.ensures.rests j shape spares guards in
    rests_then g.D.Disk c.args.disk.now c.add_block.new.disk c.make_stable-2.new.disk j c.add_block.ensures.disk.honesty first (c.make_stable-2.ensures.rests j first.guards)
