use Rattle.std.proofs.Common.{◌≡◌, ◌∙◌, ◌+◌, ◌*◌, ℕ, List, ap, sym, arith}
use Rattle.disk_model.specs.Places.{part}
use Rattle.disk_model.specs.PartLaws.{part_is, part_split}
use Rattle.archive_care.proofs.ByteLemmas.{copies_nothing, piece_ends, piece_more}
use Rattle.archive_care.proofs.bytes.copy_blocks.Goals as goal

pub loop-done-init : goal.loop-done-init
loop-done-init g c = record {
  copies = copies_nothing g.D.Disk g.N.Disk c.args.from.now c.args.onto.now c.args.target (4096 * c.args.count) (g.met.D.Disk.only_now c.args.from.now) (g.met.N.Disk.only_now c.args.onto.now);
  there = λ honest honest_onto. part_is (g.N.Disk.seen c.args.onto.now) c.args.target 0 ∙ sym (part_is (g.D.Disk.seen c.args.from.now) c.args.source 0);
}

pub returns-in_err-copy_block-clause-copies : goal.returns-in_err-copy_block-clause-copies
returns-in_err-copy_block-clause-copies g c =
    piece_ends g.D.Disk g.N.Disk c.args.from.now c.loop-done.from c.copy_block.new.from c.args.onto.now c.loop-done.onto c.copy_block.new.onto
    (c.args.target + 4096 * c.from-at.result) 4096 c.args.target (4096 * c.args.count) (omega arith) (omega (arith, c.from-at.ensures, c.loop-done-test.true))
    c.loop-done.invariant.copies c.copy_block.ensures.copies

pub loop-done-preserved : goal.loop-done-preserved
loop-done-preserved g c =
    let so_far = c.loop-done.invariant in
    let n = 4096 * c.loop-done.done in
    let place : c.args.target + 4096 * c.from-at.result ≡ c.args.target + n = omega (arith, c.from-at.ensures) in
    let source : c.args.source + 4096 * c.from-at.result ≡ c.args.source + n = omega (arith, c.from-at.ensures) in
    let next : 4096 * (c.loop-done.done + 1) ≡ n + 4096 = omega arith in
    record {
      copies =
          piece_ends g.D.Disk g.N.Disk c.args.from.now c.loop-done.from c.copy_block.new.from c.args.onto.now c.loop-done.onto c.copy_block.new.onto
          (c.args.target + 4096 * c.from-at.result) 4096 c.args.target (4096 * c.args.count) (omega arith) (omega (arith, c.from-at.ensures, c.loop-done-test.true))
          so_far.copies c.copy_block.ensures.copies;
      there = λ honest honest_onto.
          ap (part (g.N.Disk.seen c.copy_block.new.onto) c.args.target) next
          ∙ piece_more g.D.Disk g.N.Disk c.args.from.now c.loop-done.from c.copy_block.new.from c.args.onto.now c.loop-done.onto c.copy_block.new.onto
          (c.args.target + 4096 * c.from-at.result) n 4096 c.args.target (4096 * c.args.count) (λ (b : List ℕ). part b c.args.source n) (λ (b : List ℕ). part b (c.args.source + n) 4096)
          place (omega (arith, c.loop-done-test.true)) so_far.copies so_far.there c.copy_block.ensures.copies
          (λ still still_onto. c.in_ok-copy_block.ensures.there still still_onto ∙ ap (λ (p : ℕ). part (g.D.Disk.seen c.loop-done.from) p 4096) source)
          honest honest_onto
          ∙ sym (part_split (g.D.Disk.seen c.args.from.now) c.args.source n 4096)
          ∙ ap (part (g.D.Disk.seen c.args.from.now) c.args.source) (sym next);
    }
