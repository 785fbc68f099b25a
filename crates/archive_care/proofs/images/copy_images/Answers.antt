use Rattle.std.proofs.Common.{◌≡◌, ◌∙◌, ◌+◌, ◌*◌, ℕ, List, length, map, take, ap, sym, arith}
use Rattle.disk_model.specs.Places.{part}
use Rattle.disk_model.specs.PartLaws.{part_is}
use Rattle.extents.specs.RunLaws.{blocks_of_runs}
use Rattle.extents.specs.Runs.{blocks_of}
use Rattle.intake.specs.Blocks.{joined}
use Rattle.journal_layout.specs.Case.{case_of}
use Rattle.journal_layout.specs.Folding.{used_blocks}
use Rattle.archive_care.proofs.ByteLemmas.{copies_nothing, piece_ends, piece_more}
use Rattle.archive_care.proofs.PlaceLemmas.{used_within}
use Rattle.archive_care.proofs.RunLemmas.{blocks_used_more, images_more}
use Rattle.archive_care.proofs.images.copy_images.Goals as goal

pub loop-entry-init : goal.loop-entry-init
loop-entry-init g c = record {
  copies = copies_nothing g.D.Disk g.N.Disk c.args.from.now c.args.onto.now c.args.target (4096 * length (used_blocks (map case_of c.args.entries.now))) (g.met.D.Disk.only_now c.args.from.now) (g.met.N.Disk.only_now c.args.onto.now);
  place = omega arith;
  there = λ honest honest_onto. part_is (g.N.Disk.seen c.args.onto.now) c.args.target 0;
}

pub copy_runs-requires-clause-target : goal.copy_runs-requires-clause-target
copy_runs-requires-clause-target g c =
    let back = ap blocks_of c.runs.ensures.shortest ∙ blocks_of_runs c.entry-item.result.runs in
    let within = used_within c.args.entries.now c.loop-entry.entry-index c.entry-item.result c.loop-entry-test.true c.entry-item.is in
    omega (arith, c.loop-entry.invariant.place, within, ap length back, c.loop-entry.invariant.copies.fills.size, c.requires.target)

pub returns-in_err-at-clause-copies : goal.returns-in_err-at-clause-copies
returns-in_err-at-clause-copies g c =
    let i = c.loop-entry.entry-index in
    let e = c.entry-item.result in
    let es = c.args.entries.now in
    let back : blocks_of c.runs.result.now ≡ e.runs = ap blocks_of c.runs.ensures.shortest ∙ blocks_of_runs e.runs in
    let within = used_within es i e c.loop-entry-test.true c.entry-item.is in
    piece_ends g.D.Disk g.N.Disk c.args.from.now c.loop-entry.from c.copy_runs.new.from c.args.onto.now c.loop-entry.onto c.copy_runs.new.onto
    c.loop-entry.at (4096 * length (blocks_of c.runs.result.now)) c.args.target (4096 * length (used_blocks (map case_of es)))
    (omega (arith, c.loop-entry.invariant.place)) (omega (arith, c.loop-entry.invariant.place, within, ap length back))
    c.loop-entry.invariant.copies c.copy_runs.ensures.copies

pub loop-entry-preserved : goal.loop-entry-preserved
loop-entry-preserved g c =
    let so_far = c.loop-entry.invariant in
    let i = c.loop-entry.entry-index in
    let e = c.entry-item.result in
    let es = c.args.entries.now in
    let shape = c.args.shape in
    let back : blocks_of c.runs.result.now ≡ e.runs = ap blocks_of c.runs.ensures.shortest ∙ blocks_of_runs e.runs in
    let within = used_within es i e c.loop-entry-test.true c.entry-item.is in
    let n = 4096 * length (used_blocks (map case_of (take i es))) in
    let m = 4096 * length (blocks_of c.runs.result.now) in
    let more = blocks_used_more es i e c.loop-entry-test.true c.entry-item.is in
    let next : 4096 * length (used_blocks (map case_of (take (i + 1) es))) ≡ n + m = omega (arith, more, ap length back) in
    record {
      copies =
          piece_ends g.D.Disk g.N.Disk c.args.from.now c.loop-entry.from c.copy_runs.new.from c.args.onto.now c.loop-entry.onto c.copy_runs.new.onto
          c.loop-entry.at m c.args.target (4096 * length (used_blocks (map case_of es)))
          (omega (arith, so_far.place)) (omega (arith, so_far.place, within, ap length back))
          so_far.copies c.copy_runs.ensures.copies;
      place = omega (arith, so_far.place, c.in_ok-at.ensures.end, more, ap length back);
      there = λ honest honest_onto.
          ap (part (g.N.Disk.seen c.copy_runs.new.onto) c.args.target) next
          ∙ piece_more g.D.Disk g.N.Disk c.args.from.now c.loop-entry.from c.copy_runs.new.from c.args.onto.now c.loop-entry.onto c.copy_runs.new.onto
          c.loop-entry.at n m c.args.target (4096 * length (used_blocks (map case_of es))) (λ (b : List ℕ). joined shape b (used_blocks (map case_of (take i es)))) (λ (b : List ℕ). joined shape b e.runs)
          so_far.place (omega (arith, within, ap length back)) so_far.copies so_far.there c.copy_runs.ensures.copies
          (λ still still_onto. c.in_ok-at.ensures.there still still_onto ∙ ap (joined shape (g.D.Disk.seen c.loop-entry.from)) back)
          honest honest_onto
          ∙ sym (images_more shape (g.D.Disk.seen c.args.from.now) es i e c.loop-entry-test.true c.entry-item.is);
    }
