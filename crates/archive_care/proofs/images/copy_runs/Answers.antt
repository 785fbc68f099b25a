use Rattle.std.proofs.Common.{◌≡◌, ◌∙◌, ◌+◌, ◌*◌, ℕ, List, length, get_or, take, ap, sym, arith}
use Rattle.disk_model.specs.Places.{part}
use Rattle.disk_model.specs.PartLaws.{part_is}
use Rattle.extents.specs.FreeLaws.{run_of}
use Rattle.extents.specs.Runs.{run_blocks, blocks_of}
use Rattle.intake.specs.Blocks.{block_start, joined}
use Rattle.archive_care.proofs.ByteLemmas.{copies_nothing, piece_ends, piece_more}
use Rattle.archive_care.proofs.RunLemmas.{run_bytes, count_more, count_within, joined_more}
use Rattle.archive_care.proofs.images.copy_runs.Goals as goal

pub loop-run-init : goal.loop-run-init
loop-run-init g c = record {
  copies = copies_nothing g.D.Disk g.N.Disk c.args.from.now c.args.onto.now c.args.target (4096 * length (blocks_of c.args.runs.now)) (g.met.D.Disk.only_now c.args.from.now) (g.met.N.Disk.only_now c.args.onto.now);
  place = omega arith;
  there = λ honest honest_onto. part_is (g.N.Disk.seen c.args.onto.now) c.args.target 0;
}

pub copy_blocks-requires-clause-target : goal.copy_blocks-requires-clause-target
copy_blocks-requires-clause-target g c =
    let within = count_within c.args.runs.now c.loop-run.run-index (run_of 0 0) c.loop-run-test.true in
    omega (arith, c.loop-run.invariant.place, within, c.loop-run.invariant.copies.fills.size, c.requires.target)

pub returns-in_err-copy_blocks-clause-copies : goal.returns-in_err-copy_blocks-clause-copies
returns-in_err-copy_blocks-clause-copies g c =
    let i = c.loop-run.run-index in
    let within = count_within c.args.runs.now i (run_of 0 0) c.loop-run-test.true in
    piece_ends g.D.Disk g.N.Disk c.args.from.now c.loop-run.from c.copy_blocks.new.from c.args.onto.now c.loop-run.onto c.copy_blocks.new.onto
    c.loop-run.at (4096 * (get_or c.args.runs.now i (run_of 0 0)).count) c.args.target (4096 * length (blocks_of c.args.runs.now))
    (omega (arith, c.loop-run.invariant.place)) (omega (arith, c.loop-run.invariant.place, within))
    c.loop-run.invariant.copies c.copy_blocks.ensures.copies

pub overflow_add-at : goal.overflow_add-at
overflow_add-at g c =
    let within = count_within c.args.runs.now c.loop-run.run-index (run_of 0 0) c.loop-run-test.true in
    omega (arith, c.loop-run.invariant.place, within, c.from-in-loop-run.ensures, c.requires.target, g.met.N.Disk.addressed c.args.onto.now)

pub loop-run-preserved : goal.loop-run-preserved
loop-run-preserved g c =
    let so_far = c.loop-run.invariant in
    let runs = c.args.runs.now in
    let i = c.loop-run.run-index in
    let r = get_or runs i (run_of 0 0) in
    let shape = c.args.shape in
    let n = 4096 * length (blocks_of (take i runs)) in
    let m = 4096 * r.count in
    let more = count_more runs i (run_of 0 0) c.loop-run-test.true in
    let within = count_within runs i (run_of 0 0) c.loop-run-test.true in
    let next : 4096 * length (blocks_of (take (i + 1) runs)) ≡ n + m = omega (arith, more) in
    let source : c.data_start.result + 4096 * c.from.result ≡ block_start shape r.start = omega (arith, c.data_start.ensures, c.from.ensures) in
    record {
      copies =
          piece_ends g.D.Disk g.N.Disk c.args.from.now c.loop-run.from c.copy_blocks.new.from c.args.onto.now c.loop-run.onto c.copy_blocks.new.onto
          c.loop-run.at m c.args.target (4096 * length (blocks_of runs)) (omega (arith, so_far.place)) (omega (arith, so_far.place, within))
          so_far.copies c.copy_blocks.ensures.copies;
      place = omega (arith, so_far.place, c.from-in-loop-run.ensures, more);
      there = λ honest honest_onto.
          ap (part (g.N.Disk.seen c.copy_blocks.new.onto) c.args.target) next
          ∙ piece_more g.D.Disk g.N.Disk c.args.from.now c.loop-run.from c.copy_blocks.new.from c.args.onto.now c.loop-run.onto c.copy_blocks.new.onto
          c.loop-run.at n m c.args.target (4096 * length (blocks_of runs)) (λ (b : List ℕ). joined shape b (blocks_of (take i runs))) (λ (b : List ℕ). joined shape b (run_blocks r))
          so_far.place (omega (arith, within)) so_far.copies so_far.there c.copy_blocks.ensures.copies
          (λ still still_onto. c.in_ok-copy_blocks.ensures.there still still_onto
          ∙ ap (λ (p : ℕ). part (g.D.Disk.seen c.loop-run.from) p m) source
          ∙ run_bytes shape (g.D.Disk.seen c.loop-run.from) r.start r.count)
          honest honest_onto
          ∙ sym (joined_more shape (g.D.Disk.seen c.args.from.now) runs i (run_of 0 0) c.loop-run-test.true);
    }
