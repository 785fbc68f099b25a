use Rattle.std.proofs.Common.{◌≡◌, ◌∙◌, ◌<◌, ◌≤◌, ◌+◌, ℕ, List, Some, ap, arith, drop, get_or, length, sym}
use Rattle.std.proofs.lemmas.Bool.{eq-eqb, eqb-true, false≢true}
use Rattle.std.proofs.lemmas.List.{length-set}
use Rattle.handler_files.specs.Counters.{counters}
use Rattle.handler_files.proofs.LoopLemmas.{as_lines, end_only, end_same, lines, next_line, none_left, only_step, same_step}
use Rattle.handler_files.proofs.ReadingLemmas.{counts_read, none_is, some_is}
use Rattle.handler_files.proofs.counts.Counts.of_text.Goals as goal

pub returns-in_err-line-clause-back : goal.returns-in_err-line-clause-back
returns-in_err-line-clause-back c = λ wanted are is. absurd (
    let i = c.loop-index.index in
    let low : i < 25 = omega (arith, c.loop-index-test.true) in
    let so = c.loop-index.invariant.back wanted are (is ∙ as_lines wanted are.count) in
    let next = next_line i low c.counter_at.result c.counter_at.ensures wanted c.loop-index.left.now are.count so.1 in
    let small = are.small i 0 (let many = are.count in omega (arith, many, low)) in
    let found = c.read_line.ensures.back (get_or wanted i 0) (lines (drop (i + 1) counters) (drop (i + 1) wanted)) small next in
    none_is (get_or wanted i 0, lines (drop (i + 1) counters) (drop (i + 1) wanted)) (sym (counts_read c.in_err-line.was) ∙ found))

pub loop-index-preserved : goal.loop-index-preserved
loop-index-preserved c =
    let i = c.loop-index.index in
    let low : i < 25 = omega (arith, c.loop-index-test.true) in
    let before = c.loop-index.invariant in
    record {
      long = length-set c.loop-index.counts i c.in_ok-line.line.0 ∙ before.long;
      only = only_step i low c.counter_at.result c.counter_at.ensures c.loop-index.counts c.args.text.now c.loop-index.left.now c.in_ok-line.line.1.now c.in_ok-line.line.0 before.long before.only c.in_ok-line.ensures.only;
      back = λ wanted are is. (
          let so = before.back wanted are is in
          let next = next_line i low c.counter_at.result c.counter_at.ensures wanted c.loop-index.left.now are.count so.1 in
          let small = are.small i 0 (let many = are.count in omega (arith, many, low)) in
          let rest = lines (drop (i + 1) counters) (drop (i + 1) wanted) in
          let found = c.read_line.ensures.back (get_or wanted i 0) rest small next in
          let pair = some_is (c.in_ok-line.line.0, c.in_ok-line.line.1.now) (get_or wanted i 0, rest) (sym (counts_read c.in_ok-line.was) ∙ found) in
          (same_step i low c.counter_at.result c.counter_at.ensures wanted c.loop-index.counts c.in_ok-line.line.0 are.count before.long so.0 (ap (λ (p : ℕ × List ℕ). p.0) pair), ap (λ (p : ℕ × List ℕ). p.1) pair));
    }

pub returns-then-is_whole-clause-back : goal.returns-then-is_whole-clause-back
returns-then-is_whole-clause-back c = λ wanted are is.
    let high : 25 ≤ c.loop-index.index = omega (arith, c.loop-index-test.false) in
    let so = c.loop-index.invariant.back wanted are (is ∙ as_lines wanted are.count) in
    ap (λ (l : List ℕ). Some l) (end_same c.loop-index.counts wanted c.loop-index.index high c.loop-index.invariant.long are.count so.0)

pub returns-then-is_whole-clause-only : goal.returns-then-is_whole-clause-only
returns-then-is_whole-clause-only c =
    let high : 25 ≤ c.loop-index.index = omega (arith, c.loop-index-test.false) in
    let none = eqb-true (length c.loop-index.left.now) 0 (sym c.is_empty-is_whole.ensures ∙ c.if-is_whole.true) in
    end_only c.loop-index.counts c.args.text.now c.loop-index.left.now c.loop-index.index high c.loop-index.invariant.long c.loop-index.invariant.only none

pub returns-else-is_whole-clause-back : goal.returns-else-is_whole-clause-back
returns-else-is_whole-clause-back c = λ wanted are is. absurd (
    let high : 25 ≤ c.loop-index.index = omega (arith, c.loop-index-test.false) in
    let so = c.loop-index.invariant.back wanted are (is ∙ as_lines wanted are.count) in
    let none = none_left wanted c.loop-index.left.now c.loop-index.index high so.1 in
    false≢true (sym (sym c.is_empty-is_whole.ensures ∙ c.if-is_whole.false) ∙ eq-eqb (length c.loop-index.left.now) 0 (ap (λ (l : List ℕ). length l) none)))
