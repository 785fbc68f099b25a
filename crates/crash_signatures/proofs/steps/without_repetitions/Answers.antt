use Rattle.std.proofs.Common.{List, map, ap, ◌∙◌, arith}
use Rattle.crash_signatures.specs.Steps.{count_left}
use Rattle.crash_signatures.specs.WordViews.{said}
use Rattle.crash_signatures.specs.declared.words.Word.{Word}
use Rattle.crash_signatures.proofs.StepLemmas.{repeated}
use Rattle.crash_signatures.proofs.steps.without_repetitions.Goals as goal

pub loop-word-preserved : goal.loop-word-preserved
loop-word-preserved c = record {
  value = repeated c.args.words.now c.loop-word.kept.items c.push.new.self.items c.truncate.new.self.items c.loop-word.word-index c.count_left-left.result c.word-item.result c.copied.result
      c.loop-word-test.true c.word-item.is c.copied.ensures c.push.ensures.items
      (c.count_left-left.ensures.value ∙ ap (λ (l : List Word). count_left (map said l)) c.as_slice.ensures.value) c.truncate.ensures.items c.loop-word.invariant.value;
  room =
      let a = c.truncate.ensures.len in
      let b = c.push.ensures.len in
      let r = c.loop-word.invariant.room in
      omega (arith, a, b, r);
}
