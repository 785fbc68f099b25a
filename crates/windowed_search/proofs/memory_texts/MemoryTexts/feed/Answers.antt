use Rattle.std.proofs.Common.{length, take, ap, sym, arith, ◌∙◌}
use Rattle.std.proofs.lemmas.List.{length-drop}
use Rattle.windowed_search.proofs.TextLemmas.{rest_is, values_next}
use Rattle.windowed_search.proofs.memory_texts.MemoryTexts.feed.Goals as goal

pub loop-at-preserved : goal.loop-at-preserved
loop-at-preserved c =
    let so_far = c.loop-at.invariant in
    let took = c.in_ok-at.ensures in
    let vs = c.args.values.now in
    let at = c.loop-at.at in
    let n = c.in_ok-at.field-0 in
    let left = length-drop at vs in
    let long = ap length (rest_is vs at) in
    let few = took.some.1 in
    let more = c.loop-at-test.true in
    let address = so_far.address in
    let next = took.address in
    record {
      within = omega (arith, left, long, few, more);
      least = took.least ∙ so_far.least;
      address = omega (arith, address, next);
      texts = λ space start whole. took.texts space (so_far.texts space start whole) (values_next space vs c.args.self.now.address at n c.loop-at.self.address (omega (arith, left, long, few, more)) address whole ∙ ap (take n) (sym (rest_is vs at)));
    }
