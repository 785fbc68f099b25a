use Rattle.std.proofs.Common.{false, List, ℕ, length, subst, take, ap, ◌∙◌, arith}
use Rattle.std.proofs.lemmas.List.{length-drop}
use Rattle.windowed_search.specs.TextBytes.{AreOf, front_len}
use Rattle.windowed_search.proofs.TextLemmas.{rest_is, some_of, texts_some}
use Rattle.windowed_search.proofs.memory_texts.MemoryTexts.feed_some.Goals as goal

pub returns-clause-some : goal.returns-clause-some
returns-clause-some c =
    let vs = c.args.values.now in
    let m = c.front_len-text.result in
    let left = length-drop m vs in
    let long = ap length (rest_is vs m) in (
      some_of vs m c.front_len-others.result c.requires.some c.front_len-text.ensures.count (c.front_len-others.ensures.count ∙ ap (front_len false) (rest_is vs m)),
      omega (arith, left, long, c.front_len-text.ensures.within, c.front_len-others.ensures.within),
    )

pub returns-clause-texts : goal.returns-clause-texts
returns-clause-texts c space so_far values =
    let vs = c.args.values.now in
    let m = c.front_len-text.result in
    let n = c.front_len-others.result in
    let left = length-drop m vs in
    let long = ap length (rest_is vs m) in
    let parts = texts_some space vs c.args.self.now.address m n (omega (arith, left, long, c.front_len-text.ensures.within, c.front_len-others.ensures.within)) values in
    let are = subst (λ (xs : List ℕ). AreOf false (take n xs)) (rest_is vs m) c.front_len-others.ensures.are in
    c.in_ok-leave.ensures.texts space (c.in_ok-take_text.ensures.texts space so_far parts.0) (parts.1 c.take_text.new.self.address c.in_ok-take_text.ensures.address are)
