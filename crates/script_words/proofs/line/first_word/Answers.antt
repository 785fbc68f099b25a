use Rattle.std.proofs.Common.{◌<◌, length, sym, ◌∙◌, arith, false-eqb}
use Rattle.script_words.proofs.WordLemmas.{ends_at_space, words_of-split, first_word_is_some}
use Rattle.script_words.proofs.line.first_word.Goals as goal

pub returns : goal.returns
returns c =
    let text = c.without_spaces-text.result.now in
    let ends = ends_at_space text c.find_byte.result c.find_byte.ensures in
    let some : 0 < length text = omega (arith, false-eqb _ 0 (sym c.if-is_empty.false ∙ c.is_empty.ensures)) in
    sym c.without_spaces-text.ensures.words ∙ rw (c.split_at.ensures.front, c.split_at.ensures.back, c.unwrap_or-end.ensures) (
    words_of-split text _ (first_word_is_some text _ ends some c.without_spaces-text.ensures.begins) ends.within ends.visible ends.stops)
