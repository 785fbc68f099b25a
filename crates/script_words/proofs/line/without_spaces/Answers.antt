use Rattle.std.proofs.Common.{sym, ◌∙◌}
use Rattle.script_words.proofs.WordLemmas.{skips_spaces, words_of-drop_spaces, first_visible_of-drop_spaces, first_visible_of-begins, begins-drop}
use Rattle.script_words.proofs.line.without_spaces.Goals as goal

pub returns-clause-words : goal.returns-clause-words
returns-clause-words c =
    let skips = skips_spaces c.args.line.now c.find_not_byteset.result c.find_not_byteset.ensures in
    rw (c.split_at.ensures.back, c.unwrap_or-start.ensures) (words_of-drop_spaces _ _ skips.within skips.spaces)

pub returns-clause-visible : goal.returns-clause-visible
returns-clause-visible c =
    let skips = skips_spaces c.args.line.now c.find_not_byteset.result c.find_not_byteset.ensures in
    rw (c.split_at.ensures.back, c.unwrap_or-start.ensures) (
    sym (first_visible_of-drop_spaces _ _ skips.within skips.spaces) ∙ first_visible_of-begins _ (begins-drop _ _ skips))

pub returns-clause-begins : goal.returns-clause-begins
returns-clause-begins c =
    let skips = skips_spaces c.args.line.now c.find_not_byteset.result c.find_not_byteset.ensures in
    rw (c.split_at.ensures.back, c.unwrap_or-start.ensures) (begins-drop _ _ skips)
