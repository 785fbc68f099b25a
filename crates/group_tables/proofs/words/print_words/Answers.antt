use Rattle.std.proofs.Common.{◌≡◌, ◌≤◌, ◌-◌, List, [], ◌∷◌, ◌++◌, ap, drop, get_or, length, map, take, ◌∙◌, arith}
use Rattle.std.proofs.lemmas.List.{take_all}
use Rattle.crash_signatures.specs.WordViews.{said}
use Rattle.crash_signatures.specs.declared.words.Word.{Word}
use Rattle.script_streams.specs.PrintLaws.{prints_as, prints_then}
use Rattle.group_tables.specs.Words.{others_text, word_text, words_text}
use Rattle.group_tables.proofs.words.print_words.Goals as goal

from_first : (ws : List Word) (w : Word) → 1 ≤ length ws → w ≡ get_or ws 0 w → word_text (said w) ++ others_text (map said (take (length ws - 1) (drop 1 ws))) ≡ words_text (map said ws)
from_first [] w some is = absurd (omega (arith, some))
from_first (x ∷ xs) w some is =
    let on : length (x ∷ xs) - 1 ≡ length xs = omega arith in
    ap (λ (v : Word). word_text (said v) ++ others_text (map said (take (length (x ∷ xs) - 1) xs))) is
    ∙ ap (λ (vs : List Word). word_text (said x) ++ others_text (map said vs)) (ap (λ n. take n xs) on ∙ take_all (length xs) xs (omega arith))

pub returns-in-len1-up : goal.returns-in-len1-up
returns-in-len1-up g c =
    prints_as (from_first c.args.words.now c.first-item.result c.in-len1-up.len_at_least c.first-item.is)
    (prints_then c.print_word.ensures c.print_others.ensures)
