use Rattle.std.proofs.Common.{List, map, ◌++◌, ◌-◌, length, take, drop, ap, ◌∙◌}
use Rattle.crash_signatures.specs.WordViews.{said}
use Rattle.crash_signatures.specs.Words.{WordSaid}
use Rattle.crash_signatures.specs.declared.words.Word.{Word}
use Rattle.crash_signatures.proofs.SliceLemmas.{said_from, said_to}
use Rattle.crash_signatures.proofs.recursion.turned.Goals as goal

pub returns : goal.returns
returns c =
    c.add_words-2.ensures.value
    ∙ ap (λ (l : List WordSaid). l ++ map said (take c.args.places c.args.cycle.now))
    (c.add_words.ensures.value ∙ ap (λ (l : List Word). map said l ++ map said (take (length c.args.cycle.now - c.args.places) (drop c.args.places c.args.cycle.now))) c.new-turn.ensures
    ∙ said_from c.args.cycle.now c.args.places)
    ∙ ap (λ (l : List WordSaid). drop c.args.places (map said c.args.cycle.now) ++ l) (said_to c.args.cycle.now c.args.places)
