use Rattle.std.proofs.Common.{ℕ, List, Some, drop, sym, ap, ◌∙◌}
use Rattle.script_words.proofs.TextLemmas.{pair_of-none, pair_of-found}
use Rattle.script_words.proofs.texts.split_pair.Goals as goal

pub returns-in_err-at : goal.returns-in_err-at
returns-in_err-at c = rw c.from_residual.ensures (pair_of-none c.args.word.now c.in_err-at.ensures)

pub returns : goal.returns
returns c =
    let found = c.in_ok-at.ensures in
    pair_of-found c.args.word.now c.in_ok-at.at found.0.high found.0.before found.1
    ∙ ap (λ (key : List ℕ). Some (key, drop 1 (drop c.in_ok-at.at c.args.word.now))) (sym c.split_at.ensures.front)
    ∙ ap (λ (value : List ℕ). Some (c.split_at.result.0.now, value)) (sym (c.split_at-2.ensures.back ∙ ap (drop 1) c.split_at.ensures.back))
