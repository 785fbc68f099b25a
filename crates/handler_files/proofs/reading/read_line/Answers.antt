use Rattle.std.proofs.Common.{◌≡◌, ◌∙◌, ◌++◌, ◌∷◌, List, None, Option, Some, ap, decimal, option_map, rules, sym, ℕ}
use Rattle.handler_files.proofs.ReadingLemmas.{behind_is, pairs, line_read, line_split, none_is, number_has_no_newline, some_is}
use Rattle.handler_files.proofs.reading.read_line.Goals as goal

pub returns-in_err-behind : goal.returns-in_err-behind
returns-in_err-behind c = record {
  back = λ n rest small is. absurd (c.in_err-behind.ensures (decimal n ++ 10 ∷ rest) (is ∙ line_split c.args.counter n rest));
  only = search rules;
}

pub returns-in_err-split : goal.returns-in_err-split
returns-in_err-split c = record {
  back = λ n rest small is. absurd (
      let behind = behind_is c.args.counter n rest c.args.text.now c.in_ok-behind.behind.now c.in_ok-behind.ensures is in
      let found = c.split_line.ensures.back (decimal n) rest (number_has_no_newline n small) behind in
      none_is (decimal n, rest) (sym (pairs c.in_err-split.was) ∙ found));
  only = search rules;
}

pub returns-in_err-count : goal.returns-in_err-count
returns-in_err-count c = record {
  back = λ n rest small is. absurd (
      let behind = behind_is c.args.counter n rest c.args.text.now c.in_ok-behind.behind.now c.in_ok-behind.ensures is in
      let found = c.split_line.ensures.back (decimal n) rest (number_has_no_newline n small) behind in
      let pair = some_is _ (decimal n, rest) (sym (pairs c.in_ok-split.was) ∙ found) in
      none_is n (sym c.in_err-count.was ∙ c.read_count.ensures.back n small (ap (λ p. p.0) pair)));
  only = search rules;
}

pub returns : goal.returns
returns c = record {
  back = λ n rest small is. (
      let behind = behind_is c.args.counter n rest c.args.text.now c.in_ok-behind.behind.now c.in_ok-behind.ensures is in
      let found = c.split_line.ensures.back (decimal n) rest (number_has_no_newline n small) behind in
      let pair = some_is _ (decimal n, rest) (sym (pairs c.in_ok-split.was) ∙ found) in
      let count = some_is c.in_ok-count.count n (sym c.in_ok-count.was ∙ c.read_count.ensures.back n small (ap (λ p. p.0) pair)) in
      (λ k. Some (count k, (pair k).1)));
  only = line_read c.args.counter c.in_ok-count.count c.in_ok-split.split.1.now c.args.text.now c.in_ok-behind.behind.now c.in_ok-split.split.0.now c.in_ok-behind.ensures c.in_ok-split.ensures.only c.in_ok-count.ensures.only;
}
