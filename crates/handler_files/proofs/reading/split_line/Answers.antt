use Rattle.std.proofs.Common.{◌≡◌, ◌∙◌, ◌++◌, ◌∷◌, List, Some, ap, drop, get_or, length, rules, sym, ℕ}
use Rattle.std.proofs.lemmas.Bool.{eqb-true}
use Rattle.handler_files.proofs.ReadingLemmas.{front_is, line_ends, none_is, rest_is, some_is, split_there}
use Rattle.handler_files.proofs.reading.split_line.Goals as goal

pub returns-in_err-end : goal.returns-in_err-end
returns-in_err-end c = record {
  back = λ line rest none is. absurd (none_is (length line) (sym c.in_err-end.was ∙ line_ends line rest c.args.text.now c.memchr.result none is c.memchr.ensures));
  only = search rules;
}

pub returns : goal.returns
returns c = record {
  back = λ line rest none is. (
      let found = line_ends line rest c.args.text.now c.memchr.result none is c.memchr.ensures in
      let at = some_is c.in_ok-end.end (length line) (sym c.in_ok-end.was ∙ found) in
      let first : c.split_at.result.0.now ≡ line = c.split_at.ensures.front ∙ front_is line rest c.args.text.now c.in_ok-end.end is at in
      let behind : c.split_at-2.result.1.now ≡ rest = c.split_at-2.ensures.back ∙ ap (λ (l : List ℕ). drop 1 l) c.split_at.ensures.back ∙ rest_is line rest c.args.text.now c.in_ok-end.end is at in
      (λ k. Some (first k, behind k)));
  only = (
      let whole = split_there c.args.text.now c.in_ok-end.end c.in_ok-end.ensures.0.high (eqb-true (get_or c.args.text.now c.in_ok-end.end 0) 10 c.in_ok-end.ensures.1) in
      let rest = c.split_at-2.ensures.back ∙ ap (λ (l : List ℕ). drop 1 l) c.split_at.ensures.back in
      whole ∙ (λ k. sym c.split_at.ensures.front k ++ 10 ∷ sym rest k));
}
