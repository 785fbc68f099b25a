use Rattle.std.proofs.Common.{◌∙◌, List, ap, drop, length, sym, ℕ}
use Rattle.handler_files.proofs.WordsLemmas.{front_is, line_ends, none_is, rest_is, some_is}
use Rattle.handler_files.specs.WordsText.{length_line}
use Rattle.handler_files.proofs.kept_words.read_words.Goals as goal

pub returns-in_err-end : goal.returns-in_err-end
returns-in_err-end c = record {
  back = λ line want none is_length is. absurd (
      let found = line_ends line (length_line want) c.args.text.now c.memchr.result none is c.memchr.ensures in
      none_is (length line) (sym c.in_err-end.was ∙ found));
}

pub returns-in_err-length : goal.returns-in_err-length
returns-in_err-length c = record {
  back = λ line want none is_length is. absurd (
      let found = line_ends line (length_line want) c.args.text.now c.memchr.result none is c.memchr.ensures in
      let at = some_is c.in_ok-end.end (length line) (sym c.in_ok-end.was ∙ found) in
      let rest = c.split_at-2.ensures.back ∙ ap (λ (l : List ℕ). drop 1 l) c.split_at.ensures.back ∙ rest_is line (length_line want) c.args.text.now c.in_ok-end.end is at in
      none_is want (sym c.in_err-length.was ∙ c.read_length.ensures.back want is_length rest));
}

pub returns : goal.returns
returns c = record {
  back = λ line want none is_length is. (
      let found = line_ends line (length_line want) c.args.text.now c.memchr.result none is c.memchr.ensures in
      let at = some_is c.in_ok-end.end (length line) (sym c.in_ok-end.was ∙ found) in
      let rest = c.split_at-2.ensures.back ∙ ap (λ (l : List ℕ). drop 1 l) c.split_at.ensures.back ∙ rest_is line (length_line want) c.args.text.now c.in_ok-end.end is at in (
        c.split_at.ensures.front ∙ front_is line (length_line want) c.args.text.now c.in_ok-end.end is at,
        some_is c.in_ok-length.length want (sym c.in_ok-length.was ∙ c.read_length.ensures.back want is_length rest),
      ));
}
