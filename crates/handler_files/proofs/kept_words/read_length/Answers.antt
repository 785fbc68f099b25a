use Rattle.std.proofs.Common.{◌∙◌, Some, ap, sym}
use Rattle.handler_files.proofs.WordsLemmas.{length_read}
use Rattle.handler_files.proofs.kept_words.read_length.Goals as goal

pub returns-in_err-length : goal.returns-in_err-length
returns-in_err-length c = record {
  back = λ want small is. absurd (
      let read = length_read want c.args.text.now c.in_ok-stated.stated.now c.split_at.result.0.now c.as_slice.result.now c.parse_number.result small is (sym c.is_empty.ensures ∙ c.if-is_empty.false) c.as_slice.ensures c.in_ok-stated.ensures.cases.1 c.split_at.ensures.front c.parse_number.ensures c.printed_numbers_are_read_again.ensures.in_decimal in
      read.1 c.in_err-length.was);
}

pub returns : goal.returns
returns c = record {
  back = λ want small is. (
      let read = length_read want c.args.text.now c.in_ok-stated.stated.now c.split_at.result.0.now c.as_slice.result.now c.parse_number.result small is (sym c.is_empty.ensures ∙ c.if-is_empty.false) c.as_slice.ensures c.in_ok-stated.ensures.cases.1 c.split_at.ensures.front c.parse_number.ensures c.printed_numbers_are_read_again.ensures.in_decimal in
      ap (λ o. Some o) (sym c.in_ok-length.was ∙ read.0));
}
