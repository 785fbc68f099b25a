-- The texts of answers.
use Rattle.std.proofs.Common.{◌≡◌, ℕ, suc, ◌+◌, ◌-◌, ◌<◌, true, false, List, ◌∷◌, ◌++◌, Result, Ok, Err, sym, ap, ◌∙◌, arith}
use Rattle.std.proofs.lemmas.Bool.{cond-true, cond-false}
use Rattle.std.specs.Prelude.{codes, is_ok}
use Rattle.std.specs.List.{flat_map, range_with_len}
use Rattle.script_streams.specs.Replies.{no_reply, ok_reply, reply_of}
use Rattle.address_space.specs.Source.{Space, ExecutableView}
use Rattle.address_space.specs.Pieces.{pieces_of}
use Rattle.address_space.specs.Occurrence.{occurrences}
use Rattle.memory_replies.specs.Answers.{AnswersWith}
use Rattle.memory_replies.specs.declared.outcome.Outcome.TheVariants.{Done, Refused}
use Rattle.memory_replies.specs.Memory.{memory_of}
use Rattle.memory_replies.specs.Dump.{piece_lines, is_out_of_range, dump_answer}
use Rattle.memory_replies.specs.Find.{address_line, find_answer}

-- the lines of the answer are told, or the reason why there are none
pub shown : (lines : List ℕ) (answer : Result (List ℕ) (List ℕ)) → Ok lines ≡ answer → AnswersWith Done answer (lines ++ ok_reply)
shown lines answer is = (sym (ap is_ok is), ap reply_of is)

pub refused : (reason : List ℕ) (answer : Result (List ℕ) (List ℕ)) → Err reason ≡ answer → AnswersWith Refused answer (no_reply reason)
refused reason answer is = (sym (ap is_ok is), ap reply_of is)

-- the numbers from i on that are below n
pub range_step : (i n : ℕ) → i < n → range_with_len i (n - i) ≡ i ∷ range_with_len (i + 1) (n - (i + 1))
range_step i n h = let e : n - i ≡ suc (n - (i + 1)) = omega arith in ap (range_with_len i) e

pub range_refused : (b : List ℕ) (xs : List ExecutableView) (first n : ℕ) → is_out_of_range first n ≡ true → Err (codes "Range") ≡ dump_answer b xs first n
unfolding dump_answer
range_refused b xs first n h = sym (cond-true (is_out_of_range first n) _ _ h)

pub range_shown : (b : List ℕ) (xs : List ExecutableView) (first n : ℕ) (space : Space) → is_out_of_range first n ≡ false → space ≡ memory_of b xs
    → Ok (flat_map piece_lines (pieces_of space first n)) ≡ dump_answer b xs first n
unfolding dump_answer
range_shown b xs first n space h is = ap (λ s. Ok (flat_map piece_lines (pieces_of s first n))) is ∙ sym (cond-false (is_out_of_range first n) _ _ h)

pub matches_shown : (b : List ℕ) (xs : List ExecutableView) (needle : List ℕ) (space : Space) → space ≡ memory_of b xs
    → Ok (flat_map address_line (occurrences space needle)) ≡ find_answer b xs needle
unfolding find_answer
matches_shown b xs needle space is = ap (λ s. Ok (flat_map address_line (occurrences s needle))) is
