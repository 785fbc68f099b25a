-- The text of the answer.
use Rattle.std.proofs.Common.{◌≡◌, ℕ, List, ◌++◌, Result, Ok, Err, sym, ap}
use Rattle.std.specs.Prelude.{is_ok}
use Rattle.script_streams.specs.Replies.{no_reply, ok_reply, reply_of}
use Rattle.memory_replies.specs.Answers.{AnswersWith}
use Rattle.memory_replies.specs.declared.outcome.Outcome.TheVariants.{Done, Refused}

-- the lines of the answer are told, or the reason why there are none
pub shown : (lines : List ℕ) (answer : Result (List ℕ) (List ℕ)) → Ok lines ≡ answer → AnswersWith Done answer (lines ++ ok_reply)
shown lines answer is = (sym (ap is_ok is), ap reply_of is)

pub refused : (reason : List ℕ) (answer : Result (List ℕ) (List ℕ)) → Err reason ≡ answer → AnswersWith Refused answer (no_reply reason)
refused reason answer is = (sym (ap is_ok is), ap reply_of is)
