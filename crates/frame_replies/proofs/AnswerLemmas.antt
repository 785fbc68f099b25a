-- What is answered of a thread's frames.
use Rattle.std.proofs.Common.{◌≡◌, ℕ, List, [], ◌++◌, length, Result, Ok, Err, refl, sym, ap, subst, ◌∙◌, arith}
use Rattle.std.proofs.lemmas.List.{take_all}
use Rattle.std.specs.Prelude.{is_ok}
use Rattle.script_streams.specs.Replies.{no_reply, ok_reply, reply_of}
use Rattle.memory_replies.specs.Answers.{AnswersWith, memory_reply}
use Rattle.memory_replies.specs.declared.outcome.Outcome.{Outcome}
use Rattle.memory_replies.specs.declared.outcome.Outcome.TheVariants.{Done, Refused, OutOfMemory}
use Rattle.seen_memory.specs.Seen.{IsImageBy}

-- there is no memory
pub no_memory : (outcome : Outcome) (answer : Result (List ℕ) (List ℕ)) → outcome ≡ OutOfMemory → AnswersWith outcome answer memory_reply
no_memory outcome answer is = subst (λ o. AnswersWith o answer memory_reply) (sym is) refl

-- the lines of the answer are told, or the reason why there are none
pub shown : (lines : List ℕ) (answer : Result (List ℕ) (List ℕ)) → Ok lines ≡ answer → AnswersWith Done answer (lines ++ ok_reply)
shown lines answer is = (sym (ap is_ok is), ap reply_of is)

pub refused : (reason : List ℕ) (answer : Result (List ℕ) (List ℕ)) → Err reason ≡ answer → AnswersWith Refused answer (no_reply reason)
refused reason answer is = (sym (ap is_ok is), ap reply_of is)

-- the same answer
pub answered : (outcome : Outcome) (was answer : Result (List ℕ) (List ℕ)) (text : List ℕ) → was ≡ answer → AnswersWith outcome was text → AnswersWith outcome answer text
answered outcome was answer text is told = subst (λ a. AnswersWith outcome a text) is told

-- an image is all of itself
pub whole_image : (b front : List ℕ) (size : ℕ) → front ≡ b → size ≡ length front → IsImageBy front size [] b
whole_image b front size is long =
    let same = ap length is in
    record {
      begins = (sym same ∙ sym long, is ∙ sym (take_all (length front) b (omega (arith, same))));
      has = tt;
    }
