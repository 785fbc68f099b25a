-- Replies whose work takes memory.
use Rattle.std.specs.Prelude.{◌≡◌, ℕ, Bool, true, false, List, ◌⊎◌, Result, is_ok, codes, if◌then◌else◌}
use Rattle.script_streams.specs.Replies.{no_reply, reply_of}
use Rattle.memory_replies.specs.declared.outcome.Outcome.{Outcome}
use Rattle.memory_replies.specs.declared.outcome.Outcome.TheVariants.{Done, Refused, OutOfMemory}

-- the reply if there is no memory
abbrev pub memory_reply : List ℕ
memory_reply = no_reply (codes "OutOfMemory")

-- The reply is that of the answer, or there was no memory for it.
abbrev pub Answers : Result (List ℕ) (List ℕ) → List ℕ → Type 0
Answers answer text = (text ≡ reply_of answer) ⊎ (text ≡ memory_reply)

-- the same, by the outcome
abbrev pub AnswersWith : Outcome → Result (List ℕ) (List ℕ) → List ℕ → Type 0
AnswersWith Done answer text = (is_ok answer ≡ true) × (text ≡ reply_of answer)
AnswersWith Refused answer text = (is_ok answer ≡ false) × (text ≡ reply_of answer)
AnswersWith OutOfMemory answer text = text ≡ memory_reply

-- the outcome if there was memory: the answer has lines to show or not
abbrev pub outcome_by : Bool → Outcome
outcome_by done = if done then Done else Refused

-- the reply shows the answer to the question
abbrev pub is_done : Outcome → Bool
is_done Done = true
is_done _ = false

-- there was memory
abbrev pub had_memory : Outcome → Bool
had_memory OutOfMemory = false
had_memory _ = true
