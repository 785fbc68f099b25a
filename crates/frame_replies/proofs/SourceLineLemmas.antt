-- What is answered of an executable's line tables.
use Rattle.std.proofs.Common.{◌≡◌, ℕ, List, Option, None, Some, Result, Err, refl, ap, subst, sym, ◌∙◌}
use Rattle.std.specs.Prelude.{is_ok}
use Rattle.std.specs.Option.{option_map, option_or}
use Rattle.elf_view.specs.Sound.{first_fault}
use Rattle.elf_view.specs.declared.faults.ElfFault.{ElfFault}
use Rattle.elf_view.specs.declared.faults.Want.TheVariants.{Exec}
use Rattle.image_replies.specs.Reasons.{elf_reason}
use Rattle.memory_replies.specs.Answers.{AnswersWith, memory_reply}
use Rattle.memory_replies.specs.declared.outcome.Outcome.{Outcome}
use Rattle.memory_replies.specs.declared.outcome.Outcome.TheVariants.{Refused, OutOfMemory}
use Rattle.script_streams.specs.Replies.{no_reply, reply_of}
use Rattle.frame_replies.specs.Line.{answer_unless, header_fault, line_answer, searched, section_fault}
use Rattle.frame_replies.specs.Source.{sources_for}

-- there is no memory
pub no_memory : (outcome : Outcome) (answer : Result (List ℕ) (List ℕ)) → outcome ≡ OutOfMemory → AnswersWith outcome answer memory_reply
no_memory outcome answer is = subst (λ o. AnswersWith o answer memory_reply) (sym is) refl

-- the reason why there is no line
pub refused : (reason : List ℕ) (answer : Result (List ℕ) (List ℕ)) → Err reason ≡ answer → AnswersWith Refused answer (no_reply reason)
refused reason answer is = (sym (ap is_ok is), ap reply_of is)

-- the same answer
pub answered : (outcome : Outcome) (was answer : Result (List ℕ) (List ℕ)) (text : List ℕ) → was ≡ answer → AnswersWith outcome was text → AnswersWith outcome answer text
answered outcome was answer text is told = subst (λ a. AnswersWith outcome a text) is told

module _ (b : List ℕ) (debug : Option (List ℕ)) (v : ℕ) where
  abbrev after : Option ElfFault → Option (List ℕ) → Result (List ℕ) (List ℕ)
  after fault section = answer_unless (option_or (option_map elf_reason fault) section) (searched (sources_for b debug) v)

  pub header_told : (f : ElfFault) → Some f ≡ first_fault Exec b → Err (elf_reason f) ≡ line_answer b debug v
  unfolding line_answer header_fault
  header_told f is = ap (λ o. after o (section_fault b)) is

  -- a fault of the section headers, or none
  pub section_told : (a : List ℕ) (section : Option (List ℕ)) → None ≡ first_fault Exec b → a ≡ b → section ≡ section_fault a → answer_unless section (searched (sources_for a debug) v) ≡ line_answer b debug v
  unfolding line_answer header_fault
  section_told a section sound same is =
      ap (λ o. answer_unless o (searched (sources_for a debug) v)) is
      ∙ ap (λ x. answer_unless (section_fault x) (searched (sources_for x debug) v)) same
      ∙ ap (λ o. after o (section_fault b)) sound
