-- What code's queries show of an image.
use Rattle.std.proofs.Common.{◌≡◌, inl, inr, ⊎_elim, Bool, true, false, true≢false, List, [], ℕ, Option, Result, Ok, Err, None, Some, length, map, take, refl, ap, sym, subst, ◌∙◌}
use Rattle.std.proofs.lemmas.Bool.{false≢true}
use Rattle.std.specs.Prelude.{is_ok, codes}
use Rattle.std.specs.Prelude.{◌&&◌}
use Rattle.std.specs.List.{filter, list_any}
use Rattle.elf_view.specs.Sound.{IsHeaderWhole, IsSound}
use Rattle.elf_view.specs.declared.faults.Want.TheVariants.{Core}
use Rattle.memory_replies.specs.Memory.{has_name, mapped_files}
use Rattle.case_queries.specs.Fronts.{IsEnough}
use Rattle.case_queries.specs.Collecting.{debugs_for, is_exec, wanted_case, wanted_for, wanted_of}
use Rattle.case_queries.specs.Windows.{IsSeenBy}
use Rattle.disk_model.specs.declared.disk.Disk as disk
use Rattle.image_replies.specs.Core.{core_fault_of}
use Rattle.image_replies.specs.Reasons.{core_reason}
use Rattle.image_replies.specs.declared.core_image.CoreFault.{CoreFault}
use Rattle.intake.specs.Parts.{Parts}
use Rattle.journal_layout.specs.Case.{Case}
use Rattle.journal_layout.specs.declared.entry.Kind.{Kind}
use Rattle.memory_replies.specs.Answers.{Answers, AnswersWith, is_done}
use Rattle.memory_replies.specs.declared.outcome.Outcome.{Outcome}
use Rattle.memory_replies.specs.declared.outcome.Outcome.TheVariants.{Done, Refused, OutOfMemory}
use Rattle.memory_replies.specs.Symbol.{symbol_answer, executable_fault}
use Rattle.script_lines.specs.Queries.{image_query, memory_query, ask_symbol}
use Rattle.address_space.specs.Source.{ExecutableView}
use Rattle.script_lines.specs.declared.query.BuildQuery.TheVariants as builds
use Rattle.script_lines.specs.declared.query.ImageQuery.{ImageQuery}
use Rattle.script_lines.specs.declared.query.ImageQuery.TheVariants.{Header, Notes, Threads, Registers, Process, Signal, AuxiliaryVector, Files, Maps}
use Rattle.script_lines.specs.declared.query.MemoryQuery.{MemoryQuery}
use Rattle.script_lines.specs.declared.query.MemoryQuery.TheVariants.{Dump, At, Find, Strings, Backtrace, Unwind, Lines, Frame, Builds}
use Rattle.script_streams.specs.Replies.{IsOutcome, no_reply, reply_of}
use Rattle.case_queries.specs.Inspecting.{answer_of}
use Rattle.case_queries.specs.Steps.{Shows, ShowsWithExecutables, ShowsCore}

-- a reply of which it is known what became of it
pub answered : (outcome : Outcome) (answer : Result (List ℕ) (List ℕ)) (reply : List ℕ) → AnswersWith outcome answer reply → Answers answer reply
answered Done answer reply is = inl is.1
answered Refused answer reply is = inl is.1
answered OutOfMemory answer reply is = inr is

-- the outcome of a line whose answer is told
pub outcome_is : (done : Bool) (answer : Result (List ℕ) (List ℕ)) → done ≡ is_ok answer → IsOutcome done (reply_of answer)
outcome_is true (Ok lines) is = (lines, refl)
outcome_is true (Err reason) is = absurd (true≢false is)
outcome_is false (Ok lines) is = absurd (false≢true is)
outcome_is false (Err reason) is = (reason, refl)

-- the same where its work takes memory
pub outcome_with : (outcome : Outcome) (answer : Result (List ℕ) (List ℕ)) (text : List ℕ) → AnswersWith outcome answer text → IsOutcome (is_done outcome) text
outcome_with Done answer text told = subst (IsOutcome true) (sym told.1) (outcome_is true answer (sym told.0))
outcome_with Refused answer text told = subst (IsOutcome false) (sym told.1) (outcome_is false answer (sym told.0))
outcome_with OutOfMemory answer text told = (codes "OutOfMemory", told)

module _ {D : Type 0} (g : disk.Ghosts D) (a : Parts D) (kind : Kind) (b : List ℕ) where
  -- what the image alone answers
  pub image_shown : (q : ImageQuery) → Shows g a kind (image_query q) b (reply_of (answer_of kind (image_query q) b [] [])) a
  image_shown Header = (refl, refl)
  image_shown Notes = (refl, refl)
  image_shown Threads = (refl, refl)
  image_shown (Registers thread) = (refl, refl)
  image_shown Process = (refl, refl)
  image_shown Signal = (refl, refl)
  image_shown AuxiliaryVector = (refl, refl)
  image_shown Files = (refl, refl)
  image_shown Maps = (refl, refl)

  with_executables_shown : (q : MemoryQuery) (reply : List ℕ) (new : Parts D) → ShowsWithExecutables g a kind (memory_query q) b (core_fault_of b) reply new → Shows g a kind (memory_query q) b reply new
  with_executables_shown (Dump first length) reply new shows = shows
  with_executables_shown (At address) reply new shows = shows
  with_executables_shown (Find needle) reply new shows = shows
  with_executables_shown (Strings least) reply new shows = shows
  with_executables_shown (Backtrace thread) reply new shows = shows
  with_executables_shown (Unwind thread) reply new shows = shows
  with_executables_shown (Lines thread) reply new shows = shows
  with_executables_shown (Frame thread frame) reply new shows = shows
  with_executables_shown (Builds query) reply new shows = shows

  -- a core that has a fault
  pub fault_shown : (q : MemoryQuery) (fault : CoreFault) → Some fault ≡ core_fault_of b → Shows g a kind (memory_query q) b (no_reply (core_reason fault)) a
  fault_shown q fault is = with_executables_shown q (no_reply (core_reason fault)) a (rw (sym is) (refl, refl))

  -- an executable's symbol
  pub symbol_shown : (address : ℕ) (outcome : Outcome) (reply : List ℕ) → AnswersWith outcome (symbol_answer b address) reply → (outcome ≡ OutOfMemory → executable_fault b ≡ None)
      → Shows g a kind (ask_symbol address) b reply a
  symbol_shown address Done reply told none = (inl told.1, refl)
  symbol_shown address Refused reply told none = (inl told.1, refl)
  symbol_shown address OutOfMemory reply told none = (inr (told, none refl), refl)

  -- a core that has none, of which the first bytes show so much
  pub core_shown : (q : MemoryQuery) (front : List ℕ) (reply : List ℕ) (new : Parts D) → core_fault_of front ≡ core_fault_of b → None ≡ core_fault_of front → ShowsCore g a kind (memory_query q) b reply new → Shows g a kind (memory_query q) b reply new
  core_shown q front reply new same none shows = with_executables_shown q reply new (subst (λ (o : Option CoreFault). ShowsWithExecutables g a kind (memory_query q) b o reply new) (none ∙ same) shows)

-- These bytes are enough of the image.
pub seen_enough : (q : MemoryQuery) (front : List ℕ) (size at : ℕ) (bytes image : List ℕ) → IsSeenBy q front size at bytes image → IsEnough Core front image
seen_enough (Dump first n) front size at bytes image by = by.0
seen_enough (At address) front size at bytes image by = by.0
seen_enough (Find needle) front size at bytes image by = inl by
seen_enough (Strings least) front size at bytes image by = inl by
seen_enough (Backtrace thread) front size at bytes image by = by.0
seen_enough (Unwind thread) front size at bytes image by = inl by
seen_enough (Lines thread) front size at bytes image by = inl by
seen_enough (Frame thread frame) front size at bytes image by = inl by
seen_enough (Builds query) front size at bytes image by = inl by

-- what enough bytes show, where sound first bytes show it
pub enough_shows : {A : Type 0} (of : List ℕ → A) → ((b : List ℕ) (n : ℕ) → IsHeaderWhole (take n b) → IsSound Core (take n b) → of (take n b) ≡ of b) → (front image : List ℕ) → IsEnough Core front image → of front ≡ of image
enough_shows of law front image enough =
    ⊎_elim
    (λ is. ap of is)
    (λ cut. ap of cut.0 ∙ law image (length front) (subst IsHeaderWhole cut.0 cut.1.0) (subst (IsSound Core) cut.0 cut.1.1))
    enough

pub fault_same : ((b : List ℕ) (n : ℕ) → IsHeaderWhole (take n b) → IsSound Core (take n b) → core_fault_of (take n b) ≡ core_fault_of b) → (q : MemoryQuery) (front : List ℕ) (size at : ℕ) (bytes image : List ℕ) → IsSeenBy q front size at bytes image
    → core_fault_of front ≡ core_fault_of image
fault_same law q front size at bytes image by = enough_shows core_fault_of law front image (seen_enough q front size at bytes image by)

pub wanted_enough : ((b : List ℕ) (n : ℕ) → IsHeaderWhole (take n b) → IsSound Core (take n b) → mapped_files (take n b) ≡ mapped_files b) → (front image : List ℕ) → IsEnough Core front image → (cases : List Case) → wanted_of front cases ≡ wanted_of image cases
wanted_enough law front image enough cases =
    ap (λ files. map wanted_case (filter (λ (c : Case). is_exec c.origin.kind && list_any (has_name c.origin.name) files) cases)) (enough_shows mapped_files law front image enough)

-- a line sees enough of the image to know which executables it reads
pub wanted_same : ((b : List ℕ) (n : ℕ) → IsHeaderWhole (take n b) → IsSound Core (take n b) → mapped_files (take n b) ≡ mapped_files b) → (q : MemoryQuery) (front : List ℕ) (size at : ℕ) (bytes image : List ℕ) → IsSeenBy q front size at bytes image
    → (cases : List Case) → wanted_for (memory_query q) front cases ≡ wanted_for (memory_query q) image cases
wanted_same law (Dump first n) front size at bytes image by cases = wanted_enough law front image by.0 cases
wanted_same law (At address) front size at bytes image by cases = wanted_enough law front image by.0 cases
wanted_same law (Find needle) front size at bytes image by cases = wanted_enough law front image (inl by) cases
wanted_same law (Strings least) front size at bytes image by cases = wanted_enough law front image (inl by) cases
wanted_same law (Backtrace thread) front size at bytes image by cases = wanted_enough law front image by.0 cases
wanted_same law (Unwind thread) front size at bytes image by cases = ap (λ b. wanted_for (memory_query (Unwind thread)) b cases) by
wanted_same law (Lines thread) front size at bytes image by cases = ap (λ b. wanted_for (memory_query (Lines thread)) b cases) by
wanted_same law (Frame thread frame) front size at bytes image by cases = ap (λ b. wanted_for (memory_query (Frame thread frame)) b cases) by
wanted_same law (Builds query) front size at bytes image by cases = ap (λ b. wanted_for (memory_query (Builds query)) b cases) by

-- and which debug files
pub debugs_same : (q : MemoryQuery) (front : List ℕ) (size at : ℕ) (bytes image : List ℕ) → IsSeenBy q front size at bytes image → (cases : List Case) (xs : List ExecutableView) → debugs_for (memory_query q) front cases xs ≡ debugs_for (memory_query q) image cases xs
debugs_same (Dump first n) front size at bytes image by cases xs = refl
debugs_same (At address) front size at bytes image by cases xs = refl
debugs_same (Find needle) front size at bytes image by cases xs = refl
debugs_same (Strings least) front size at bytes image by cases xs = refl
debugs_same (Backtrace thread) front size at bytes image by cases xs = refl
debugs_same (Unwind thread) front size at bytes image by cases xs = ap (λ b. debugs_for (memory_query (Unwind thread)) b cases xs) by
debugs_same (Lines thread) front size at bytes image by cases xs = ap (λ b. debugs_for (memory_query (Lines thread)) b cases xs) by
debugs_same (Frame thread frame) front size at bytes image by cases xs = ap (λ b. debugs_for (memory_query (Frame thread frame)) b cases xs) by
debugs_same (Builds builds.Compared) front size at bytes image by cases xs = refl
debugs_same (Builds builds.Used) front size at bytes image by cases xs = ap (λ b. debugs_for (memory_query (Builds builds.Used)) b cases xs) by
debugs_same (Builds builds.Wanted) front size at bytes image by cases xs = refl
