-- How a line is answered, with what stands behind it.
use Rattle.std.proofs.Common.{◌≡◌, inr, ℕ, zero, suc, true, false, Bool, cond, List, [], ◌∷◌, ◌++◌, Option, Result, Ok, Err, refl, sym, subst, ◌∙◌, append_assoc}
use Rattle.disk_model.specs.declared.disk.Disk as disk
use Rattle.intake.specs.Parts.{Parts}
use Rattle.script_streams.specs.Lines.{IsLine}
use Rattle.script_streams.specs.Reading.{Gives, Stops}
use Rattle.diagnostics.specs.Counts.{HasRisen}
use Rattle.script_streams.specs.Printing.{Sink, Prints}
use Rattle.script_streams.specs.declared.reader.ScriptBuffer.{ScriptBuffer}
use Rattle.script_streams.specs.declared.reader.ReadStop.{ReadStop}
use Rattle.script_streams.specs.declared.reader.ReadStop.TheVariants.{ReadFailed, TooManyReads}
use Rattle.inspector_cli.specs.declared.script.ScriptStop.{ScriptStop}
use Rattle.inspector_cli.specs.declared.script.ScriptStop.TheVariants.{Read}
use Rattle.stream_names.specs.declared.naming.Naming.{Naming}
use Rattle.script_lines.specs.Said.{Said, said, raw_length, said_by_build, said_choosing, silence, bad_line, long_line, begin_exec, begin_core, part_of, end_of, drop_of, delete_of, pin_of, label_of, retire_by, list_all_cases, count_free, upgrade_archive, inspect_of}
use Rattle.script_lines.specs.Commands.{asked_by, call_said, question_said}
use Rattle.script_lines.specs.declared.command.Request.{Request}
use Rattle.script_lines.specs.declared.command.Request.TheVariants.{Silence, BadLine, LineTooLong, BeginExec, BeginCore, End, Drop}
use Rattle.script_lines.specs.declared.question.Call.{Call}
use Rattle.script_lines.specs.declared.question.Call.TheVariants.{Delete, Pin, Label, Retire, ListCases, CountFree, Upgrade}
use Rattle.script_lines.specs.declared.question.Question.{Question}
use Rattle.script_lines.specs.declared.question.Question.TheVariants as asked
use Rattle.case_queries.specs.Inspecting.{Inspects}
use Rattle.stream_names.specs.Streams.{core_stream}
use Rattle.script_lines.specs.Queries.{by_build}
use Rattle.inspector_cli.specs.Reply.{Begins, Replies, RepliesByPath, query_by}
use Rattle.inspector_cli.specs.Session.{cut_part, LastReplies, Truncates}
use Rattle.script_streams.specs.Replies.{Printing}
use Rattle.inspector_cli.specs.Answering.{Halts, AnswersTo, PartAnswers, LastAnswers, CommandEnds}
use Rattle.inspector_cli.specs.Asking.{AnswersAsked}
use Rattle.script_streams.specs.PrintLaws.{prints_then}
use Rattle.inspector_cli.specs.Heard.{IsReady, PrintsReady}
use Rattle.inspector_cli.proofs.GiveLemmas.{gives_nothing, gives_then, gives_as}

pub last_whole : {D : Type 0} (g : disk.Ghosts D) (naming : Naming) (n : ℕ) (old new : Parts D) (what : Said) (reply : List ℕ) → n ≡ 0 → Replies g naming old what [] reply new → LastReplies g naming n old what reply new
last_whole g naming n old new what reply none replies = subst (λ (k : ℕ). LastReplies g naming k old what reply new) (sym none) replies

pub last_cut : {D : Type 0} (g : disk.Ghosts D) (naming : Naming) (n : ℕ) (old new : Parts D) (what : Said) (reply : List ℕ) → (n ≡ 0 → ⊥) → Truncates g old what [] reply new → LastReplies g naming n old what reply new
last_cut g naming zero old new what reply some cut = absurd (some refl)
last_cut g naming (suc n) old new what reply some cut = cut

-- no bytes stand behind a request
no_raw : (r : Request) → raw_length (asked_by r) ≡ 0
no_raw Silence = refl
no_raw BadLine = refl
no_raw LineTooLong = refl
no_raw (BeginExec slot name) = refl
no_raw (BeginCore slot process) = refl
no_raw (End slot) = refl
no_raw (Drop slot) = refl

-- no bytes stand behind a question
no_raw_call : (c : Call) → raw_length (call_said c) ≡ 0
no_raw_call (Delete seq) = refl
no_raw_call (Pin seq flag) = refl
no_raw_call (Label seq label) = refl
no_raw_call (Retire policy) = refl
no_raw_call ListCases = refl
no_raw_call CountFree = refl
no_raw_call Upgrade = refl

pub no_raw_asked : (q : Question) → raw_length (question_said q) ≡ 0
no_raw_asked (asked.Inspect seq query) = refl
no_raw_asked (asked.Call call) = no_raw_call call

-- the same answer of a script
abbrev pub as_script : Result Bool ReadStop → Result Bool ScriptStop
as_script (Ok more) = Ok more
as_script (Err stop) = Err (Read stop)

module _ {D : Type 0} (g : disk.Ghosts D) where
  pub plain_answers : (naming : Naming) (a : Option (List ℕ)) (b : ScriptBuffer) (t : Printing) (old new : Parts D) (r : Request) (what : Said) → asked_by r ≡ what → AnswersTo g naming t old (asked_by r) [] new
      → PartAnswers g naming (record { before = a; after = a; buffer = b; buffer' = b }) t old what new (Ok true)
  plain_answers naming a b t old new r what is answers =
      subst (λ (w : Said). PartAnswers g naming (record { before = a; after = a; buffer = b; buffer' = b }) t old w new (Ok true)) is
      ([], sym (no_raw r), gives_nothing a b, answers)

  pub plain_last : (naming : Naming) (t : Printing) (old new : Parts D) (r : Request) (what : Said) → asked_by r ≡ what → AnswersTo g naming t old (asked_by r) [] new → LastAnswers g naming t old what new
  plain_last naming t old new r what is answers =
      subst (λ (w : Said). LastAnswers g naming t old w new) is
      (answers.0, last_whole g naming (raw_length (asked_by r)) old new (asked_by r) answers.0 (no_raw r) answers.1, answers.2)

  -- what is said replies so, where executables are chosen by build
  chosen_so : (naming by_path : Naming) (old new : Parts D) (what : Said) (raw reply : List ℕ) → naming.by_build ≡ true → by_path ≡ record { template = naming.template; uses_pid = naming.uses_pid; by_build = false }
      → Replies g by_path old (said_by_build what) raw reply new → Replies g naming old what raw reply new
  chosen_so naming by_path old new silence raw reply chosen is r = r
  chosen_so naming by_path old new bad_line raw reply chosen is r = r
  chosen_so naming by_path old new long_line raw reply chosen is r = r
  chosen_so naming by_path old new (begin_exec slot name) raw reply chosen is r = r
  chosen_so naming by_path old new (begin_core slot process) raw reply chosen is r = subst (λ (n : Naming). (accepted : Bool) × Begins g old slot (core_stream n process) reply new accepted) is r
  chosen_so naming by_path old new (part_of slot n) raw reply chosen is r = r
  chosen_so naming by_path old new (end_of slot) raw reply chosen is r = r
  chosen_so naming by_path old new (drop_of slot) raw reply chosen is r = r
  chosen_so naming by_path old new (delete_of seq) raw reply chosen is r = r
  chosen_so naming by_path old new (pin_of seq flag) raw reply chosen is r = r
  chosen_so naming by_path old new (label_of seq label) raw reply chosen is r = r
  chosen_so naming by_path old new (retire_by policy) raw reply chosen is r = r
  chosen_so naming by_path old new list_all_cases raw reply chosen is r = r
  chosen_so naming by_path old new count_free raw reply chosen is r = r
  chosen_so naming by_path old new upgrade_archive raw reply chosen is r = r
  chosen_so naming by_path old new (inspect_of seq query) raw reply chosen is r =
      let asked : Inspects g old seq (by_build query) reply new = subst (λ (n : Naming). Inspects g old seq (query_by n (by_build query)) reply new) is r in
      rw chosen asked

  -- a question replies as the session has it asked
  asked_so : (naming : Naming) (b : Bool) (old new : Parts D) (what : Said) (reply : List ℕ) → naming.by_build ≡ b → RepliesByPath g old (cond b (said_by_build what) what) reply new → Replies g naming old what [] reply new
  asked_so naming false old new what reply is told = told naming is
  asked_so naming true old new what reply is told =
      let by_path : Naming = record { template = naming.template; uses_pid = naming.uses_pid; by_build = false } in
      chosen_so naming by_path old new what [] reply is refl (told by_path refl)

  -- a question is answered as any line
  pub question_answers : (naming : Naming) (a : Option (List ℕ)) (b : ScriptBuffer) (t : Printing) (old new : Parts D) (q : Question) (what : Said) (done : Bool) → question_said q ≡ what → AnswersAsked g t old (said_choosing naming.by_build (question_said q)) done new
      → PartAnswers g naming (record { before = a; after = a; buffer = b; buffer' = b }) t old what new (Ok true)
  question_answers naming a b t old new q what done is told =
      subst (λ (w : Said). PartAnswers g naming (record { before = a; after = a; buffer = b; buffer' = b }) t old w new (Ok true)) is
      ([], sym (no_raw_asked q), gives_nothing a b, (told.0, asked_so naming naming.by_build old new (question_said q) told.0 refl told.1, told.3))

  pub question_last : (naming : Naming) (t : Printing) (old new : Parts D) (q : Question) (what : Said) (done : Bool) → question_said q ≡ what → AnswersAsked g t old (said_choosing naming.by_build (question_said q)) done new → LastAnswers g naming t old what new
  question_last naming t old new q what done is told =
      subst (λ (w : Said). LastAnswers g naming t old w new) is
      (told.0, last_whole g naming (raw_length (question_said q)) old new (question_said q) told.0 (no_raw_asked q) (asked_so naming naming.by_build old new (question_said q) told.0 refl told.1), told.3)

  module _ (naming : Naming) (a b c : Option (List ℕ)) (buf mid buf' : ScriptBuffer) (old new : Parts D) (line : List ℕ) (one : IsLine line)
      (gives : Gives a b buf mid (line ++ 10 ∷ [])) (o p q : Sink) (first : Prints o p []) (ready : IsReady p) where
    with_raw : (raw : List ℕ) → Gives b c mid buf' raw → Gives a c buf buf' (line ++ 10 ∷ raw)
    with_raw raw more =
        gives_as a c buf buf' ((line ++ 10 ∷ []) ++ raw) (line ++ 10 ∷ raw) (append_assoc line (10 ∷ []) raw)
        (gives_then a b c buf mid buf' (line ++ 10 ∷ []) raw gives more)

    readily : (text : List ℕ) → Prints p q text → PrintsReady (record { before = o; after = q }) text
    readily text states = record { from = p; before = first; ready = ready; states = states }

    -- the line was read, and no write had failed by then
    pub line_answered : (r : Result Bool ReadStop) → PartAnswers g naming (record { before = b; after = c; buffer = mid; buffer' = buf' }) (record { before = p; after = q }) old (said line) new r
        → CommandEnds g naming (record { before = a; after = c; buffer = buf; buffer' = buf' }) (record { before = o; after = q }) old new (as_script r)
    line_answered (Ok true) x = (record { line = line; raw = x.0 }, record { line = one; raw = x.1 }, with_raw x.0 x.2, (x.3.0, x.3.1, prints_then first x.3.2), readily x.3.0 x.3.2)
    line_answered (Ok false) x = (cut_part line x.0, (one, x.1), with_raw x.0 x.2, x.3, x.4, x.5, prints_then first x.6, readily x.4 x.6)
    line_answered (Err stop) x = (line ++ 10 ∷ x.0, with_raw x.0 x.2, x.3, inr (line, x.0, refl, one, x.1, x.4), prints_then first x.5)

-- why a script was not read on, told of the script
pub halts_as : (before mid after : ℕ) (buffer : ScriptBuffer) (stop : ReadStop) → mid ≡ before → Stops {T = Bool} mid after buffer (Err stop) → Halts {T = Bool} before after buffer (Err (Read stop))
halts_as before mid after buffer ReadFailed same stops = subst (λ (k : ℕ). HasRisen k after) same stops
halts_as before mid after buffer TooManyReads same stops = (stops.0 ∙ same, stops.1)
