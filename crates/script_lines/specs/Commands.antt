-- The meaning of the code's commands.
use Rattle.std.specs.Prelude.{ℕ, List}
use Rattle.arrayvec.specs.ArrayVec.{ArrayVec}
use Rattle.script_words.specs.WordsLeft.{words_left}
use Rattle.script_lines.specs.Said.{Said, ProcessSaid, process_in, silence, bad_line, long_line, begin_exec, begin_core, part_of, end_of, drop_of, delete_of, pin_of, label_of, retire_by, list_all_cases, count_free, upgrade_archive, inspect_of}
use Rattle.script_lines.specs.Queries.{query_of}
use Rattle.script_lines.specs.declared.process.Process.{Process}
use Rattle.script_lines.specs.declared.process.ProcessWords.{ProcessWords}
use Rattle.script_lines.specs.declared.command.Command.{Command}
use Rattle.script_lines.specs.declared.names.NameWord.{NameWord}
use Rattle.script_lines.specs.declared.command.Command.TheVariants.{Part, Ask, Plain}
use Rattle.script_lines.specs.declared.command.Request.{Request}
use Rattle.script_lines.specs.declared.command.Request.TheVariants.{Silence, BadLine, LineTooLong, BeginExec, BeginCore, End, Drop}
use Rattle.script_lines.specs.declared.question.Question.{Question}
use Rattle.script_lines.specs.declared.question.Question.TheVariants as question
use Rattle.script_lines.specs.declared.question.Call.{Call}
use Rattle.script_lines.specs.declared.question.Call.TheVariants.{Delete, Pin, Label, Retire, ListCases, CountFree, Upgrade}

-- the description of a process
abbrev pub process_of : Process → ProcessSaid
process_of p = record {
  comm = p.comm.items;
  exe = p.exe.items;
  host = p.host.items;
  pid = p.pid;
  tid = p.tid;
  signal = p.signal;
  uid = p.uid;
  gid = p.gid;
  mode = p.mode;
  time = p.time;
  limit = p.limit;
}

-- the description of a process by its words
abbrev pub process_told : ProcessWords → ProcessSaid
process_told told = process_in (words_left told.words)

-- the text of a name
abbrev pub name_text : NameWord → List ℕ
name_text name = name.text.items

-- the bytes of a label
abbrev pub label_bytes : ArrayVec ℕ → List ℕ
label_bytes label = label.items

-- the meaning of a request
abbrev pub asked_by : Request → Said
asked_by Silence = silence
asked_by BadLine = bad_line
asked_by LineTooLong = long_line
asked_by (BeginExec slot name) = begin_exec slot name.text.items
asked_by (BeginCore slot process) = begin_core slot (process_told process)
asked_by (End slot) = end_of slot
asked_by (Drop slot) = drop_of slot

-- the meaning of a call
abbrev pub call_said : Call → Said
call_said (Delete seq) = delete_of seq
call_said (Pin seq flag) = pin_of seq flag
call_said (Label seq label) = label_of seq label.items
call_said (Retire policy) = retire_by policy
call_said ListCases = list_all_cases
call_said CountFree = count_free
call_said Upgrade = upgrade_archive

-- the meaning of a question
abbrev pub question_said : Question → Said
question_said (question.Inspect seq query) = inspect_of seq (query_of query)
question_said (question.Call call) = call_said call

-- the meaning of a command
abbrev pub said_by : Command → Said
said_by (Part slot count) = part_of slot count
said_by (Ask question) = question_said question
said_by (Plain request) = asked_by request
