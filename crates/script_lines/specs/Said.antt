-- The meaning of a line of a script.
use Rattle.std.specs.Prelude.{ℕ, ◌^◌, ◌-◌, Bool, true, false, nat_lt, nat_le, List, [], ◌∷◌, length, Option, None, Some, codes, if◌then◌else◌}
use Rattle.std.specs.Str.{bytes_eq}
use Rattle.retention.specs.declared.Policy.{Policy}
use Rattle.script_words.specs.Words.{words_of, is_plain_line, is_blank_or_comment_line}
use Rattle.script_words.specs.Number.{number_within}
use Rattle.script_words.specs.Text.{text_of}
use Rattle.script_lines.specs.declared.keys.Keys.TheVariants.{Core, Retire}
use Rattle.script_lines.specs.Queries.{QuerySaid, by_build, query_rows, query_in}
use Rattle.script_lines.specs.Keys.{are_pairs, text_at, small_at, large_at, number_or_zero}

-- the description that a line gives of a process that dumped core: a key that the line leaves out is empty or 0
pub record ProcessSaid : Type 0 where
  pub comm : List ℕ
  pub exe : List ℕ
  pub host : List ℕ
  pub pid : ℕ
  pub tid : ℕ
  pub signal : ℕ
  pub uid : ℕ
  pub gid : ℕ
  pub mode : ℕ
  pub time : ℕ
  pub limit : ℕ

-- the request of a line, or why the line requests nothing
pub data Said : Type 0 where
  -- nothing, and it has no reply
  silence : Said
  -- nothing that is known
  bad_line : Said
  -- it has more than 1,024 bytes
  long_line : Said
  -- a stream of an executable of this name, in a slot
  begin_exec : ℕ → List ℕ → Said
  -- a stream of the core of this process, in a slot
  begin_core : ℕ → ProcessSaid → Said
  -- bytes for a slot, and how many of them follow the line
  part_of : ℕ → ℕ → Said
  -- the stream in a slot becomes a case
  end_of : ℕ → Said
  -- the stream in a slot is dropped
  drop_of : ℕ → Said
  -- the case of this number is dropped
  delete_of : ℕ → Said
  -- the case of this number is kept from deletion, or no longer
  pin_of : ℕ → Bool → Said
  -- the case of this number gets this label
  label_of : ℕ → List ℕ → Said
  -- the cases that the rule drops under this policy are dropped
  retire_by : Policy → Said
  -- the cases
  list_all_cases : Said
  -- the free data blocks
  count_free : Said
  -- the archive is brought to version 2 of the layout, which keeps labels
  upgrade_archive : Said
  -- this is asked of the image of the case of this number
  inspect_of : ℕ → QuerySaid → Said

-- the meaning, if the words are known
abbrev pub known_or_bad : Option Said → Said
known_or_bad None = bad_line
known_or_bad (Some said) = said

-- a slot: 0 to 7
abbrev pub slot_of : List ℕ → Option ℕ
slot_of word = number_within 0 7 word

-- a slot and a text
abbrev pub begins : Option ℕ → Option (List ℕ) → Option Said
begins None text = None
begins (Some slot) None = None
begins (Some slot) (Some text) = Some (begin_exec slot text)

-- a slot and a number of bytes
abbrev pub parts : Option ℕ → Option ℕ → Option Said
parts None count = None
parts (Some slot) None = None
parts (Some slot) (Some count) = Some (part_of slot count)

abbrev pub ends : Option ℕ → Option Said
ends None = None
ends (Some slot) = Some (end_of slot)

abbrev pub drops : Option ℕ → Option Said
drops None = None
drops (Some slot) = Some (drop_of slot)

-- `begin exec SLOT NAME`, after the kind
abbrev pub exec_said : List (List ℕ) → Option Said
exec_said [] = None
exec_said (slot ∷ []) = None
exec_said (slot ∷ name ∷ []) = begins (slot_of slot) (text_of name)
exec_said (slot ∷ name ∷ more ∷ words) = None

-- the description of a process by pairs
abbrev pub process_in : List (List ℕ) → ProcessSaid
process_in words = record {
  comm = text_at (codes "comm") words;
  exe = text_at (codes "exe") words;
  host = text_at (codes "host") words;
  pid = small_at (codes "pid") words;
  tid = small_at (codes "tid") words;
  signal = small_at (codes "sig") words;
  uid = small_at (codes "uid") words;
  gid = small_at (codes "gid") words;
  mode = small_at (codes "mode") words;
  time = number_or_zero (large_at (codes "time") words);
  limit = number_or_zero (large_at (codes "limit") words);
}

-- the description of a process by pairs, if they are pairs that describe one
abbrev pub process_said : List (List ℕ) → Option ProcessSaid
process_said words = if are_pairs Core words then Some (process_in words) else None

-- a slot and a process
abbrev pub begins_core : Option ℕ → Option ProcessSaid → Option Said
begins_core None process = None
begins_core (Some slot) None = None
begins_core (Some slot) (Some process) = Some (begin_core slot process)

-- `begin core SLOT KEY=VALUE ..`, after the kind
abbrev pub core_said : List (List ℕ) → Option Said
core_said [] = None
core_said (slot ∷ words) = begins_core (slot_of slot) (process_said words)

-- the words after the word of each command: `begin KIND ..`
abbrev pub begin_said : List (List ℕ) → Option Said
begin_said [] = None
begin_said (kind ∷ words) =
    if bytes_eq kind (codes "exec") then exec_said words
    else (if bytes_eq kind (codes "core") then core_said words
    else None)

-- `part SLOT COUNT`, 0 to 65,536 bytes
abbrev pub part_said : List (List ℕ) → Option Said
part_said [] = None
part_said (slot ∷ []) = None
part_said (slot ∷ count ∷ []) = parts (slot_of slot) (number_within 0 65536 count)
part_said (slot ∷ count ∷ more ∷ words) = None

-- the one word that is a slot
abbrev pub slot_alone : List (List ℕ) → Option ℕ
slot_alone [] = None
slot_alone (slot ∷ []) = slot_of slot
slot_alone (slot ∷ more ∷ words) = None

-- the one word that is the number of a case, 1 to 2 ^ 32 - 1
abbrev pub case_alone : List (List ℕ) → Option ℕ
case_alone [] = None
case_alone (seq ∷ []) = number_within 1 (2 ^ 32 - 1) seq
case_alone (seq ∷ more ∷ words) = None

abbrev pub deletes : Option ℕ → Option Said
deletes None = None
deletes (Some seq) = Some (delete_of seq)

abbrev pub pins : Bool → Option ℕ → Option Said
pins flag None = None
pins flag (Some seq) = Some (pin_of seq flag)

abbrev pub labels : Option ℕ → Option (List ℕ) → Option Said
labels None label = None
labels (Some seq) None = None
labels (Some seq) (Some label) = Some (label_of seq label)

-- a text of at most 64 bytes
abbrev pub short_label : Option (List ℕ) → Option (List ℕ)
short_label None = None
short_label (Some text) = if nat_le (length text) 64 then Some text else None

-- the label after the case: a text of at most 64 bytes; it is empty if the line gives no text
abbrev pub label_text : List (List ℕ) → Option (List ℕ)
label_text [] = Some []
label_text (text ∷ []) = short_label (text_of text)
label_text (text ∷ more ∷ words) = None

-- `label N [TEXT]`
abbrev pub label_said : List (List ℕ) → Option Said
label_said [] = None
label_said (seq ∷ words) = labels (number_within 1 (2 ^ 32 - 1) seq) (label_text words)

-- the policy that pairs give
abbrev pub policy_in : List (List ℕ) → Policy
policy_in words = record {
  keep = large_at (codes "keep") words;
  bytes = large_at (codes "bytes") words;
  before = large_at (codes "before") words;
}

-- `retire KEY=VALUE ..`
abbrev pub retire_said : List (List ℕ) → Option Said
retire_said words = if are_pairs Retire words then Some (retire_by (policy_in words)) else None

-- `free`
abbrev pub free_said : List (List ℕ) → Option Said
free_said [] = Some count_free
free_said (more ∷ words) = None

-- `list`
abbrev pub list_said : List (List ℕ) → Option Said
list_said [] = Some list_all_cases
list_said (more ∷ words) = None

-- `upgrade`
abbrev pub upgrade_said : List (List ℕ) → Option Said
upgrade_said [] = Some upgrade_archive
upgrade_said (more ∷ words) = None

-- a case and a query
abbrev pub inspects : Option ℕ → Option QuerySaid → Option Said
inspects None query = None
inspects (Some seq) None = None
inspects (Some seq) (Some query) = Some (inspect_of seq query)

-- the commands that inspect the image of a case, 1 to 2 ^ 32 - 1
abbrev pub inspect_said : List ℕ → List (List ℕ) → Option Said
inspect_said command [] = None
inspect_said command (seq ∷ words) = inspects (number_within 1 (2 ^ 32 - 1) seq) (query_in query_rows command words)

-- the commands on cases, and on the archive as a whole
abbrev pub case_words_said : List ℕ → List (List ℕ) → Option Said
case_words_said command words =
    if bytes_eq command (codes "delete") then deletes (case_alone words)
    else (if bytes_eq command (codes "pin") then pins true (case_alone words)
    else (if bytes_eq command (codes "unpin") then pins false (case_alone words)
    else (if bytes_eq command (codes "label") then label_said words
    else (if bytes_eq command (codes "retire") then retire_said words
    else (if bytes_eq command (codes "list") then list_said words
    else (if bytes_eq command (codes "free") then free_said words
    else (if bytes_eq command (codes "upgrade") then upgrade_said words
    else inspect_said command words)))))))

-- the commands on streams, and the others
abbrev pub command_said : List ℕ → List (List ℕ) → Option Said
command_said command words =
    if bytes_eq command (codes "begin") then begin_said words
    else (if bytes_eq command (codes "part") then part_said words
    else (if bytes_eq command (codes "end") then ends (slot_alone words)
    else (if bytes_eq command (codes "drop") then drops (slot_alone words)
    else case_words_said command words)))

-- the meaning of the words of a line
abbrev pub words_said : List (List ℕ) → Option Said
words_said [] = None
words_said (command ∷ words) = command_said command words

-- the meaning of a line that has a reply and is not too long: it has no bytes but spaces and 0x21 to 0x7e
abbrev pub short_line_said : List ℕ → Said
short_line_said line = if is_plain_line line then known_or_bad (words_said (words_of line)) else bad_line

-- The meaning of a line. A blank line and a comment have no reply, however long they are; any other line that is too long means only that.
abbrev pub said : List ℕ → Said
said line =
    if is_blank_or_comment_line line then silence
    else if nat_lt 1024 (length line) then long_line
    else short_line_said line

-- how many bytes follow a line and its newline
abbrev pub raw_length : Said → ℕ
raw_length silence = 0
raw_length bad_line = 0
raw_length long_line = 0
raw_length (begin_exec slot name) = 0
raw_length (begin_core slot process) = 0
raw_length (part_of slot count) = count
raw_length (end_of slot) = 0
raw_length (drop_of slot) = 0
raw_length (delete_of seq) = 0
raw_length (pin_of seq flag) = 0
raw_length (label_of seq label) = 0
raw_length (retire_by policy) = 0
raw_length list_all_cases = 0
raw_length count_free = 0
raw_length upgrade_archive = 0
raw_length (inspect_of seq query) = 0

-- The request of the line is complete in one line: it does not begin, feed, end or drop a stream, and it has a reply.
abbrev pub is_question : Said → Bool
is_question (delete_of seq) = true
is_question (pin_of seq flag) = true
is_question (label_of seq label) = true
is_question (retire_by policy) = true
is_question list_all_cases = true
is_question count_free = true
is_question upgrade_archive = true
is_question (inspect_of seq query) = true
is_question _ = false

-- The line only reads an archive, and changes nothing in it.
abbrev pub only_looks : Said → Bool
only_looks list_all_cases = true
only_looks count_free = true
only_looks (inspect_of seq query) = true
only_looks _ = false

-- the meaning of a line if executables are chosen by build, and the same by a flag for that choice
abbrev pub said_by_build : Said → Said
said_by_build (inspect_of seq query) = inspect_of seq (by_build query)
said_by_build what = what

abbrev pub said_choosing : Bool → Said → Said
said_choosing by_build what = if by_build then said_by_build what else what
