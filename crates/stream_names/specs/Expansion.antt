-- The text that a template gives for a process: its parts' texts, joined (core(5), "Naming of core dump files").
use Rattle.std.specs.Prelude.{ℕ, Bool, true, false, not, ◌==◌, ◌&&◌, nat_lt, List, [], ◌∷◌, ◌++◌, length, map, take, decimal, Result, Ok, Err, if◌then◌else◌}
use Rattle.std.specs.List.{flat_map, list_any}
use Rattle.stream_names.specs.Template.{parts_of}
use Rattle.stream_names.specs.declared.part.Part.{Part}
use Rattle.stream_names.specs.declared.part.Part.TheVariants.{Letter, Lone, Plain}
use Rattle.stream_names.specs.declared.facts.Facts.{Facts}
use Rattle.stream_names.specs.declared.template.NameFault.{NameFault}
use Rattle.stream_names.specs.declared.template.NameFault.TheVariants.{Empty, TooLong, NulByte}

-- a slash as `!`, and any other byte as it is
abbrev pub without_slash : ℕ → ℕ
without_slash c = if c == 47 then 33 else c

-- the text of a letter; any other letter has none: `%f`, `%F` and `%C` too
abbrev pub letter_text : Facts → ℕ → List ℕ
letter_text facts c =
    if c == 37 then 37 ∷ []  -- %%: a percent
    else (if c == 99 then decimal facts.limit  -- %c: the limit on the size of the core file
    else (if c == 100 then decimal facts.mode  -- %d: the dump mode
    else (if c == 101 then take 15 facts.comm.now  -- %e: the name of the command, as the kernel keeps it
    else (if c == 69 then map without_slash facts.exe.now  -- %E: the path of the executable
    else (if c == 103 then decimal facts.gid  -- %g: the real group
    else (if c == 104 then facts.host.now  -- %h: the name of the host
    else (if c == 105 then decimal facts.tid  -- %i: the thread, in its own name space
    else (if c == 73 then decimal facts.tid  -- %I: the thread, in the initial name space
    else (if c == 112 then decimal facts.pid  -- %p: the process, in its own name space
    else (if c == 80 then decimal facts.pid  -- %P: the process, in the initial name space
    else (if c == 115 then decimal facts.signal  -- %s: the signal
    else (if c == 116 then decimal facts.time  -- %t: the time, in seconds since the epoch
    else (if c == 117 then decimal facts.uid  -- %u: the real user
    else [])))))))))))))

-- a lone percent gives no text, and any other byte itself
abbrev pub part_text : Facts → Part → List ℕ
part_text facts (Letter c) = letter_text facts c
part_text facts Lone = []
part_text facts (Plain c) = c ∷ []

-- the part is `%p`
abbrev pub is_pid_part : Part → Bool
is_pid_part (Letter c) = c == 112
is_pid_part Lone = false
is_pid_part (Plain c) = false

-- the text of parts
abbrev pub parts_text : Facts → List Part → List ℕ
parts_text facts parts = flat_map (part_text facts) parts

-- `.` and the process, if core_uses_pid is set and no part is `%p`
abbrev pub pid_suffix : Facts → Bool → Bool → List ℕ
pid_suffix facts uses_pid shows_pid = if uses_pid && not shows_pid then 46 ∷ decimal facts.pid else []

-- the text of a template
abbrev pub expansion : List ℕ → Facts → Bool → List ℕ
expansion template facts uses_pid =
    parts_text facts (parts_of template) ++ pid_suffix facts uses_pid (list_any is_pid_part (parts_of template))

-- no byte
abbrev pub is_empty_text : List ℕ → Bool
is_empty_text [] = true
is_empty_text (c ∷ cs) = false

-- a text as a name, or the first reason why it is no name
abbrev pub name_of : List ℕ → Result (List ℕ) NameFault
name_of text =
    if is_empty_text text then Err Empty
    else (if nat_lt 128 (length text) then Err TooLong
    else (if list_any (λ c. c == 0) text then Err NulByte
    else Ok text))
