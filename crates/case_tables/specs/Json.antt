-- The JSON object of a case.
use Rattle.std.specs.Prelude.{ℕ, ◌==◌, ◌^◌, ◌&&◌, not, nat_lt, Bool, true, false, List, [], ◌∷◌, ◌++◌, map, Option, Some, None, if◌then◌else◌, codes, decimal}
use Rattle.std.specs.List.{list_any}
use Rattle.std.specs.Str.{is_utf8}
use Rattle.serde_json.specs.Data.{Data, null, boolean, number, string, array, object, unsigned, member, no_members}
use Rattle.serde_json.specs.View.{items_of}
use Rattle.journal_layout.specs.Case.{Case}
use Rattle.journal_layout.specs.declared.entry.Kind.{Kind}
use Rattle.journal_layout.specs.declared.entry.Kind.TheVariants.{Core, Exec}
use Rattle.script_words.specs.Printing.{shown}
use Rattle.thread_regs.specs.SignalNames.{numbered_name}
use Rattle.case_tables.specs.NameParts.{host_in, program_in, user_in}

abbrev pub kind_word : Kind → List ℕ
kind_word Core = codes "core"
kind_word Exec = codes "exec"

-- A number. From 2^53 on many readers of JSON round it, so it is a string of its decimal digits.
abbrev pub number_json : ℕ → Data
number_json n = if nat_lt n (2 ^ 53) then number (unsigned n) else string (decimal n)

-- a number that is known, or null
abbrev pub known_json : ℕ → Data
known_json n = if n == 0 then null else number_json n

abbrev pub named_json : Option (List ℕ) → ℕ → Data
named_json (Some name) n = string (codes "SIG" ++ name)
named_json None n = known_json n

-- a signal by its name, or by its number; null if there was no signal
abbrev pub signal_json : ℕ → Data
signal_json n = named_json (numbered_name n) n

-- a text, as it is or as a script prints it; null for the empty one
abbrev pub text_json : Bool → List ℕ → Data
text_json escaped [] = null
text_json false (c ∷ cs) = string (c ∷ cs)
text_json true (c ∷ cs) = string (shown (c ∷ cs))

abbrev pub is_zero : ℕ → Bool
is_zero b = b == 0

-- Bytes that JSON can have as they are. Many readers of JSON refuse a NUL.
abbrev pub is_text : List ℕ → Bool
is_text bytes = is_utf8 bytes && not (list_any is_zero bytes)

-- a name or a label is no such text: both are printed as a script prints them
abbrev pub is_escaped : Case → Bool
is_escaped c = not (is_text c.origin.name && is_text c.label)

-- a part of a name
abbrev pub part_json : Bool → List ℕ → Data
part_json escaped part = if is_text part then text_json escaped part else text_json true part

abbrev pub found_json : Option ℕ → Data
found_json None = null
found_json (Some n) = number (unsigned n)

-- The user, the host and the program that the name says, each null if the name does not say it.
unfoldable pub origin_json : Case → Data
origin_json c = object (member (codes "host") (part_json (is_escaped c) (host_in c))
    (member (codes "program") (part_json (is_escaped c) (program_in c))
    (member (codes "user") (found_json (user_in c)) no_members)))

-- an object with the known fields of a case, its members in the order of their names
abbrev pub case_json : Case → Data
case_json c = object (member (codes "case") (number (unsigned c.seq))
    (member (codes "escaped") (boolean (is_escaped c))
    (member (codes "kept") (boolean c.pinned)
    (member (codes "kind") (string (kind_word c.origin.kind))
    (member (codes "label") (text_json (is_escaped c) c.label)
    (member (codes "name") (text_json (is_escaped c) c.origin.name)
    (member (codes "origin") (origin_json c)
    (member (codes "pid") (known_json c.origin.pid)
    (member (codes "signal") (signal_json c.origin.signal)
    (member (codes "size") (number_json c.len)
    (member (codes "time") (known_json c.origin.time) no_members)))))))))))

-- an array of an object for each case, in their order
abbrev pub cases_json : List Case → Data
cases_json cs = array (items_of (map case_json cs))
