-- The queries of the lines that inspect: each line has a command, the number of a case, and then the words that its query needs.
use Rattle.std.specs.Prelude.{ℕ, ◌^◌, ◌<◌, ◌≤◌, All, length, List, [], ◌∷◌, Option, None, Some, codes, if◌then◌else◌}
use Rattle.std.specs.Str.{bytes_eq}
use Rattle.script_words.specs.Hex.{needle_of}
use Rattle.script_words.specs.Number.{number_of, number_within}
use Rattle.script_lines.specs.declared.names.Needle.{Needle}
use Rattle.script_lines.specs.declared.query.Query.{Query}
use Rattle.script_lines.specs.declared.query.Query.TheVariants.{Image, Memory, ByBuild, Symbol, SymbolByBuild, Line}
use Rattle.script_lines.specs.declared.query.ImageQuery.{ImageQuery}
use Rattle.script_lines.specs.declared.query.ImageQuery.TheVariants.{Header, Notes, Threads, Registers, Process, Signal, AuxiliaryVector, Files, Maps}
use Rattle.script_lines.specs.declared.query.BuildQuery.{BuildQuery}
use Rattle.script_lines.specs.declared.query.BuildQuery.TheVariants.{Compared, Used, Wanted}
use Rattle.script_lines.specs.declared.query.MemoryQuery.{MemoryQuery}
use Rattle.script_lines.specs.declared.query.MemoryQuery.TheVariants.{Dump, At, Find, Strings, Backtrace, Unwind, Lines, Frame, Builds}

-- a line's query about an image
pub data QuerySaid : Type 0 where
  -- the header of the ELF file, and its segments
  ask_header : QuerySaid
  -- the notes of a core
  ask_notes : QuerySaid
  -- its threads
  ask_threads : QuerySaid
  -- the general registers of the thread at this place among them, from 0 on
  ask_registers : ℕ → QuerySaid
  -- the process that dumped core
  ask_process : QuerySaid
  -- the signal that ended it
  ask_signal : QuerySaid
  -- its auxiliary vector
  ask_auxiliary_vector : QuerySaid
  -- the files that were mapped into its memory
  ask_files : QuerySaid
  -- the stretches of its memory, and the content of each
  ask_maps : QuerySaid
  -- the bytes of its memory from an address on, and how many of them
  ask_dump : ℕ → ℕ → QuerySaid
  -- the content of its memory at this address
  ask_at : ℕ → QuerySaid
  -- the places where these bytes occur in its memory
  ask_find : List ℕ → QuerySaid
  -- the texts in its memory of at least this length in bytes
  ask_strings : ℕ → QuerySaid
  -- the frames of the thread at this place among them, from 0 on, by frame pointers
  ask_backtrace : ℕ → QuerySaid
  -- the same by call frame information
  ask_unwind : ℕ → QuerySaid
  -- the source lines of these frames
  ask_lines : ℕ → QuerySaid
  -- the registers of the frame at this place among them, from 0 on, of the thread at that place
  ask_frame : ℕ → ℕ → QuerySaid
  -- the builds of the files that were mapped into its memory: the build IDs, next to those of the executables; the cases whose
  -- executables are used; or those that no executable is used for
  ask_builds : BuildQuery → QuerySaid
  -- the function of an executable that covers this address
  ask_symbol : ℕ → QuerySaid
  -- the same of a core's memory, to which the executables are attached of the builds that were mapped; no line says it by itself
  ask_by_build : QuerySaid → QuerySaid
  -- the function that covers this address, of an executable or of the debug file of its build; no line says it by itself
  ask_symbol_by_build : ℕ → QuerySaid
  -- the source line of this address, by line tables of an executable or of the debug file of its build
  ask_line : ℕ → QuerySaid

-- a query with nothing after the case
abbrev pub alone : QuerySaid → List (List ℕ) → Option QuerySaid
alone query [] = Some query
alone query (more ∷ words) = None

-- the value that the single word is read as
abbrev pub one_word : {A : Type 0} → (List ℕ → Option A) → List (List ℕ) → Option A
one_word read [] = None
one_word read (word ∷ []) = read word
one_word read (word ∷ more ∷ words) = None

abbrev pub asks_of : {A : Type 0} → (A → QuerySaid) → Option A → Option QuerySaid
asks_of query None = None
asks_of query (Some x) = Some (query x)

-- a query of a number of 64 bits, after the case
abbrev pub numbered : (ℕ → QuerySaid) → List (List ℕ) → Option QuerySaid
numbered query words = asks_of query (one_word number_of words)

-- a query of bytes, after the case as hexadecimal digits
abbrev pub searched : (List ℕ → QuerySaid) → List (List ℕ) → Option QuerySaid
searched query words = asks_of query (one_word needle_of words)

-- a query of a number from 1 to 1,024, after the case
abbrev pub bounded : (ℕ → QuerySaid) → List (List ℕ) → Option QuerySaid
bounded query words = asks_of query (one_word (number_within 1 1024) words)

abbrev pub asks_both : (ℕ → ℕ → QuerySaid) → Option ℕ → Option ℕ → Option QuerySaid
asks_both query None length = None
asks_both query (Some first) None = None
asks_both query (Some first) (Some length) = Some (query first length)

-- a query of two numbers of 64 bits, after the case
abbrev pub ranged : (ℕ → ℕ → QuerySaid) → List (List ℕ) → Option QuerySaid
ranged query [] = None
ranged query (first ∷ []) = None
ranged query (first ∷ length ∷ []) = asks_both query (number_of first) (number_of length)
ranged query (first ∷ length ∷ more ∷ words) = None

-- the lines that inspect builds, symbols and source lines, as below
abbrev pub build_rows : List (List ℕ × (List (List ℕ) → Option QuerySaid))
build_rows =
    (codes "builds", alone (ask_builds Compared))
    ∷ (codes "used", alone (ask_builds Used))
    ∷ (codes "wants", alone (ask_builds Wanted))
    ∷ (codes "symbol", numbered ask_symbol)
    ∷ (codes "line", numbered ask_line)
    ∷ []

-- the lines that inspect memory, frames and symbols, as below
abbrev pub memory_rows : List (List ℕ × (List (List ℕ) → Option QuerySaid))
memory_rows =
    (codes "maps", alone ask_maps)
    ∷ (codes "dump", ranged ask_dump)
    ∷ (codes "at", numbered ask_at)
    ∷ (codes "find", searched ask_find)
    ∷ (codes "strings", bounded ask_strings)
    ∷ (codes "bt", numbered ask_backtrace)
    ∷ (codes "unwind", numbered ask_unwind)
    ∷ (codes "lines", numbered ask_lines)
    ∷ (codes "frame", ranged ask_frame)
    ∷ build_rows

-- the lines that inspect: the command of each, and the words that may follow the number of the case
abbrev pub query_rows : List (List ℕ × (List (List ℕ) → Option QuerySaid))
query_rows =
    (codes "header", alone ask_header)
    ∷ (codes "notes", alone ask_notes)
    ∷ (codes "threads", alone ask_threads)
    ∷ (codes "regs", numbered ask_registers)
    ∷ (codes "process", alone ask_process)
    ∷ (codes "signal", alone ask_signal)
    ∷ (codes "auxv", alone ask_auxiliary_vector)
    ∷ (codes "files", alone ask_files)
    ∷ memory_rows

-- the query that the row of a command gives for the words after the case
abbrev pub query_in : List (List ℕ × (List (List ℕ) → Option QuerySaid)) → List ℕ → List (List ℕ) → Option QuerySaid
query_in [] command words = None
query_in (row ∷ rows) command words = if bytes_eq command row.0 then row.1 words else query_in rows command words

-- the bytes of a needle
abbrev pub needle_bytes : Needle → List ℕ
needle_bytes needle = needle.bytes.items

-- the meaning of the code's queries
abbrev pub image_query : ImageQuery → QuerySaid
image_query Header = ask_header
image_query Notes = ask_notes
image_query Threads = ask_threads
image_query (Registers thread) = ask_registers thread
image_query Process = ask_process
image_query Signal = ask_signal
image_query AuxiliaryVector = ask_auxiliary_vector
image_query Files = ask_files
image_query Maps = ask_maps

abbrev pub memory_query : MemoryQuery → QuerySaid
memory_query (Dump first length) = ask_dump first length
memory_query (At address) = ask_at address
memory_query (Find needle) = ask_find needle.bytes.items
memory_query (Strings least) = ask_strings least
memory_query (Backtrace thread) = ask_backtrace thread
memory_query (Unwind thread) = ask_unwind thread
memory_query (Lines thread) = ask_lines thread
memory_query (Frame thread frame) = ask_frame thread frame
memory_query (Builds asked) = ask_builds asked

abbrev pub query_of : Query → QuerySaid
query_of (Image query) = image_query query
query_of (Memory query) = memory_query query
query_of (ByBuild query) = ask_by_build (memory_query query)
query_of (Symbol address) = ask_symbol address
query_of (SymbolByBuild address) = ask_symbol_by_build address
query_of (Line address) = ask_line address

-- the query if executables are chosen by build: the lines over memory that attach
-- them by path do so by build, and a function is looked up in the debug file too
abbrev pub by_build : QuerySaid → QuerySaid
by_build (ask_dump first length) = ask_by_build (ask_dump first length)
by_build (ask_at address) = ask_by_build (ask_at address)
by_build (ask_find needle) = ask_by_build (ask_find needle)
by_build (ask_strings least) = ask_by_build (ask_strings least)
by_build (ask_backtrace thread) = ask_by_build (ask_backtrace thread)
by_build (ask_symbol address) = ask_symbol_by_build address
by_build query = query

-- the numbers in a query have 64 bits, a text has 1 to 1,024 bytes at least, and 1 to 64 bytes are looked for
abbrev pub IsSayable : QuerySaid → Type 0
IsSayable (ask_registers thread) = thread < 2 ^ 64
IsSayable (ask_dump first length) = (first < 2 ^ 64) × (length < 2 ^ 64)
IsSayable (ask_at address) = address < 2 ^ 64
IsSayable (ask_find needle) = (0 < length needle) × (length needle ≤ 64) × All (λ c. c < 256) needle
IsSayable (ask_strings least) = (1 ≤ least) × (least ≤ 1024)
IsSayable (ask_backtrace thread) = thread < 2 ^ 64
IsSayable (ask_unwind thread) = thread < 2 ^ 64
IsSayable (ask_lines thread) = thread < 2 ^ 64
IsSayable (ask_frame thread frame) = (thread < 2 ^ 64) × (frame < 2 ^ 64)
IsSayable (ask_symbol address) = address < 2 ^ 64
IsSayable (ask_by_build query) = ⊥
IsSayable (ask_symbol_by_build address) = ⊥
IsSayable (ask_line address) = address < 2 ^ 64
IsSayable _ = Unit {0}
