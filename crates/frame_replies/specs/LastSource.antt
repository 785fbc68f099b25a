-- The executable whose line tables were read last.
use Rattle.std.specs.Prelude.{◌≡◌, Bool, false, List, ℕ, find, Option, None, Some}
use Rattle.memory_replies.specs.Naming.{NamedFile, has_path}
use Rattle.memory_replies.specs.NamingWords.{named_file}
use Rattle.frame_replies.specs.declared.source_executable.SourceExecutable.{SourceExecutable}

abbrev pub source_file : SourceExecutable → NamedFile
source_file s = named_file s.named.now

-- an executable that is the first of its path
abbrev pub IsFirst : List NamedFile → NamedFile → Type 0
IsFirst named n = find (has_path n.file.path) named ≡ Some n

-- one of that path
abbrev pub is_last : List ℕ → Option SourceExecutable → Bool
is_last path None = false
is_last path (Some s) = has_path path (source_file s)
