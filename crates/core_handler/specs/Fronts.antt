-- The front that the names of one program's cores share.
use Rattle.std.specs.Prelude.{ℕ, Bool, false, ◌==◌, ◌||◌, List, [], ◌∷◌, Option, None, Some, Result, Ok, Err, if◌then◌else◌}
use Rattle.std.specs.List.{flat_map}
use Rattle.intake.specs.State.{StreamFacts}
use Rattle.inspector_cli.specs.Storing.{line_stream}
use Rattle.stream_names.specs.Template.{parts_of, spelling, template_fault}
use Rattle.stream_names.specs.declared.part.Part.{Part}
use Rattle.stream_names.specs.declared.part.Part.TheVariants.{Letter, Lone, Plain}
use Rattle.stream_names.specs.declared.template.TemplateFault.{TemplateFault}
use Rattle.script_lines.specs.Said.{Said}
use Rattle.stream_names.specs.declared.naming.Naming.{Naming}

-- cores are named by a template of these bytes
abbrev pub named_by : List ℕ → Bool → Naming
named_by template uses_pid = record { template = record { bytes = record { items = template } }; uses_pid = uses_pid; by_build = false }

-- the letter is that of a process, a thread or a time: p, P, i, I or t
abbrev pub prints_one_core : ℕ → Bool
prints_one_core c = c == 112 || (c == 80 || (c == 105 || (c == 73 || c == 116)))

-- the part is of one core alone
abbrev pub is_of_one_core : Part → Bool
is_of_one_core (Letter c) = prints_one_core c
is_of_one_core Lone = false
is_of_one_core (Plain c) = false

-- the parts before the first that is of one core alone
abbrev pub shared_parts : List Part → List Part
shared_parts [] = []
shared_parts (part ∷ parts) = if is_of_one_core part then [] else part ∷ shared_parts parts

-- the front of a template that all cores of a program share: the text before its first `%p`, `%P`, `%i`, `%I` or `%t`
unfoldable pub shared_front : List ℕ → List ℕ
shared_front template = flat_map spelling (shared_parts (parts_of template))

-- the name of a stream; no byte, if it has none
abbrev pub name_or_none : Result StreamFacts (List ℕ) → List ℕ
name_or_none (Ok stream) = stream.origin.name
name_or_none (Err reason) = []

abbrev pub front_unless : Option TemplateFault → List ℕ → Said → List ℕ
front_unless None front what = name_or_none (line_stream (named_by front false) what)
front_unless (Some fault) front what = []

-- The front that the names of the program's cores share: the name that the front of the template gives for the stream that a line begins. It
-- has no byte if the template gives none: then all names begin so.
abbrev pub program_front : List ℕ → Said → List ℕ
program_front template what = front_unless (template_fault (shared_front template)) (shared_front template) what
