-- The names of the files of a core in the spool.
use Rattle.std.specs.Prelude.{ℕ, List, ◌++◌, codes, decimal}
use Rattle.handler_files.specs.declared.spool_name.SpoolName.{SpoolName}
use Rattle.handler_files.specs.declared.spool_name.Stage.{Stage}
use Rattle.handler_files.specs.declared.spool_name.Stage.TheVariants.{Part, Whole}

-- STAMP.PID and an end
abbrev pub named : SpoolName → List ℕ → List ℕ
named n end = decimal n.stamp ++ (codes "." ++ (decimal n.pid ++ end))

abbrev pub core_name : SpoolName → List ℕ
core_name n = named n (codes ".core")

abbrev pub part_name : SpoolName → List ℕ
part_name n = named n (codes ".core.part")

abbrev pub words_name : SpoolName → List ℕ
words_name n = named n (codes ".words")

abbrev pub words_part_name : SpoolName → List ℕ
words_part_name n = named n (codes ".words.part")

-- the name at this stage
abbrev pub name_of : SpoolName → Stage → List ℕ
name_of n Part = part_name n
name_of n Whole = core_name n

-- that of its words
abbrev pub words_of : SpoolName → Stage → List ℕ
words_of n Part = words_part_name n
words_of n Whole = words_name n
