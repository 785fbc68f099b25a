-- The meaning of the code's names of functions.
use Rattle.std.specs.Prelude.{List, map}
use Rattle.core_notes.specs.FileList.{FileView}
use Rattle.memory_replies.specs.Backtrace.{Places}
use Rattle.memory_replies.specs.NamedList.{named_in}
use Rattle.memory_replies.specs.Naming.{function_of}
use Rattle.memory_replies.specs.NamingWords.{named_file}
use Rattle.memory_replies.specs.Places.{place_of}
use Rattle.memory_replies.specs.declared.function_names.FunctionNames.{FunctionNames}
use Rattle.memory_replies.specs.declared.function_names.FunctionNames.TheVariants.{OfExecutables, WithDebugFiles}

abbrev pub places_by : List FileView → FunctionNames → Places
places_by files (OfExecutables images) = place_of files (named_in images)
places_by files (WithDebugFiles named) = function_of files (map named_file named.items)
