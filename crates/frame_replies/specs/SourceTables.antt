-- The line tables of an executable that is used for a mapped file.
use Rattle.std.specs.Prelude.{Option}
use Rattle.std.specs.Result.{result_ok}
use Rattle.frame_replies.specs.Source.{SourcesView, sources_for}
use Rattle.memory_replies.specs.Naming.{NamedFile, debug_image}

-- its own, or else those of its debug file
abbrev pub tables_of : NamedFile → Option SourcesView
tables_of n = result_ok (sources_for n.file.image (debug_image n))
