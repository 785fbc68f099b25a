-- The meaning of the code's paths.
use Rattle.line_tables.specs.Files.{PathView}
use Rattle.line_tables.specs.declared.files.FilePath.{FilePath}

abbrev pub path_view : FilePath → PathView
path_view p = record { base = p.base.now; directory = p.directory.now; name = p.name.now }
