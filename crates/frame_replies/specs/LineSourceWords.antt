-- What the code's sections of line tables mean.
use Rattle.std.specs.Prelude.{◌≡◌, ⊤, Result, Ok, Err}
use Rattle.elf_view.specs.ViewWords.{image_of}
use Rattle.line_tables.specs.Finding.{tables}
use Rattle.inflate.specs.SectionWords.{bytes_in}
use Rattle.frame_replies.specs.Source.{SourcesView, compilations_in}
use Rattle.frame_replies.specs.declared.line_sections.LineSections.{LineSections}
use Rattle.frame_replies.specs.declared.source.NoTables.{NoTables}
use Rattle.frame_replies.specs.declared.source.NoTables.TheVariants.{Compressed, Missing, OutOfMemory}

-- the line tables in them, and the compilations of their file
abbrev pub sections_view : LineSections → SourcesView
sections_view s = record { tables = tables (bytes_in s.lines) (bytes_in s.line_texts) (bytes_in s.texts); compilations = compilations_in (image_of s.elf) }

-- They are these, or there are none for that reason, unless memory was refused.
abbrev pub FindsSources : Result LineSections NoTables → Result SourcesView NoTables → Type 0
FindsSources (Ok s) sources = sources ≡ Ok (sections_view s)
FindsSources (Err Compressed) sources = sources ≡ Err Compressed
FindsSources (Err Missing) sources = sources ≡ Err Missing
FindsSources (Err OutOfMemory) sources = ⊤
