-- The meaning of the code's iterators over pieces and mappings.
use Rattle.std.specs.Prelude.{List, map}
use Rattle.std.specs.Option.{option_map}
use Rattle.elf_view.specs.Header.{LoadView}
use Rattle.elf_view.specs.LoadWords.{loads_left}
use Rattle.address_space.specs.Source.{MappingView, mapping_in}
use Rattle.address_space.specs.Pieces.{PieceView, pieces_of}
use Rattle.address_space.specs.SourceWords.{spot_view}
use Rattle.address_space.specs.SpaceWords.{space_of}
use Rattle.address_space.specs.declared.mappings.Mapping.{Mapping}
use Rattle.address_space.specs.declared.mappings.Mappings.{Mappings}
use Rattle.address_space.specs.declared.pieces.Pieces.{Pieces}

-- the pieces that are still to come
abbrev pub pieces_left : Pieces → List PieceView
pieces_left p = pieces_of (space_of p.space.now) p.at p.left

abbrev pub mapping_view : Mapping → MappingView
mapping_view m = record { start = m.start; memsz = m.memsz; flags = m.flags; filesz = m.filesz; spot = option_map spot_view m.spot }

-- the mappings that are still to come
abbrev pub mappings_left : Mappings → List MappingView
mappings_left m = map (λ (l : LoadView). mapping_in (space_of m.space.now) l.segment) (loads_left m.loads)
