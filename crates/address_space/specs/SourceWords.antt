-- The meaning of the code's sources and pieces.
use Rattle.std.specs.Prelude.{ℕ, List, Option, None, Some}
use Rattle.std.specs.Option.{option_map}
use Rattle.address_space.specs.Source.{SpotView, Content, held, from_file, not_dumped, cut, unmapped}
use Rattle.address_space.specs.Pieces.{PieceView}
use Rattle.address_space.specs.declared.source.FileSpot.{FileSpot}
use Rattle.address_space.specs.declared.source.Source as sources
use Rattle.address_space.specs.declared.source.Source.TheVariants as source
use Rattle.address_space.specs.declared.source.PieceKind as kinds
use Rattle.address_space.specs.declared.source.PieceKind.TheVariants as kind
use Rattle.address_space.specs.declared.source.Piece.{Piece}

abbrev pub spot_view : FileSpot → SpotView
spot_view s = record { name = s.name.now; offset = s.offset }

abbrev pub source_view : sources.Source → Content ℕ
source_view (source.Byte x) = held x
source_view (source.FromFile x) = from_file x
source_view (source.NotDumped s) = not_dumped (option_map spot_view s)
source_view source.Cut = cut
source_view source.Unmapped = unmapped

abbrev pub kind_view : kinds.PieceKind → Content (List ℕ)
kind_view (kind.Bytes b) = held b.now
kind_view (kind.FromFile b) = from_file b.now
kind_view (kind.NotDumped s) = not_dumped (option_map spot_view s)
kind_view kind.Cut = cut
kind_view kind.Unmapped = unmapped

abbrev pub piece_view : Piece → PieceView
piece_view p = record { first = p.first; length = p.length; content = kind_view p.kind }

-- the values of the addresses of a piece, if they have any
abbrev pub bytes_in : Content (List ℕ) → Option (List ℕ)
bytes_in (held b) = Some b
bytes_in (from_file b) = Some b
bytes_in (not_dumped e) = None
bytes_in cut = None
bytes_in unmapped = None
