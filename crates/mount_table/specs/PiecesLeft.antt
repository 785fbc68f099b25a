-- The iterator over pieces as callers see it.
use Rattle.std.specs.Prelude.{ℕ, List, [], Option, None, Some}
use Rattle.std.specs.Borrow.{Bor}
use Rattle.mount_table.specs.Pieces.{pieces_of}
use Rattle.mount_table.specs.declared.pieces.Pieces.{Pieces}

-- the pieces of a text, if there is one
abbrev pub pieces_in : ℕ → Option (Bor (List ℕ)) → List (List ℕ)
pieces_in separator None = []
pieces_in separator (Some text) = pieces_of separator text.now

-- the pieces that have not come yet
abbrev pub pieces_left : Pieces → List (List ℕ)
pieces_left pieces = pieces_in pieces.separator pieces.rest

-- the bytes of a piece
abbrev pub piece_bytes : Bor (List ℕ) → List ℕ
piece_bytes piece = piece.now
