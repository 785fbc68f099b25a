-- Whether a record has room in a journal.
use Rattle.std.specs.Prelude.{ℕ, ◌+◌, ◌||◌, nat_lt, Bool}
use Rattle.journal_layout.specs.Layout.{half_length}
use Rattle.journal_layout.specs.Rewriting.{snapshot_size}
use Rattle.journal_layout.specs.Standing.{Standing, folded_of}

-- A record of `size` bytes, and the gate after it, have room after the records that are there, or after the cases that are written anew
-- into the other half.
abbrev pub has_room : Standing → ℕ → Bool
has_room s size = nat_lt (s.used + size) (half_length s.shape) || nat_lt (snapshot_size (folded_of s) + size) (half_length s.shape)
