-- The meaning of the code's table of executables.
use Rattle.std.specs.Prelude.{ℕ, Bool, if◌then◌else◌, List, [], ◌∷◌, ◌++◌, find, is_none, map}
use Rattle.address_space.specs.Source.{ExecutableView, is_named}
use Rattle.address_space.specs.SpaceWords.{attached_view}
use Rattle.build_replies.specs.declared.table.Table.{Table}

abbrev pub table_rows : Table → List ExecutableView
table_rows t = map attached_view t.list.items

abbrev pub path_of : ExecutableView → List ℕ
path_of x = x.path

-- none of them has the name
abbrev pub is_new : List ExecutableView → List ℕ → Bool
is_new rows name = is_none (find (is_named name) rows)

-- a row of that name, which has no bytes
abbrev pub row_of : List ℕ → ExecutableView
row_of name = record { path = name; image = [] }

-- a name more, if none of them has it
abbrev pub with_name : List ExecutableView → List ℕ → List ExecutableView
with_name rows name = if is_new rows name then rows ++ row_of name ∷ [] else rows
