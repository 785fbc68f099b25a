-- The tables of groups.
use Rattle.std.specs.Prelude.{ℕ, Bool, true, false, List, [], ◌∷◌, ◌++◌, filter, map}
use Rattle.std.proofs.Math.Bool.{beq}
use Rattle.group_tables.specs.declared.columns.Column.{Column}
use Rattle.group_tables.specs.declared.columns.Side.TheVariants.{Left, Right, End}
use Rattle.group_tables.specs.Cells.{case_cell, case_columns, case_heading, group_cell, group_columns, group_heading}
use Rattle.group_tables.specs.Columns.{column_of, rows_text}
use Rattle.group_tables.specs.Values.{MemberSaid, RowSaid}
use Rattle.case_tables.specs.declared.zones.Zone.{Zone}

-- numbers are at the right of their column, all other texts at the left, and nothing follows the last
abbrev pub group_layout : List (List (List ℕ)) → List Column
group_layout rows =
    column_of 0 Right rows ∷ column_of 1 Left rows ∷ column_of 2 Left rows ∷ column_of 3 Left rows ∷ column_of 4 Right rows ∷ column_of 5 Left rows
    ∷ column_of 6 Left rows ∷ column_of 7 End rows ∷ []

abbrev pub case_layout : List (List (List ℕ)) → List Column
case_layout rows =
    column_of 0 Right rows ∷ column_of 1 Left rows ∷ column_of 2 Left rows ∷ column_of 3 Left rows ∷ column_of 4 Left rows ∷ column_of 5 Left rows
    ∷ column_of 6 Left rows ∷ column_of 7 End rows ∷ []

-- the heads, and a row for each group
abbrev pub group_rows : Zone → ℕ → List RowSaid → List (List (List ℕ))
group_rows zone latest rs = map group_heading group_columns ∷ map (λ r. map (group_cell zone latest r) group_columns) rs

abbrev pub in_group_layout : List (List (List ℕ)) → List ℕ
in_group_layout rows = rows_text (group_layout rows) rows

-- The table of groups, with times of a zone. Those after this moment count as none.
abbrev pub groups_table : Zone → ℕ → List RowSaid → List ℕ
groups_table zone latest rs = in_group_layout (group_rows zone latest rs)

abbrev pub case_row : Zone → MemberSaid → List (List ℕ)
case_row zone m = map (case_cell zone m) case_columns

-- it is perhaps of the group, or it is certain
abbrev pub is_so : Bool → MemberSaid → Bool
is_so is_perhaps m = beq m.is_perhaps is_perhaps

-- the heads, and a row for each core: first those that are certain, and then the others
abbrev pub case_rows : Zone → List MemberSaid → List (List (List ℕ))
case_rows zone ms = map case_heading case_columns ∷ (map (case_row zone) (filter (is_so false) ms) ++ map (case_row zone) (filter (is_so true) ms))

abbrev pub in_case_layout : List (List (List ℕ)) → List ℕ
in_case_layout rows = rows_text (case_layout rows) rows

-- The table of the cores of a group, as a list of cases shows them.
abbrev pub members_table : Zone → List MemberSaid → List ℕ
members_table zone ms = in_case_layout (case_rows zone ms)

-- One group: its row, an empty line, and its cores.
abbrev pub group_screen : Zone → ℕ → RowSaid → List ℕ
group_screen zone latest r = groups_table zone latest (r ∷ []) ++ (10 ∷ [] ++ members_table zone r.members)
