-- A table from its texts.
use Rattle.std.proofs.Common.{◌≡◌, ℕ, List, map, ap, ◌∙◌, Vec}
use Rattle.std.specs.Global.{Global}
use Rattle.group_tables.specs.Columns.{rows_text, texts}
use Rattle.group_tables.specs.declared.columns.Column.{Column}

-- rows in columns that are laid out by the same rows
pub in_layout : (layout : List (List (List ℕ)) → List Column) (columns : List Column) (by told all : List (Vec (Vec ℕ Global) Global)) (rows : List (List (List ℕ)))
    → columns ≡ layout (map texts by) → by ≡ all → told ≡ all → map texts all ≡ rows → rows_text columns (map texts told) ≡ rows_text (layout rows) rows
in_layout layout columns by told all rows laid by_all told_all is =
    ap (λ (cs : List Column). rows_text cs (map texts told)) (laid ∙ ap layout (ap (map texts) by_all ∙ is))
    ∙ ap (rows_text (layout rows)) (ap (map texts) told_all ∙ is)
