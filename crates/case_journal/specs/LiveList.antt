-- The entries of the live cases as contracts see them.
use Rattle.std.specs.Prelude.{ℕ, List}
use Rattle.journal_layout.specs.declared.entry.Entry.{Entry}

pub record LiveList : Type 0 where
  -- in the order in which they were put
  pub entries : List Entry
  -- how many more there is memory for
  pub spare : ℕ
