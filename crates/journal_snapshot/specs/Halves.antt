-- The bytes of a half after its gate, once a journal is written anew into it.
use Rattle.std.specs.Prelude.{◌≡◌, ℕ, ◌+◌, List, [], ◌∷◌, ◌++◌, map}
use Rattle.journal_layout.specs.declared.entry.Entry.{Entry}
use Rattle.journal_layout.specs.Layout.{half_header}
use Rattle.journal_layout.specs.Case.{case_of}
use Rattle.journal_layout.specs.Record.{Next, spelling}
use Rattle.journal_layout.specs.Folding.{Folded}
use Rattle.journal_layout.specs.Standing.{Standing}
use Rattle.journal_layout.specs.Rewriting.{other_start, MayRewrite}
use Rattle.journal_snapshot.specs.declared.change.Change.{Change}
use Rattle.journal_snapshot.specs.declared.target.Target.{Target}
use Rattle.journal_snapshot.specs.Changing.{staying, added}
use Rattle.journal_snapshot.specs.Writing.{written_entries, written_added}

-- the header after the gate, the records of the cases, that of the next number, and a closed gate
abbrev pub half_bytes : Target → Change → List Entry → List ℕ
half_bytes target ch es = ((half_header target.version target.generation ++ written_entries ch es) ++ written_added ch) ++ (spelling (Next target.next) ++ 0 ∷ [])

-- The change of these entries gives these cases and this next number, and they may be written there.
pub record IsWrittenAs (s : Standing) (f : Folded) (target : Target) (ch : Change) (es : List Entry) : Type 0 where
  pub place : target.start ≡ other_start s
  pub version : target.version ≡ f.version
  pub generation : target.generation ≡ s.generation + 1
  pub next : target.next ≡ f.next
  pub cases : f.cases ≡ staying ch (map case_of es) ++ added ch
  pub may : MayRewrite s f
