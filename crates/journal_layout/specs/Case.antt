-- A case as the journal keeps it: the origin of its image, and the blocks that hold it.
use Rattle.std.specs.Prelude.{ℕ, Bool, List, []}
use Rattle.journal_layout.specs.declared.entry.Kind.{Kind}
use Rattle.journal_layout.specs.declared.entry.Entry.{Entry}

-- the origin of an image
pub record Origin : Type 0 where
  pub kind : Kind
  pub name : List ℕ
  pub pid : ℕ
  pub signal : ℕ
  pub time : ℕ

pub record Case : Type 0 where
  pub seq : ℕ
  pub origin : Origin
  pub pinned : Bool
  -- the image's bytes
  pub len : ℕ
  -- the blocks that hold them, in order
  pub blocks : List ℕ
  -- its label
  pub label : List ℕ

-- the case of an entry
abbrev pub case_of : Entry → Case
case_of e = record {
  seq = e.seq;
  origin = record { kind = e.kind; name = e.name.items; pid = e.pid; signal = e.signal; time = e.time };
  pinned = e.pinned;
  len = e.length;
  blocks = e.runs;
  label = e.label.items;
}

-- the same case under another number
abbrev pub numbered : ℕ → Case → Case
numbered seq c = record c { seq = seq }

-- the case as it was stored, when it had no label yet
abbrev pub unlabelled : Case → Case
unlabelled c = record c { label = [] }
