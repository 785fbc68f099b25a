use Rattle.std.proofs.Common.{ℕ, List, ◌++◌, map, take}
use Rattle.stream_names.specs.Expansion.{without_slash}
use Rattle.stream_names.specs.Naming.{KeepsText}
use Rattle.stream_names.proofs.text.NameText.add_path.Given as goal

abbrev pub invariant-loop-byte : goal.invariant-loop-byte
invariant-loop-byte l = (text : List ℕ) → KeepsText text l.initial.self → KeepsText (text ++ map without_slash (take l.byte-index l.path)) l.self
