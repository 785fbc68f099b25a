-- A message that grows.
use Rattle.std.specs.Prelude.{List, ℕ, ◌++◌}
use Rattle.sha2.specs.Hashers.{Holds256}
use Rattle.sha2.specs.declared.Sha256.{Sha256}

-- these bytes were added to the message that the hasher held
abbrev pub Adds : Sha256 → Sha256 → List ℕ → Type 0
Adds old new bytes = (m : List ℕ) → Holds256 old m → Holds256 new (m ++ bytes)
