-- One text that goes to an output in as many writes as it takes.
use Rattle.std.specs.Prelude.{◌≡◌, ℕ, Bool, true, false, List, ◌++◌, Option, Result, Ok, Err}
use Rattle.std.specs.Io.KnownBytes.{Appends}
use Rattle.diagnostics.specs.Counts.{HasRisen}
use Rattle.script_streams.specs.declared.streams.StreamFault.{StreamFault}

-- a text was written whole, or a front of it until a write failed
abbrev pub Writes : Option (List ℕ) → Option (List ℕ) → ℕ → ℕ → List ℕ → Result (Unit {0}) StreamFault → Type 0
Writes before after failures failures' text (Ok done) = Appends before after text × (failures' ≡ failures)
Writes before after failures failures' text (Err fault) =
    (out : List ℕ) × (rest : List ℕ) × (out ++ rest ≡ text) × Appends before after out × HasRisen failures failures'

-- the same, but nothing is written if a write failed before, and the answer says whether one has failed by now
abbrev pub PassesOn : Bool → Option (List ℕ) → Option (List ℕ) → ℕ → ℕ → List ℕ → Bool → Type 0
PassesOn true before after failures failures' text failed = (failed ≡ true) × (after ≡ before) × (failures' ≡ failures)
PassesOn false before after failures failures' text false = Appends before after text × (failures' ≡ failures)
PassesOn false before after failures failures' text true =
    (out : List ℕ) × (rest : List ℕ) × (out ++ rest ≡ text) × Appends before after out × HasRisen failures failures'
