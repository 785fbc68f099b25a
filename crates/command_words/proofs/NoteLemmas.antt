-- What was delivered of the line of a note is a front of it.
use Rattle.std.proofs.Common.{◌≡◌, ℕ, List, [], ◌++◌, Option, Result, Ok, Err, sym}
use Rattle.std.proofs.lemmas.List.{append-nil}
use Rattle.std.specs.Io.KnownBytes.{Appends}
use Rattle.script_streams.specs.Printing.{IsDelivered}
use Rattle.script_streams.specs.declared.streams.StreamFault.{StreamFault}

pub front_delivered : (start taken : Option (List ℕ)) (count failures : ℕ) (line : List ℕ) (result : Result (Unit {0}) StreamFault)
    → IsDelivered start count taken failures line result
    → (front : List ℕ) × (rest : List ℕ) × (line ≡ front ++ rest) × Appends start taken front
front_delivered start taken count failures line (Ok done) all = (line, [], sym (append-nil line), all)
front_delivered start taken count failures line (Err fault) part = (part.0, part.1, sym part.2, part.3)
