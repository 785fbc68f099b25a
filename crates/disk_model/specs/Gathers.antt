-- The gathered bytes, if there may be any.
use Rattle.std.proofs.Common.{arith}
use Rattle.std.specs.Prelude.{ℕ, ◌^◌, ◌<◌, List, [], length, Option, Some, None}
use Rattle.disk_model.specs.Places.{AreBytes}
use Rattle.disk_model.specs.Gathering.{Laden, laden}
use Rattle.disk_model.specs.declared.gathered.Gathered.{Gathered}

-- the place of the first byte, and the bytes
abbrev pub place_of : Option Gathered → ℕ
place_of None = 0
place_of (Some gathered) = gathered.at

abbrev pub bytes_of : Option Gathered → List ℕ
bytes_of None = []
bytes_of (Some gathered) = gathered.bytes.items

abbrev pub with_gathered : {D : Type 0} → D → Option Gathered → Laden D
with_gathered disk gathered = laden disk (place_of gathered) (bytes_of gathered)

pub few_of : (gathered : Option Gathered) → length (bytes_of gathered) < 2 ^ 64
few_of None = omega arith
few_of (Some gathered) = gathered.few

pub are_of : (gathered : Option Gathered) → AreBytes (bytes_of gathered)
are_of None = λ k. omega arith
are_of (Some gathered) = gathered.are
