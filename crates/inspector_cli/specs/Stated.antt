-- A file of which the length or the digest is stated.
use Rattle.std.specs.Prelude.{◌≡◌, ◌≢◌, ℕ, Bool, true, false, List, ◌++◌, length, Option, None, Some}
use Rattle.sha2.specs.Hashers.{Holds256}
use Rattle.sha2.specs.Sha256.{sha256}
use Rattle.sha2.specs.declared.Sha256.{Sha256}
use Rattle.inspector_cli.specs.declared.stated.Stated.{Stated}

-- as many bytes as were stated, if that was done
abbrev pub HasLength : Option ℕ → List ℕ → Type 0
HasLength None raw = Unit {0}
HasLength (Some n) raw = length raw ≡ n

-- bytes with the SHA-256 that was stated, if that was done
abbrev pub HasDigest : Option (List ℕ) → List ℕ → Type 0
HasDigest None raw = Unit {0}
HasDigest (Some digest) raw = sha256 raw ≡ digest

-- The bytes are those of a file of which this was stated.
pub record IsStated (want : Stated) (raw : List ℕ) : Type 0 where
  pub length : HasLength want.length raw
  pub digest : HasDigest want.digest raw

-- They have the length that was stated, if that was done, and another SHA-256 than was stated.
pub record HasOtherDigest (want : Stated) (raw : List ℕ) : Type 0 where
  pub length : HasLength want.length raw
  pub digest : List ℕ
  pub stated : want.digest ≡ Some digest
  pub other : sha256 raw ≢ digest

-- whether they have the SHA-256 that was stated, if that was done
abbrev pub MatchesDigest : Option (List ℕ) → List ℕ → Bool → Type 0
MatchesDigest want raw true = HasDigest want raw
MatchesDigest want raw false = (digest : List ℕ) × (want ≡ Some digest) × (sha256 raw ≢ digest)

-- If a digest is stated, there is a hasher, and it holds these bytes.
abbrev pub IsHashed : Option (List ℕ) → Option Sha256 → List ℕ → Type 0
IsHashed None hasher raw = Unit {0}
IsHashed (Some digest) None raw = ⊥
IsHashed (Some digest) (Some hasher) raw = Holds256 hasher raw

-- These bytes are hashed behind those so far.
abbrev pub HashesOn : Option Sha256 → Option Sha256 → List ℕ → Type 0
HashesOn hasher hasher' more = (digest : Option (List ℕ)) (raw : List ℕ) → IsHashed digest hasher raw → IsHashed digest hasher' (raw ++ more)
