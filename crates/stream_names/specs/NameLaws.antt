-- Names that a journal may hold.
use Rattle.std.proofs.Common.{◌≡◌, ◌≢◌, ℕ, ◌<◌, ◌≤◌, ◌==◌, false, List, [], ◌∷◌, length, arith}
use Rattle.std.proofs.lemmas.Bool.{or_parts, eqb-false}
use Rattle.std.specs.List.{AllByRecursion, list_any}
use Rattle.disk_model.specs.Places.{AreBytes}
use Rattle.journal_layout.specs.Soundness.{IsName}

no_nul : (name : List ℕ) → list_any (λ c. c == 0) name ≡ false → AllByRecursion (λ (b : ℕ). b ≢ 0) name
no_nul [] e = tt
no_nul (b ∷ rest) e = let h = or_parts (b == 0) (list_any (λ c. c == 0) rest) e in ((λ s. eqb-false b 0 h.0 s), no_nul rest h.1)

-- some bytes, at most 128, with no NUL among them
pub is_name : (name : List ℕ) → 0 < length name → length name ≤ 128 → AreBytes name → list_any (λ c. c == 0) name ≡ false → IsName name
is_name name some short bytes none = record { some = omega arith; short = short; bytes = bytes; no_nul = no_nul name none }
