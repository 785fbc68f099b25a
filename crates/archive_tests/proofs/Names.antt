-- What is a name, from what is looked at when a test runs.
use Rattle.std.proofs.Common.{◌≡◌, ◌≢◌, ℕ, ◌≤◌, false, List, [], ◌∷◌, nat_eq, length, sym}
use Rattle.std.proofs.lemmas.Bool.{or_parts, eqb-false}
use Rattle.std.specs.List.{AllByRecursion, list_any}
use Rattle.disk_model.specs.Places.{AreBytes}
use Rattle.journal_layout.specs.Folding.{is_among}
use Rattle.journal_layout.specs.Soundness.{IsName}

-- a name without NUL
pub no_nul : (name : List ℕ) → is_among name 0 ≡ false → AllByRecursion (λ (b : ℕ). b ≢ 0) name
no_nul [] e = tt
no_nul (b ∷ rest) e =
    let h = or_parts (nat_eq 0 b) (list_any (nat_eq 0) rest) e in
    ((λ s. eqb-false 0 b h.0 (sym s)), no_nul rest h.1)

pub is_name : (name : List ℕ) → 1 ≤ length name → length name ≤ 128 → AreBytes name → is_among name 0 ≡ false → IsName name
is_name name some short bytes none = record { some = some; short = short; bytes = bytes; no_nul = no_nul name none }
