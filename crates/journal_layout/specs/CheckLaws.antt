-- Laws of the checks of a record: the meaning of a list of checks of which no check fails.
use Rattle.std.proofs.Common.{◌≡◌, ℕ, zero, suc, ◌+◌, ◌-◌, ◌%◌, ◌≤◌, Bool, true, false, ◌==◌, List, [], ◌∷◌, length, replicate, refl, ap, ◌∙◌, Option, Some, None, cond}
use Rattle.std.specs.Option.{option_or, option_map}
use Rattle.std.proofs.lemmas.Bool.{or_parts, or_from, not-false, not_from_true, and_parts, and_from, le-ltb, ltb-false, le-leb, leb-true, eq-eqb, eqb-true}
use Rattle.disk_model.specs.Places.{part}
use Rattle.journal_layout.specs.declared.faults.Field.{Field}
use Rattle.journal_layout.specs.declared.faults.Field.TheVariants as named
use Rattle.journal_layout.specs.Layout.{field}
use Rattle.journal_layout.specs.Reading.{kind_at, length_at}
use Rattle.journal_layout.specs.Soundness.{last_kind}
use Rattle.journal_layout.specs.Checks.{Check, damaged, first_failing, first_set, padding_fault, head_checks}

-- one answer or the other
pub or_none : {X : Type 0} (o p : Option X) → option_or o p ≡ None → (o ≡ None) × (p ≡ None)
or_none None p e = (refl, e)
or_none (Some x) p e = cc

pub none_or : {X : Type 0} (o p : Option X) → o ≡ None → p ≡ None → option_or o p ≡ None
none_or None p e f = f
none_or (Some x) p e f = e

pub map_none : {X Y : Type 0} (g : X → Y) (o : Option X) → option_map g o ≡ None → o ≡ None
map_none g None e = refl
map_none g (Some x) e = cc

pub none_map : {X Y : Type 0} (g : X → Y) (o : Option X) → o ≡ None → option_map g o ≡ None
none_map g None e = refl
none_map g (Some x) e = cc

-- no check fails
abbrev pub AllPass : List Check → Type 0
AllPass [] = Unit {0}
AllPass (check ∷ checks) = (check.0 ≡ false) × AllPass checks

passed_first : (at : ℕ) (t : Bool) (place : ℕ) (which : Field) (checks : List Check)
    → first_failing at ((t, place, which) ∷ checks) ≡ None → (t ≡ false) × (first_failing at checks ≡ None)
passed_first at false place which checks e = (refl, e)
passed_first at true place which checks e = cc

passes_first : (at : ℕ) (t : Bool) (place : ℕ) (which : Field) (checks : List Check)
    → t ≡ false → first_failing at checks ≡ None → first_failing at ((t, place, which) ∷ checks) ≡ None
passes_first at false place which checks e rest = rest
passes_first at true place which checks e rest = cc

pub passed : (at : ℕ) (checks : List Check) → first_failing at checks ≡ None → AllPass checks
passed at [] e = tt
passed at (check ∷ checks) e =
    let h = passed_first at check.0 check.1 check.2 checks e in
    (h.0, passed at checks h.1)

pub passes : (at : ℕ) (checks : List Check) → AllPass checks → first_failing at checks ≡ None
passes at [] h = refl
passes at (check ∷ checks) h = passes_first at check.0 check.1 check.2 checks h.0 (passes at checks h.1)

-- zeros
pub zeros_pass : (place n : ℕ) → first_set place (replicate n 0) ≡ None
zeros_pass place zero = refl
zeros_pass place (suc n) = zeros_pass (place + 1) n

pub zeros_passed : (place : ℕ) (xs : List ℕ) → first_set place xs ≡ None → xs ≡ replicate (length xs) 0
zeros_passed place [] e = refl
zeros_passed place (x ∷ xs) e =
    let both : (t : Bool) → cond t (first_set (place + 1) xs) (Some place) ≡ None → (t ≡ true) × (first_set (place + 1) xs ≡ None) =
    λ t. elim t as (λ u. cond u (first_set (place + 1) xs) (Some place) ≡ None → (u ≡ true) × (first_set (place + 1) xs ≡ None)) [ true ↦ λ g. (refl, g) | false ↦ λ g. cc ] in
    let parts : (x == 0 ≡ true) × (first_set (place + 1) xs ≡ None) = both (x == 0) e in
    ap (λ (z : ℕ). z ∷ xs) (eqb-true x 0 parts.0) ∙ ap (λ (zs : List ℕ). 0 ∷ zs) (zeros_passed (place + 1) xs parts.1)

-- the conditions that hold if the first checks of a record pass; each record of a half of this version has these checks
pub record HasHead (version : ℕ) (rest : List ℕ) : Type 0 where
  pub enough : 17 ≤ length rest
  pub some_kind : 1 ≤ kind_at rest
  pub known_kind : kind_at rest ≤ last_kind version
  pub reserved : field rest 2 2 ≡ 0
  pub long : 16 ≤ length_at rest
  pub whole : length_at rest % 16 ≡ 0
  pub in_half : length_at rest + 1 ≤ length rest

pub head_passes : (at version : ℕ) (rest : List ℕ) → HasHead version rest → first_failing at (head_checks version rest) ≡ None
head_passes at version rest h =
    passes at (head_checks version rest) (
      le-ltb (length rest) 17 h.enough,
      (
        not_from_true _ (and_from _ _ (le-leb 1 (kind_at rest) h.some_kind) (le-leb (kind_at rest) (last_kind version) h.known_kind)),
        (
          not_from_true _ (eq-eqb (field rest 2 2) 0 h.reserved),
          (
            or_from _ _ (or_from _ _ (le-ltb (length_at rest) 16 h.long) (not_from_true _ (eq-eqb (length_at rest % 16) 0 h.whole)))
                (le-ltb (length rest) (length_at rest + 1) h.in_half),
            tt,
          ),
        ),
      ),
    )

pub head_passed : (at version : ℕ) (rest : List ℕ) → first_failing at (head_checks version rest) ≡ None → HasHead version rest
head_passed at version rest e =
    let h = passed at (head_checks version rest) e in
    let kinds = and_parts _ _ (not-false _ h.1.0) in
    let in_half = or_parts _ _ h.1.1.1.0 in
    let lengths = or_parts _ _ in_half.0 in
    record {
      enough = ltb-false (length rest) 17 h.0;
      some_kind = leb-true 1 (kind_at rest) kinds.0;
      known_kind = leb-true (kind_at rest) (last_kind version) kinds.1;
      reserved = eqb-true (field rest 2 2) 0 (not-false _ h.1.1.0);
      long = ltb-false (length_at rest) 16 lengths.0;
      whole = eqb-true (length_at rest % 16) 0 (not-false _ lengths.1);
      in_half = ltb-false (length rest) (length_at rest + 1) in_half.1;
    }

-- padding
pub padding_passes : (at : ℕ) (rest : List ℕ) (from : ℕ) → part rest from (length_at rest - from) ≡ replicate (length_at rest - from) 0 → padding_fault at rest from ≡ None
padding_passes at rest from e =
    none_map (damaged at named.Padding) (first_set from (part rest from (length_at rest - from)))
    (ap (first_set from) e ∙ zeros_pass from (length_at rest - from))

pub padding_passed : (at : ℕ) (rest : List ℕ) (from : ℕ) → padding_fault at rest from ≡ None → part rest from (length_at rest - from) ≡ replicate (length (part rest from (length_at rest - from))) 0
padding_passed at rest from e =
    zeros_passed from (part rest from (length_at rest - from)) (map_none (damaged at named.Padding) (first_set from (part rest from (length_at rest - from))) e)
