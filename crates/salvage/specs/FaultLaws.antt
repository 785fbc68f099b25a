-- Laws of the faults of records: each names a field of a record, at no byte before the record's gate.
use Rattle.std.proofs.Common.{◌≡◌, ℕ, ◌==◌, Bool, true, false, cond, List, [], ◌∷◌, refl, subst, arith, Option, None, Some}
use Rattle.std.specs.Option.{option_or, option_map}
use Rattle.journal_layout.specs.Checks.{Check, damaged, first_failing, padding_fault, head_checks, store_checks, runs_fault, name_checks, store_fault, count_checks, drop_fault, pin_checks, pin_fault, next_checks, label_checks, label_fault, body_fault, record_fault}
use Rattle.journal_layout.specs.Folding.{Folded}
use Rattle.journal_layout.specs.Reading.{kind_at}
use Rattle.journal_layout.specs.declared.faults.Field.{Field}
use Rattle.journal_layout.specs.declared.faults.Field.TheVariants as named
use Rattle.journal_layout.specs.declared.faults.OpenFault.{OpenFault}
use Rattle.salvage.specs.Finding.{IsBehind, is_of_front}

-- whatever fault it is, it may be that of a record there
abbrev AreBehind : ℕ → Option OpenFault → Type 0
AreBehind at o = (f : OpenFault) → o ≡ Some f → IsBehind at f

abbrev AreOfRecords : List Check → Type 0
AreOfRecords [] = Unit {0}
AreOfRecords (c ∷ rest) = (is_of_front c.2 ≡ false) × AreOfRecords rest

one : (at place : ℕ) (which : Field) → is_of_front which ≡ false → AreBehind at (Some (damaged at which place))
one at place which is f e = subst (IsBehind at) (let same : damaged at which place ≡ f = cc in same) (omega arith, is)

nothing : (at : ℕ) → AreBehind at None
nothing at f e = absurd (cc)

either : (at : ℕ) (t : Bool) (x y : Option OpenFault) → AreBehind at x → AreBehind at y → AreBehind at (cond t x y)
either at true x y one two = one
either at false x y one two = two

or_behind : (at : ℕ) (x y : Option OpenFault) → AreBehind at x → AreBehind at y → AreBehind at (option_or x y)
or_behind at None y one two = two
or_behind at (Some f) y one two = one

map_behind : (at : ℕ) (which : Field) (o : Option ℕ) → is_of_front which ≡ false → AreBehind at (option_map (damaged at which) o)
map_behind at which None is = nothing at
map_behind at which (Some place) is = one at place which is

first_behind : (at : ℕ) (checks : List Check) → AreOfRecords checks → AreBehind at (first_failing at checks)
first_behind at [] all = nothing at
first_behind at (c ∷ rest) all = either at c.0 (Some (damaged at c.2 c.1)) (first_failing at rest) (one at c.1 c.2 all.0) (first_behind at rest all.1)

module _ (limit at : ℕ) (rest : List ℕ) (f : Folded) where
  padding_behind : (from : ℕ) → AreBehind at (padding_fault at rest from)
  padding_behind from = map_behind at named.Padding _ refl

  store_behind : AreBehind at (store_fault limit at rest f)
  store_behind =
      or_behind at (first_failing at (store_checks rest f)) _ (first_behind at (store_checks rest f) (refl, (refl, (refl, (refl, (refl, (refl, tt)))))))
      (or_behind at (runs_fault limit at rest f) _ (map_behind at named.Run _ refl)
      (or_behind at (first_failing at (name_checks rest f)) _ (first_behind at (name_checks rest f) (refl, (refl, tt))) (padding_behind _)))

  drop_behind : AreBehind at (drop_fault at rest f)
  drop_behind =
      or_behind at (first_failing at (count_checks rest)) _ (first_behind at (count_checks rest) (refl, tt))
      (or_behind at _ _ (map_behind at named.Seq _ refl) (padding_behind _))

  pin_behind : AreBehind at (pin_fault at rest f)
  pin_behind = or_behind at (first_failing at (pin_checks rest f)) _ (first_behind at (pin_checks rest f) (refl, (refl, (refl, tt)))) (padding_behind _)

  next_behind : AreBehind at (first_failing at (next_checks rest f))
  next_behind = first_behind at (next_checks rest f) (refl, (refl, tt))

  label_behind : AreBehind at (label_fault at rest f)
  label_behind = or_behind at (first_failing at (label_checks rest f)) _ (first_behind at (label_checks rest f) (refl, (refl, (refl, (refl, tt))))) (padding_behind _)

  body_behind : AreBehind at (body_fault limit at rest f)
  body_behind =
      let k = kind_at rest in
      either at (k == 1) _ _ store_behind
      (either at (k == 2) _ _ drop_behind
      (either at (k == 3) _ _ pin_behind
      (either at (k == 4) _ _ next_behind
      (either at (k == 5) _ _ label_behind (one at 1 named.Kind refl)))))

  pub record_behind : AreBehind at (record_fault limit at rest f)
  unfolding record_fault
  record_behind =
      or_behind at (first_failing at (head_checks f.version rest)) _ (first_behind at (head_checks f.version rest) (refl, (refl, (refl, (refl, tt))))) body_behind
