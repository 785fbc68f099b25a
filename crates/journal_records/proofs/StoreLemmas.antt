-- The parts of a Store record's check, in their order.
use Rattle.std.proofs.Common.{◌≡◌, ℕ, ◌+◌, Bool, true, false, not, ◌||◌, cond, nat_eq, List, Option, Some, None, refl, sym, ap, ◌∙◌, subst}
use Rattle.std.specs.Option.{option_or}
use Rattle.std.specs.BTreeSet.{BTreeSet}
use Rattle.arrayvec.specs.ArrayVec.{ArrayVec}
use Rattle.journal_layout.specs.declared.faults.Field.TheVariants as named
use Rattle.journal_layout.specs.declared.faults.OpenFault.{OpenFault}
use Rattle.journal_layout.specs.Layout.{field}
use Rattle.journal_layout.specs.Reading.{store_runs, name_at, name_place, name_length_at}
use Rattle.journal_layout.specs.Folding.{Folded, is_among, is_name_of}
use Rattle.journal_layout.specs.Soundness.{blocks_for}
use Rattle.journal_layout.specs.Checks.{damaged, first_failing, store_checks, runs_fault, block_count, padding_fault, store_fault}
use Rattle.journal_records.specs.Head.{SaysFault}
use Rattle.journal_records.specs.Taken.{fault_of_name}
use Rattle.journal_records.specs.Named.{has_name}
use Rattle.journal_records.proofs.FaultLemmas.{prints_first, prints_second}

abbrev pub facts_part : ℕ → List ℕ → Folded → Option OpenFault
facts_part at rest f = first_failing at (store_checks rest f)

-- whether an image of `count` blocks has the length that the record tells
abbrev pub image_part : ℕ → List ℕ → ℕ → Option OpenFault
image_part at rest count = cond (not (nat_eq count (blocks_for (field rest 32 8)))) (Some (damaged at named.ImageLength 32)) None

abbrev pub name_part : ℕ → List ℕ → Folded → Option OpenFault
name_part at rest f = cond (is_among (name_at rest) 0 || is_name_of f.cases (name_at rest)) (Some (damaged at named.Name (name_place rest))) None

abbrev pub end_part : ℕ → List ℕ → Option OpenFault
end_part at rest = padding_fault at rest (name_place rest + name_length_at rest)

two_checks : (s t : Bool) (x y : OpenFault) (d : Option OpenFault) → option_or (cond s (Some x) (cond t (Some y) None)) d ≡ option_or (cond s (Some x) None) (option_or (cond t (Some y) None) d)
two_checks true t x y d = refl
two_checks false true x y d = refl
two_checks false false x y d = refl

store_chain : (limit at : ℕ) (rest : List ℕ) (f : Folded) → store_fault limit at rest f
    ≡ option_or (facts_part at rest f) (option_or (runs_fault limit at rest f) (option_or (image_part at rest (block_count (store_runs rest))) (option_or (name_part at rest f) (end_part at rest))))
store_chain limit at rest f =
    ap (λ (x : Option OpenFault). option_or (facts_part at rest f) (option_or (runs_fault limit at rest f) x))
    (two_checks (not (nat_eq (block_count (store_runs rest)) (blocks_for (field rest 32 8)))) (is_among (name_at rest) 0 || is_name_of f.cases (name_at rest))
    (damaged at named.ImageLength 32) (damaged at named.Name (name_place rest)) (end_part at rest))

module _ (limit at : ℕ) (rest : List ℕ) (f : Folded) (e : OpenFault) where
  told : SaysFault (option_or (facts_part at rest f) (option_or (runs_fault limit at rest f) (option_or (image_part at rest (block_count (store_runs rest))) (option_or (name_part at rest f) (end_part at rest))))) e
      → SaysFault (store_fault limit at rest f) e
  told is = subst (λ (x : Option OpenFault). SaysFault x e) (sym (store_chain limit at rest f)) is

  pub facts_told : SaysFault (facts_part at rest f) e → SaysFault (store_fault limit at rest f) e
  facts_told is =
      told (prints_first (facts_part at rest f) (option_or (runs_fault limit at rest f) (option_or (image_part at rest (block_count (store_runs rest))) (option_or (name_part at rest f) (end_part at rest)))) e is)

  behind_facts : facts_part at rest f ≡ None
      → SaysFault (option_or (runs_fault limit at rest f) (option_or (image_part at rest (block_count (store_runs rest))) (option_or (name_part at rest f) (end_part at rest)))) e
      → SaysFault (store_fault limit at rest f) e
  behind_facts facts is =
      told (prints_second (facts_part at rest f) (option_or (runs_fault limit at rest f) (option_or (image_part at rest (block_count (store_runs rest))) (option_or (name_part at rest f) (end_part at rest)))) e facts is)

  pub runs_told : facts_part at rest f ≡ None → SaysFault (runs_fault limit at rest f) e → SaysFault (store_fault limit at rest f) e
  runs_told facts is =
      behind_facts facts (prints_first (runs_fault limit at rest f) (option_or (image_part at rest (block_count (store_runs rest))) (option_or (name_part at rest f) (end_part at rest))) e is)

  behind_runs : facts_part at rest f ≡ None → runs_fault limit at rest f ≡ None
      → SaysFault (option_or (image_part at rest (block_count (store_runs rest))) (option_or (name_part at rest f) (end_part at rest))) e
      → SaysFault (store_fault limit at rest f) e
  behind_runs facts runs is =
      behind_facts facts (prints_second (runs_fault limit at rest f) (option_or (image_part at rest (block_count (store_runs rest))) (option_or (name_part at rest f) (end_part at rest))) e runs is)

  pub image_told : facts_part at rest f ≡ None → runs_fault limit at rest f ≡ None → SaysFault (image_part at rest (block_count (store_runs rest))) e
      → SaysFault (store_fault limit at rest f) e
  image_told facts runs is =
      behind_runs facts runs (prints_first (image_part at rest (block_count (store_runs rest))) (option_or (name_part at rest f) (end_part at rest)) e is)

  behind_image : facts_part at rest f ≡ None → runs_fault limit at rest f ≡ None → image_part at rest (block_count (store_runs rest)) ≡ None
      → SaysFault (option_or (name_part at rest f) (end_part at rest)) e
      → SaysFault (store_fault limit at rest f) e
  behind_image facts runs image is =
      behind_runs facts runs (prints_second (image_part at rest (block_count (store_runs rest))) (option_or (name_part at rest f) (end_part at rest)) e image is)

  pub name_told : facts_part at rest f ≡ None → runs_fault limit at rest f ≡ None → image_part at rest (block_count (store_runs rest)) ≡ None → SaysFault (name_part at rest f) e
      → SaysFault (store_fault limit at rest f) e
  name_told facts runs image is = behind_image facts runs image (prints_first (name_part at rest f) (end_part at rest) e is)

  pub end_told : facts_part at rest f ≡ None → runs_fault limit at rest f ≡ None → image_part at rest (block_count (store_runs rest)) ≡ None → name_part at rest f ≡ None → SaysFault (end_part at rest) e
      → SaysFault (store_fault limit at rest f) e
  end_told facts runs image name is = behind_image facts runs image (prints_second (name_part at rest f) (end_part at rest) e name is)

or_none : (o p : Option OpenFault) → o ≡ None → p ≡ None → option_or o p ≡ None
or_none o p first second = ap (λ (x : Option OpenFault). option_or x p) first ∙ second

pub store_passes : (limit at : ℕ) (rest : List ℕ) (f : Folded) → facts_part at rest f ≡ None → runs_fault limit at rest f ≡ None → image_part at rest (block_count (store_runs rest)) ≡ None → name_part at rest f ≡ None
    → end_part at rest ≡ None → store_fault limit at rest f ≡ None
store_passes limit at rest f facts runs image name end =
    store_chain limit at rest f
    ∙ or_none (facts_part at rest f) (option_or (runs_fault limit at rest f) (option_or (image_part at rest (block_count (store_runs rest))) (option_or (name_part at rest f) (end_part at rest)))) facts
    (or_none (runs_fault limit at rest f) (option_or (image_part at rest (block_count (store_runs rest))) (option_or (name_part at rest f) (end_part at rest))) runs
    (or_none (image_part at rest (block_count (store_runs rest))) (option_or (name_part at rest f) (end_part at rest)) image
    (or_none (name_part at rest f) (end_part at rest) name end)))

-- the name's part, where the set of names tells which are taken
pub name_part_is : (at : ℕ) (rest : List ℕ) (f : Folded) (names : BTreeSet (ℕ × ArrayVec ℕ)) → is_name_of f.cases (name_at rest) ≡ has_name names (name_at rest) → name_part at rest f ≡ fault_of_name at rest names
name_part_is at rest f names same = ap (λ t. cond (is_among (name_at rest) 0 || t) (Some (damaged at named.Name (name_place rest))) None) same

passed_name : (s t : Bool) (x : OpenFault) → cond (s || t) (Some x) None ≡ None → t ≡ false
passed_name true t x is = absurd (let h : Some x ≡ None = is in cc)
passed_name false true x is = absurd (let h : Some x ≡ None = is in cc)
passed_name false false x is = refl

pub fresh_name : (at : ℕ) (rest : List ℕ) (names : BTreeSet (ℕ × ArrayVec ℕ)) → fault_of_name at rest names ≡ None → has_name names (name_at rest) ≡ false
fresh_name at rest names none = passed_name (is_among (name_at rest) 0) (has_name names (name_at rest)) (damaged at named.Name (name_place rest)) none
