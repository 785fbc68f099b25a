-- What an error of a part tells of the whole.
use Rattle.std.proofs.Common.{◌≡◌, ℕ, ◌+◌, ◌-◌, ◌*◌, Bool, true, false, List, [], ◌∷◌, length, cond, Option, Some, None, Result, Ok, Err, refl, sym, ap, subst}
use Rattle.std.specs.Option.{option_or, option_map}
use Rattle.std.specs.Result.{IsErrAnd, OnOk}
use Rattle.journal_layout.specs.declared.faults.Field.{Field}
use Rattle.journal_layout.specs.declared.faults.Field.TheVariants as named
use Rattle.journal_layout.specs.declared.faults.OpenFault.{OpenFault}
use Rattle.journal_layout.specs.declared.faults.OpenFault.TheVariants.{Damaged, OutOfMemory}
use Rattle.journal_layout.specs.Reading.{length_at, seq_count_at, drop_seqs, label_length_at}
use Rattle.disk_model.specs.Places.{part}
use Rattle.journal_layout.specs.Folding.{Folded}
use Rattle.journal_layout.specs.Checks.{record_fault, Check, damaged, first_failing, first_set, first_bad_seq, padding_fault, pin_checks, pin_fault, label_checks, label_fault, count_checks, drop_fault}
use Rattle.journal_records.specs.declared.cases.Cases.{Cases}
use Rattle.journal_records.specs.Head.{SaysFault}
use Rattle.journal_records.specs.Kept.{said_by, Says, OnlyMemory, Reads, ReadsRecord}

abbrev pub IsDamaged : OpenFault → Type 0
IsDamaged (Damaged at which) = Unit {0}
IsDamaged other = ⊥

abbrev pub OnlyDamaged : Option OpenFault → Type 0
OnlyDamaged None = Unit {0}
OnlyDamaged (Some e) = IsDamaged e

pub checks_only : (at : ℕ) (checks : List Check) → OnlyDamaged (first_failing at checks)
checks_only at [] = tt
checks_only at (check ∷ checks) =
    elim check.0 as (λ t. OnlyDamaged (cond t (Some (damaged at check.2 check.1)) (first_failing at checks))) [ true ↦ tt | false ↦ checks_only at checks ]

pub map_only : (at : ℕ) (which : Field) (place : Option ℕ) → OnlyDamaged (option_map (damaged at which) place)
map_only at which None = tt
map_only at which (Some p) = tt

pub or_only : (o p : Option OpenFault) → OnlyDamaged o → OnlyDamaged p → OnlyDamaged (option_or o p)
or_only None p first second = second
or_only (Some e) p first second = first

pub padding_only : (at : ℕ) (rest : List ℕ) (from : ℕ) → OnlyDamaged (padding_fault at rest from)
padding_only at rest from = map_only at named.Padding (first_set from (part rest from (length_at rest - from)))

pub drop_only : (at : ℕ) (rest : List ℕ) (f : Folded) → OnlyDamaged (drop_fault at rest f)
drop_only at rest f =
    let rise = option_map (damaged at named.Seq) (first_bad_seq f.cases 0 12 (drop_seqs rest)) in
    or_only (first_failing at (count_checks rest)) (option_or rise (padding_fault at rest (12 + 4 * seq_count_at rest))) (checks_only at (count_checks rest))
    (or_only rise (padding_fault at rest (12 + 4 * seq_count_at rest)) (map_only at named.Seq (first_bad_seq f.cases 0 12 (drop_seqs rest))) (padding_only at rest (12 + 4 * seq_count_at rest)))

pub pin_only : (at : ℕ) (rest : List ℕ) (f : Folded) → OnlyDamaged (pin_fault at rest f)
pin_only at rest f = or_only (first_failing at (pin_checks rest f)) (padding_fault at rest 13) (checks_only at (pin_checks rest f)) (padding_only at rest 13)

pub label_only : (at : ℕ) (rest : List ℕ) (f : Folded) → OnlyDamaged (label_fault at rest f)
label_only at rest f =
    or_only (first_failing at (label_checks rest f)) (padding_fault at rest (16 + label_length_at rest)) (checks_only at (label_checks rest f)) (padding_only at rest (16 + label_length_at rest))

-- the error is the fault
damaged_tells : (fault : Option OpenFault) (e : OpenFault) → IsDamaged e → Some e ≡ fault → SaysFault fault e
damaged_tells fault (Damaged at which) is same = sym same
damaged_tells fault other is same = absurd is

pub states : (fault : Option OpenFault) (e : OpenFault) → OnlyDamaged fault → Some e ≡ fault → SaysFault fault e
states fault e only same = damaged_tells fault e (subst OnlyDamaged (sym same) only) same

-- what an error tells of the first fault of two parts
pub prints_first : (o p : Option OpenFault) (e : OpenFault) → SaysFault o e → SaysFault (option_or o p) e
prints_first o p (Damaged at which) is = ap (λ (x : Option OpenFault). option_or x p) is
prints_first o p OutOfMemory is = tt
prints_first o p other is = absurd is

pub prints_second : (o p : Option OpenFault) (e : OpenFault) → o ≡ None → SaysFault p e → SaysFault (option_or o p) e
prints_second o p e none is = subst (λ (x : Option OpenFault). SaysFault (option_or x p) e) (sym none) is

-- an error that is handed on
pub handed_on : (fault : Option OpenFault) (said : Folded) (limit : ℕ) (r : Result (Unit {0}) OpenFault) (new : Cases) (e : OpenFault) → IsErrAnd r (λ (f : OpenFault). f ≡ e) → SaysFault fault e → Reads fault said limit r new
handed_on fault said limit (Ok done) new e is told = absurd is
handed_on fault said limit (Err f) new e is told = subst (SaysFault fault) (sym is) told

-- a step that fails for want of memory alone
pub reads_none : (said : Folded) (limit : ℕ) (r : Result (Unit {0}) OpenFault) (new : Cases) (P : Type 0) → OnlyMemory r → OnOk r P → (P → Says said limit new) → Reads None said limit r new
reads_none said limit (Ok done) new P only is says = (refl, says is)
reads_none said limit (Err e) new P only is says = subst (SaysFault None) (sym only) tt

pub image_only : (at : ℕ) (rest : List ℕ) (bad : Bool) → OnlyDamaged (cond bad (Some (damaged at named.ImageLength 32)) None)
image_only at rest true = tt
image_only at rest false = tt

pub handed_record : (at : ℕ) (rest : List ℕ) (old : Cases) (r : Result ℕ OpenFault) (new : Cases) (e : OpenFault) → IsErrAnd r (λ (f : OpenFault). f ≡ e)
    → SaysFault (record_fault (length old.free) at rest (said_by old)) e → ReadsRecord at rest old r new
handed_record at rest old (Ok size) new e is told = absurd is
handed_record at rest old (Err f) new e is told = subst (SaysFault (record_fault (length old.free) at rest (said_by old))) (sym is) told

-- the same reading, where the fault and what is said are told otherwise
pub reads_as : (fault other : Option OpenFault) (said same : Folded) (limit : ℕ) (r : Result (Unit {0}) OpenFault) (new : Cases) → other ≡ fault → same ≡ said → Reads fault said limit r new → Reads other same limit r new
reads_as fault other said same limit r new is says reads =
    subst (λ (x : Option OpenFault). Reads x same limit r new) (sym is) (subst (λ (f : Folded). Reads fault f limit r new) (sym says) reads)
