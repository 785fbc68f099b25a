-- Units and instructions are the lists that the grammars say.
use Rattle.std.proofs.Common.{◌≡◌, ◌<◌, ◌≤◌, ◌+◌, ℕ, zero, suc, Bool, true, false, cond, List, [], ◌∷◌, ◌++◌, map, Option, Some, None, Result, Ok, Err, length, refl, ap, ◌∙◌, sym, subst, arith}
use Rattle.std.specs.Option.{option_map}
use Rattle.line_tables.specs.Chain.{and_then}
use Rattle.line_tables.specs.Grammar.{IsUnits, IsProgram, Leads, program_rows, rows_by}
use Rattle.line_tables.specs.Header.{MachineView}
use Rattle.line_tables.specs.Instructions.{StepView, step_in, behind_step, steps_in}
use Rattle.line_tables.specs.Rows.{start, executed, row_of, onward, stepped, with_row, rows_from}
use Rattle.line_tables.specs.Sequences.{before, alone, sequences_in}
use Rattle.line_tables.specs.Units.{UnitView, framed, unit_of, behind_unit, place_behind, units_from}
use Rattle.line_tables.specs.declared.faults.LineField.{LineField}
use Rattle.line_tables.specs.declared.instructions.Instruction.{Instruction}
use Rattle.line_tables.specs.declared.instructions.Instruction.TheVariants.{EndSequence}
use Rattle.line_tables.specs.declared.registers.Registers.{Registers}
use Rattle.line_tables.specs.declared.registers.Row.{Row}
use Rattle.line_tables.proofs.Shorter.{behind_shorter, steps_next, steps_end}
use Rattle.line_tables.proofs.UnitPlaces.{behind_fewer, units_next, units_end}

program_by : (n version : ℕ) (m : MachineView) (bytes : List ℕ) → length bytes ≤ n → IsProgram version m bytes (steps_in version m bytes)
program_by n version m [] few = subst (IsProgram version m []) (sym (steps_end version m [] refl)) refl
program_by zero version m (x ∷ xs) few = absurd (omega arith)
program_by (suc n) version m (x ∷ xs) few =
    let less = behind_shorter version m x xs in
    subst (IsProgram version m (x ∷ xs)) (sym (steps_next version m (x ∷ xs) (step_in version m (x ∷ xs)) (omega arith) refl)) (omega arith, refl, program_by n version m (behind_step (step_in version m (x ∷ xs))) (omega arith))

pub program : (version : ℕ) (m : MachineView) (bytes : List ℕ) → IsProgram version m bytes (steps_in version m bytes)
program version m bytes = program_by (length bytes) version m bytes (omega arith)

pub program_only : (version : ℕ) (m : MachineView) (bytes : List ℕ) (rs : List (Result StepView LineField)) → IsProgram version m bytes rs → rs ≡ steps_in version m bytes
program_only version m bytes [] h = sym (steps_end version m bytes (ap length h))
program_only version m bytes (r ∷ rs) h =
    ap (λ ss. r ∷ ss) (program_only version m (behind_step r) rs h.2) ∙ sym (steps_next version m bytes r h.0 h.1)

units_by : (n i p : ℕ) (bytes : List ℕ) → length bytes ≤ n → IsUnits i p bytes (units_from i p bytes)
units_by n i p [] few = subst (IsUnits i p []) (sym (units_end i p [] refl)) refl
units_by zero i p (x ∷ xs) few = absurd (omega arith)
units_by (suc n) i p (x ∷ xs) few =
    let less = behind_fewer (x ∷ xs) (omega arith) in
    subst (IsUnits i p (x ∷ xs)) (sym (units_next i p (x ∷ xs) (omega arith))) (omega arith, refl, units_by n (i + 1) (place_behind p (x ∷ xs)) (behind_unit (framed (x ∷ xs))) (omega arith))

pub walk : (i p : ℕ) (bytes : List ℕ) → IsUnits i p bytes (units_from i p bytes)
walk i p bytes = units_by (length bytes) i p bytes (omega arith)

pub walk_only : (i p : ℕ) (bytes : List ℕ) (us : List UnitView) → IsUnits i p bytes us → us ≡ units_from i p bytes
walk_only i p bytes [] h = sym (units_end i p bytes (ap length h))
walk_only i p bytes (u ∷ us) h =
    ap (λ v. v ∷ us) h.1 ∙ ap (λ vs. unit_of i p (framed bytes) ∷ vs) (walk_only (i + 1) (place_behind p bytes) (behind_unit (framed bytes)) us h.2) ∙ sym (units_next i p bytes h.0)

-- a step as what the code's list has
abbrev sound : StepView → Result StepView LineField
sound s = Ok s

-- an instruction is not there where no byte is
step_some : (version : ℕ) (m : MachineView) (bytes : List ℕ) (s : StepView) → step_in version m bytes ≡ Ok s → 0 < length bytes
unfolding step_in
step_some version m [] s h = absurd (cc)
step_some version m (x ∷ xs) s h = omega arith

led : (version : ℕ) (m : MachineView) (bytes rest : List ℕ) (ss : List StepView) → Leads version m bytes ss rest → steps_in version m bytes ≡ map sound ss ++ steps_in version m rest
led version m bytes rest [] h = ap (steps_in version m) h
led version m bytes rest (s ∷ ss) h =
    steps_next version m bytes (sound s) (step_some version m bytes s h.0) (sym h.0) ∙ ap (λ ts. sound s ∷ ts) (led version m s.rest rest ss h.1)

with_row_append : (o : Option (Result Row LineField)) (rs ts : List (Result Row LineField)) → with_row o (rs ++ ts) ≡ with_row o rs ++ ts
with_row_append None rs ts = refl
with_row_append (Some r) rs ts = refl

-- the rows up to the end of a sequence, and those from there on, which begin anew
rows_front : (m : MachineView) (s : Registers) (ss : List StepView) (last : StepView) (ts : List (Result StepView LineField)) → last.instruction ≡ EndSequence → rows_from m s (map sound (ss ++ last ∷ []) ++ ts) ≡ rows_from m s (map sound (ss ++ last ∷ [])) ++ rows_from m start ts
unfolding rows_from
rows_front m s [] last ts is =
    ap (λ n. with_row (stepped m s (sound last)).0 (rows_from m n ts)) (ap (onward (executed m s last.instruction)) is)
    ∙ with_row_append (stepped m s (sound last)).0 [] (rows_from m start ts)
rows_front m s (t ∷ ss) last ts is =
    ap (with_row (stepped m s (sound t)).0) (rows_front m (stepped m s (sound t)).1 ss last ts is)
    ∙ with_row_append (stepped m s (sound t)).0 (rows_from m (stepped m s (sound t)).1 (map sound (ss ++ last ∷ []))) (rows_from m start ts)

pub rows_alone : (version : ℕ) (m : MachineView) (bytes rest : List ℕ) (ss : List StepView) (last : StepView) → Leads version m bytes (ss ++ last ∷ []) rest → last.instruction ≡ EndSequence → program_rows version m bytes ≡ rows_by m (ss ++ last ∷ []) ++ program_rows version m rest
rows_alone version m bytes rest ss last h is =
    ap (rows_from m start) (led version m bytes rest (ss ++ last ∷ []) h) ∙ rows_front m start ss last (steps_in version m rest) is

-- rows without a fault, of which the last ends a sequence
abbrev Ends : List (Result Row LineField) → Type 0
Ends [] = ⊥
Ends (Err f ∷ rs) = ⊥
Ends (Ok r ∷ []) = r.end_sequence ≡ true
Ends (Ok r ∷ q ∷ rs) = Ends (q ∷ rs)

ends_before : (r : Row) (rs : List (Result Row LineField)) → Ends rs → Ends (Ok r ∷ rs)
ends_before r [] h = absurd h
ends_before r (q ∷ rs) h = h

ends_with : (o : Option Row) (rs : List (Result Row LineField)) → Ends rs → Ends (with_row (option_map (λ (r : Row). Ok r) o) rs)
ends_with None rs h = h
ends_with (Some r) rs h = ends_before r rs h

ends_last : (m : MachineView) (s : Registers) (i : Instruction) → i ≡ EndSequence → Ends (with_row (option_map (λ (r : Row). Ok r) (row_of (executed m s i) i)) [])
ends_last m s i is = subst (λ j. Ends (with_row (option_map (λ (r : Row). Ok r) (row_of (executed m s j) j)) [])) (sym is) refl

front_ends : (m : MachineView) (s : Registers) (ss : List StepView) (last : StepView) → last.instruction ≡ EndSequence → Ends (rows_from m s (map sound (ss ++ last ∷ [])))
unfolding rows_from
front_ends m s [] last is = ends_last m s last.instruction is
front_ends m s (t ∷ ss) last is =
    ends_with (row_of (executed m s t.instruction) t.instruction) (rows_from m (stepped m s (sound t)).1 (map sound (ss ++ last ∷ []))) (front_ends m (stepped m s (sound t)).1 ss last is)

abbrev Cut : Type 0
Cut = Result (List (List Row)) LineField

-- the sequences of such rows and of others after them
record Parted (rs ts : List (Result Row LineField)) : Type 0 where
  head : List Row
  others : List (List Row)
  front : ◌≡◌ {A = Cut} (sequences_in rs) (Ok (head ∷ others))
  whole : ◌≡◌ {A = Cut} (sequences_in (rs ++ ts)) (and_then (sequences_in ts) (λ ss. Ok ((head ∷ others) ++ ss)))

alone_by : (r : Row) (s : List Row) (ss : List (List Row)) (q : Cut) → and_then (and_then q (λ us. Ok ((s ∷ ss) ++ us))) (alone r) ≡ and_then q (λ us. Ok (((r ∷ []) ∷ s ∷ ss) ++ us))
alone_by r s ss (Ok us) = refl
alone_by r s ss (Err f) = refl

before_by : (r : Row) (s : List Row) (ss : List (List Row)) (q : Cut) → and_then (and_then q (λ us. Ok ((s ∷ ss) ++ us))) (before r) ≡ and_then q (λ us. Ok (((r ∷ s) ∷ ss) ++ us))
before_by r s ss (Ok us) = refl
before_by r s ss (Err f) = refl

parted_by : (r : Row) (rs ts : List (Result Row LineField)) (t : Bool) → r.end_sequence ≡ t → Parted rs ts → Parted (Ok r ∷ rs) ts
unfolding sequences_in
parted_by r rs ts true is p =
    record {
      head = r ∷ [];
      others = p.head ∷ p.others;
      front = ap (λ t. and_then (sequences_in rs) (cond t (alone r) (before r))) is ∙ ap (λ q. and_then q (alone r)) p.front;
      whole = ap (λ t. and_then (sequences_in (rs ++ ts)) (cond t (alone r) (before r))) is ∙ ap (λ q. and_then q (alone r)) p.whole ∙ alone_by r p.head p.others (sequences_in ts);
    }
parted_by r rs ts false is p =
    record {
      head = r ∷ p.head;
      others = p.others;
      front = ap (λ t. and_then (sequences_in rs) (cond t (alone r) (before r))) is ∙ ap (λ q. and_then q (before r)) p.front;
      whole = ap (λ t. and_then (sequences_in (rs ++ ts)) (cond t (alone r) (before r))) is ∙ ap (λ q. and_then q (before r)) p.whole ∙ before_by r p.head p.others (sequences_in ts);
    }

parted_last : (r : Row) (ts : List (Result Row LineField)) → r.end_sequence ≡ true → Parted (Ok r ∷ []) ts
unfolding sequences_in
parted_last r ts is =
    record {
      head = r ∷ [];
      others = [];
      front = ap (λ t. and_then (sequences_in []) (cond t (alone r) (before r))) is;
      whole = ap (λ t. and_then (sequences_in ts) (cond t (alone r) (before r))) is;
    }

parted : (rs ts : List (Result Row LineField)) → Ends rs → Parted rs ts
parted [] ts h = absurd h
parted (Err f ∷ rs) ts h = absurd h
parted (Ok r ∷ []) ts h = parted_last r ts h
parted (Ok r ∷ q ∷ rs) ts h = parted_by r (q ∷ rs) ts r.end_sequence refl (parted (q ∷ rs) ts h)

parted_is : (rs ts : List (Result Row LineField)) → Parted rs ts → sequences_in (rs ++ ts) ≡ and_then (sequences_in rs) (λ ss. and_then (sequences_in ts) (λ us. Ok (ss ++ us)))
parted_is rs ts p = p.whole ∙ ap (λ q. and_then q (λ ss. and_then (sequences_in ts) (λ us. Ok (ss ++ us)))) (sym p.front)

pub sequences_alone : (version : ℕ) (m : MachineView) (bytes rest : List ℕ) (ss : List StepView) (last : StepView) → Leads version m bytes (ss ++ last ∷ []) rest → last.instruction ≡ EndSequence → sequences_in (program_rows version m bytes) ≡ and_then (sequences_in (rows_by m (ss ++ last ∷ []))) (λ us. and_then (sequences_in (program_rows version m rest)) (λ ts. Ok (us ++ ts)))
sequences_alone version m bytes rest ss last h is =
    ap sequences_in (rows_alone version m bytes rest ss last h is)
    ∙ parted_is (rows_by m (ss ++ last ∷ [])) (program_rows version m rest) (parted (rows_by m (ss ++ last ∷ [])) (program_rows version m rest) (front_ends m start ss last is))
