-- The bytes after a number, a block or an instruction are fewer.
use Rattle.std.proofs.Common.{◌≡◌, ◌<◌, ◌≤◌, ◌+◌, ℕ, zero, suc, Bool, true, false, cond, leb, eqb, List, [], ◌∷◌, Option, Some, None, Result, Ok, Err, length, take, drop, refl, ap, ◌∙◌, sym, arith}
use Rattle.std.proofs.lemmas.List.{length-drop}
use Rattle.std.proofs.lemmas.Option.{same_Some}
use Rattle.std.proofs.lemmas.Bool.{false≢true}
use Rattle.std.specs.List.{position}
use Rattle.std.specs.Option.{option_and_then, option_map}
use Rattle.elf_view.specs.Field.{field}
use Rattle.call_frames.specs.Leb.{is_last, split_leb, unsigned, signed, with_behind, uleb, sleb, split_sized, sized}
use Rattle.line_tables.specs.Chain.{checked, and_then}
use Rattle.line_tables.specs.Header.{MachineView}
use Rattle.line_tables.specs.Instructions.{StepView, behind_numbers, standard_operand, standard_of, standard, extended_of, extended, step_of, step_in, behind_step, steps_for, steps_in}
use Rattle.line_tables.specs.Texts.{first_byte, number}
use Rattle.line_tables.specs.declared.faults.LineField.{LineField}
use Rattle.line_tables.specs.declared.faults.LineField.TheVariants as fields
use Rattle.line_tables.specs.declared.instructions.Instruction.{Instruction}

abbrev NoLonger : {A : Type 0} → List ℕ → Option (A × List ℕ) → Type 0
NoLonger {A} bytes o = (p : A × List ℕ) → o ≡ Some p → length p.1 ≤ length bytes

cond_no_longer : {A : Type 0} (bytes : List ℕ) (t : Bool) (o q : Option (A × List ℕ)) → NoLonger bytes o → NoLonger bytes q → NoLonger bytes (cond t o q)
cond_no_longer bytes true o q f g = f
cond_no_longer bytes false o q f g = g

none_no_longer : {A : Type 0} (bytes : List ℕ) → NoLonger {A = A} bytes None
none_no_longer bytes p h = cc

drop_no_longer : {A : Type 0} (bytes : List ℕ) (x : A) (w : ℕ) → NoLonger bytes (Some (x, drop w bytes))
drop_no_longer bytes x w p h =
    let same : drop w bytes ≡ p.1 = ap (λ q. q.1) (same_Some _ _ h) in
    let size = ap length same in omega (arith, length-drop w bytes)

same_no_longer : {A : Type 0} (bytes : List ℕ) (x : A) → NoLonger bytes (Some (x, bytes))
same_no_longer bytes x p h =
    let same : bytes ≡ p.1 = ap (λ q. q.1) (same_Some _ _ h) in
    let size = ap length same in omega arith

split_by : (bytes : List ℕ) (o : Option ℕ) → NoLonger bytes (option_map (λ i. (take (i + 1) bytes, drop (i + 1) bytes)) o)
split_by bytes None = none_no_longer bytes
split_by bytes (Some i) = drop_no_longer bytes (take (i + 1) bytes) (i + 1)

split_no_longer : (bytes : List ℕ) → NoLonger bytes (split_leb bytes)
unfolding split_leb
split_no_longer bytes = split_by bytes (position is_last (take 10 bytes))

with_by : (parts : List ℕ × List ℕ) (o : Option ℕ) (p : ℕ × List ℕ) → option_map (λ n. (n, parts.1)) o ≡ Some p → parts.1 ≡ p.1
with_by parts None p h = cc
with_by parts (Some n) p h = ap (λ (q : ℕ × List ℕ). q.1) (same_Some _ _ h)

leb_by : (read : List ℕ → Option ℕ) (bytes : List ℕ) (o : Option (List ℕ × List ℕ)) → NoLonger bytes o → NoLonger bytes (option_and_then (with_behind read) o)
leb_by read bytes None f p h = cc
leb_by read bytes (Some parts) f p h =
    let size = ap length (with_by parts (read parts.0) p h) in
    let less = f parts refl in omega arith

uleb_no_longer : (bytes : List ℕ) → NoLonger bytes (uleb bytes)
unfolding uleb
uleb_no_longer bytes = leb_by unsigned bytes (split_leb bytes) (split_no_longer bytes)

sleb_no_longer : (bytes : List ℕ) → NoLonger bytes (sleb bytes)
unfolding sleb
sleb_no_longer bytes = leb_by signed bytes (split_leb bytes) (split_no_longer bytes)

sized_by : (bytes : List ℕ) (o : Option (ℕ × List ℕ)) → NoLonger bytes o → NoLonger bytes (option_and_then split_sized o)
sized_by bytes None f p h = cc
sized_by bytes (Some n) f p h =
    let less = f n refl in
    let more = cond_no_longer n.1 (leb n.0 (length n.1)) (Some (take n.0 n.1, drop n.0 n.1)) None (drop_no_longer n.1 (take n.0 n.1) n.0) (none_no_longer n.1) p h in omega arith

sized_no_longer : (bytes : List ℕ) → NoLonger bytes (sized bytes)
unfolding sized
sized_no_longer bytes = sized_by bytes (uleb bytes) (uleb_no_longer bytes)

number_no_longer : (w : ℕ) (bytes : List ℕ) → NoLonger bytes (number w bytes)
unfolding number
number_no_longer w bytes = cond_no_longer bytes (leb w (length bytes)) (Some (field bytes 0 w, drop w bytes)) None (drop_no_longer bytes (field bytes 0 w) w) (none_no_longer bytes)

numbers_by : (n : ℕ) (bytes rest : List ℕ) (o : Option (ℕ × List ℕ)) → NoLonger bytes o → ((v : List ℕ) → behind_numbers n v ≡ Some rest → length rest ≤ length v) → option_and_then (λ (v : ℕ × List ℕ). behind_numbers n v.1) o ≡ Some rest → length rest ≤ length bytes
numbers_by n bytes rest None f more h = cc
numbers_by n bytes rest (Some v) f more h =
    let less = f v refl in
    let few = more v.1 h in omega arith

numbers_shorter : (n : ℕ) (bytes rest : List ℕ) → behind_numbers n bytes ≡ Some rest → length rest ≤ length bytes
unfolding behind_numbers
numbers_shorter zero bytes rest h =
    let size = ap length (same_Some _ _ h) in omega arith
numbers_shorter (suc n) bytes rest h = numbers_by n bytes rest (uleb bytes) (uleb_no_longer bytes) (λ v. numbers_shorter n v rest) h

abbrev with_nothing : List ℕ → ℕ × List ℕ
with_nothing rest = (0, rest)

unknown_by : (bytes : List ℕ) (o : Option (List ℕ)) → ((rest : List ℕ) → o ≡ Some rest → length rest ≤ length bytes) → NoLonger bytes (option_map with_nothing o)
unknown_by bytes None f p h = cc
unknown_by bytes (Some rest) f p h =
    let same : rest ≡ p.1 = ap (λ (q : ℕ × List ℕ). q.1) (same_Some _ _ h) in
    let size = ap length same in
    let less = f rest refl in omega arith

operand_no_longer : (lengths : List ℕ) (op : ℕ) (bytes : List ℕ) → NoLonger bytes (standard_operand lengths op bytes)
unfolding standard_operand
operand_no_longer lengths op bytes =
    cond_no_longer bytes _ _ _ (number_no_longer 2 bytes)
    (cond_no_longer bytes _ _ _ (sleb_no_longer bytes)
    (cond_no_longer bytes _ _ _ (uleb_no_longer bytes)
    (cond_no_longer bytes _ _ _ (same_no_longer bytes zero)
    (unknown_by bytes _ (λ rest. numbers_shorter _ bytes rest)))))

-- the same of instructions
abbrev Goes : List ℕ → Result StepView LineField → Type 0
Goes bytes r = (s : StepView) → r ≡ Ok s → length s.rest ≤ length bytes

same_step : (s t : StepView) → ◌≡◌ {A = Result StepView LineField} (Ok s) (Ok t) → s ≡ t
same_step s t h = cc

standard_by : (op : ℕ) (bytes : List ℕ) (o : Option (ℕ × List ℕ)) → NoLonger bytes o → Goes bytes (checked o fields.Operand (λ n. Ok (step_of (standard_of op n.0) [] n.1)))
standard_by op bytes None f s h = cc
standard_by op bytes (Some n) f s h =
    let size = ap (λ (t : StepView). length t.rest) (same_step _ _ h) in
    let less = f n refl in omega arith

standard_goes : (lengths : List ℕ) (op : ℕ) (bytes : List ℕ) → Goes bytes (standard lengths op bytes)
unfolding standard
standard_goes lengths op bytes = standard_by op bytes (standard_operand lengths op bytes) (operand_no_longer lengths op bytes)

content_by : (content rest : List ℕ) (r : Result Instruction LineField) → Goes rest (and_then r (λ i. Ok (step_of i content rest)))
content_by content rest (Err e) s h = cc
content_by content rest (Ok i) s h =
    let size = ap (λ (t : StepView). length t.rest) (same_step _ _ h) in omega arith

opcode_by : (version : ℕ) (rest : List ℕ) (o : Option (ℕ × List ℕ)) → Goes rest (checked o fields.Length (λ c. and_then (extended_of version c.0 c.1) (λ i. Ok (step_of i c.1 rest))))
opcode_by version rest None s h = cc
opcode_by version rest (Some c) s h = content_by c.1 rest (extended_of version c.0 c.1) s h

extended_by : (version : ℕ) (bytes : List ℕ) (o : Option (List ℕ × List ℕ)) → NoLonger bytes o → Goes bytes (checked o fields.Length (λ b. checked (first_byte b.0) fields.Length (λ c. and_then (extended_of version c.0 c.1) (λ i. Ok (step_of i c.1 b.1)))))
extended_by version bytes None f s h = cc
extended_by version bytes (Some b) f s h =
    let less = f b refl in
    let few = opcode_by version b.1 (first_byte b.0) s h in omega arith

extended_goes : (version : ℕ) (bytes : List ℕ) → Goes bytes (extended version bytes)
unfolding extended
extended_goes version bytes = extended_by version bytes (sized bytes) (sized_no_longer bytes)

cond_goes : (bytes : List ℕ) (t : Bool) (r q : Result StepView LineField) → Goes bytes r → Goes bytes q → Goes bytes (cond t r q)
cond_goes bytes true r q f g = f
cond_goes bytes false r q f g = g

special_goes : (bytes : List ℕ) (i : Instruction) → Goes bytes (Ok (step_of i [] bytes))
special_goes bytes i s h =
    let size = ap (λ (t : StepView). length t.rest) (same_step _ _ h) in omega arith

step_goes : (version : ℕ) (m : MachineView) (x : ℕ) (xs : List ℕ) → Goes xs (step_in version m (x ∷ xs))
unfolding step_in
step_goes version m x xs =
    cond_goes xs _ _ _ (special_goes xs _) (cond_goes xs _ _ _ (extended_goes version xs) (standard_goes m.opcode_lengths x xs))

behind_by : (bytes : List ℕ) (r : Result StepView LineField) → Goes bytes r → length (behind_step r) ≤ length bytes
behind_by bytes (Ok s) f = f s refl
behind_by bytes (Err e) f = omega arith

pub behind_shorter : (version : ℕ) (m : MachineView) (x : ℕ) (xs : List ℕ) → length (behind_step (step_in version m (x ∷ xs))) ≤ length xs
behind_shorter version m x xs = behind_by xs (step_in version m (x ∷ xs)) (step_goes version m x xs)

-- any number that is not less than there are bytes is enough
steps_enough : (n k version : ℕ) (m : MachineView) (bytes : List ℕ) → length bytes ≤ n → length bytes ≤ k → steps_for n version m bytes ≡ steps_for k version m bytes
unfolding steps_for
steps_enough zero zero version m bytes h few = refl
steps_enough zero (suc k) version m [] h few = refl
steps_enough (suc n) zero version m [] h few = refl
steps_enough (suc n) (suc k) version m [] h few = refl
steps_enough zero (suc k) version m (x ∷ xs) h few = absurd (omega arith)
steps_enough (suc n) zero version m (x ∷ xs) h few = absurd (omega arith)
steps_enough (suc n) (suc k) version m (x ∷ xs) h few =
    let less = behind_shorter version m x xs in
    ap (λ ss. step_in version m (x ∷ xs) ∷ ss) (steps_enough n k version m (behind_step (step_in version m (x ∷ xs))) (omega arith) (omega arith))

-- the first instruction, and those after it
pub steps_next : (version : ℕ) (m : MachineView) (bytes : List ℕ) (r : Result StepView LineField) → 0 < length bytes → r ≡ step_in version m bytes → steps_in version m bytes ≡ r ∷ steps_in version m (behind_step r)
unfolding steps_for
steps_next version m [] r h is = absurd (omega arith)
steps_next version m (x ∷ xs) r h is =
    ap (λ ss. step_in version m (x ∷ xs) ∷ ss) (steps_enough (length xs) (length (behind_step (step_in version m (x ∷ xs)))) version m (behind_step (step_in version m (x ∷ xs))) (behind_shorter version m x xs) (omega arith))
    ∙ ap (λ (q : Result StepView LineField). q ∷ steps_in version m (behind_step q)) (sym is)

pub steps_end : (version : ℕ) (m : MachineView) (bytes : List ℕ) → length bytes ≡ 0 → steps_in version m bytes ≡ []
unfolding steps_for
steps_end version m [] h = refl
steps_end version m (x ∷ xs) h = absurd (omega arith)

pub some_bytes : (n : ℕ) → false ≡ eqb n 0 → 0 < n
some_bytes zero h = absurd (false≢true h)
some_bytes (suc n) h = omega arith
