-- Laws of bytes that pass the checks: they are put together to a spelling.
use Rattle.std.proofs.Common.{◌≡◌, ℕ, zero, suc, ◌+◌, ◌-◌, ◌*◌, ◌<◌, ◌≤◌, Bool, true, false, List, [], ◌∷◌, ◌++◌, length, replicate, take, drop, slice_index, refl, sym, ap, ◌∙◌, arith, None, Option, Some, ◌==◌}
use Rattle.std.proofs.Math.Seq.{take-add}
use Rattle.std.specs.Option.{is_none}
use Rattle.disk_model.specs.Places.{AreBytes, part}
use Rattle.disk_model.specs.PartLaws.{part_length}
use Rattle.journal_layout.specs.Layout.{number_bytes}
use Rattle.journal_layout.specs.Record.{Record, flag_byte, plain_size, record_size, record_kind, body, plain, behind_gate, spelling}
use Rattle.journal_layout.specs.Reading.{kind_at, length_at}
use Rattle.journal_layout.specs.Folding.{Folded}
use Rattle.journal_layout.specs.Checks.{first_failing, head_checks, padding_fault, body_fault, record_fault}
use Rattle.journal_layout.specs.ByteLaws.{field_spelled}
use Rattle.journal_layout.specs.CheckLaws.{HasHead, or_none, none_or, head_passes, head_passed, padding_passed}
use Rattle.journal_layout.specs.SpellLaws.{rounded_up}

-- a record passes its checks if its head and its body do
pub record_passes : (limit at : ℕ) (rest : List ℕ) (f : Folded) → HasHead f.version rest → body_fault limit at rest f ≡ None → record_fault limit at rest f ≡ None
unfolding record_fault
record_passes limit at rest f head e =
    none_or (first_failing at (head_checks f.version rest)) (body_fault limit at rest f) (head_passes at f.version rest head) e

pub record_passed : (limit at : ℕ) (rest : List ℕ) (f : Folded) → record_fault limit at rest f ≡ None → HasHead f.version rest × (body_fault limit at rest f ≡ None)
unfolding record_fault
record_passed limit at rest f e =
    let h = or_none (first_failing at (head_checks f.version rest)) (body_fault limit at rest f) e in
    (head_passed at f.version rest h.0, h.1)

-- a part of one byte
pub byte_part : (b : List ℕ) (p : ℕ) → p < length b → part b p 1 ≡ slice_index b p ∷ []
unfolding part
byte_part [] p within = absurd (omega (arith, within))
byte_part (x ∷ xs) zero within = refl
byte_part (x ∷ xs) (suc p) within = byte_part xs p (omega (arith, within))

front_four : (b : List ℕ) → 4 ≤ length b → take 4 b ≡ slice_index b 0 ∷ slice_index b 1 ∷ slice_index b 2 ∷ slice_index b 3 ∷ []
front_four [] long = absurd (omega (arith, long))
front_four (a ∷ []) long = absurd (omega (arith, long))
front_four (a ∷ b ∷ []) long = absurd (omega (arith, long))
front_four (a ∷ b ∷ c ∷ []) long = absurd (omega (arith, long))
front_four (a ∷ b ∷ c ∷ d ∷ xs) long = refl

-- the first fields of every record
pub front_eight : (version : ℕ) (rest : List ℕ) → AreBytes rest → slice_index rest 0 ≡ 165 → HasHead version rest
    → take 8 rest ≡ (165 ∷ kind_at rest ∷ 0 ∷ 0 ∷ []) ++ number_bytes 4 (length_at rest)
unfolding part
front_eight version rest are open_gate head =
    let enough = head.enough in
    let zeros : slice_index rest 2 + 256 * (slice_index rest 3 + 256 * 0) ≡ 0 = head.reserved in
    let third : slice_index rest 2 ≡ 0 = omega arith in
    let fourth : slice_index rest 3 ≡ 0 = omega arith in
    let four : take 4 rest ≡ 165 ∷ kind_at rest ∷ 0 ∷ 0 ∷ [] = front_four rest (omega arith) ∙ cc in
    take-add 4 4 rest
    ∙ ap (λ (l : List ℕ). l ++ take 4 (drop 4 rest)) four
    ∙ ap (λ (l : List ℕ). (165 ∷ kind_at rest ∷ 0 ∷ 0 ∷ []) ++ l) (sym (field_spelled 4 4 rest are (omega arith)))

pub joined : (a b c x y z : List ℕ) → a ≡ x → b ≡ y → c ≡ z → (a ++ b) ++ c ≡ (x ++ y) ++ z
joined a b c x y z e f g = cc

-- a head, a body and padding are a spelling
pub put_together : (version : ℕ) (rest : List ℕ) (r : Record) (n : ℕ) → AreBytes rest → slice_index rest 0 ≡ 165 → HasHead version rest
    → kind_at rest ≡ record_kind r → length_at rest ≡ record_size r → 8 + n ≡ plain_size r → part rest 8 n ≡ body r
    → part rest (plain_size r) (record_size r - plain_size r) ≡ replicate (record_size r - plain_size r) 0
    → take (record_size r) rest ≡ spelling r
unfolding part behind_gate plain
put_together version rest r n are open_gate head kind long plain_n is_body zeros =
    let k = record_size r - plain_size r in
    let whole : record_size r ≡ 8 + n + k = omega (arith, rounded_up (plain_size r)) in
    ap (λ (m : ℕ). take m rest) whole
    ∙ take-add (8 + n) k rest
    ∙ ap (λ (l : List ℕ). l ++ take k (drop (8 + n) rest)) (take-add 8 n rest)
    ∙ joined (take 8 rest) (take n (drop 8 rest)) (take k (drop (8 + n) rest))
    ((165 ∷ record_kind r ∷ 0 ∷ 0 ∷ []) ++ number_bytes 4 (record_size r)) (body r) (replicate k 0)
    (front_eight version rest are open_gate head
    ∙ ap (λ (m : ℕ). (165 ∷ m ∷ 0 ∷ 0 ∷ []) ++ number_bytes 4 (length_at rest)) kind
    ∙ ap (λ (m : ℕ). (165 ∷ record_kind r ∷ 0 ∷ 0 ∷ []) ++ number_bytes 4 m) long)
    is_body
    (ap (λ (m : ℕ). take k (drop m rest)) plain_n ∙ zeros)

-- padding that passes is zeros
pub zeros_found : (at : ℕ) (rest : List ℕ) (from size : ℕ) → padding_fault at rest from ≡ None → length_at rest ≡ size → from ≤ size → size ≤ length rest
    → part rest from (size - from) ≡ replicate (size - from) 0
zeros_found at rest from size e long low high =
    let len : length (part rest from (length_at rest - from)) ≡ size - from = part_length rest from (length_at rest - from) (omega arith) ∙ ap (λ (m : ℕ). m - from) long in
    ap (λ (m : ℕ). part rest from (m - from)) (sym long) ∙ padding_passed at rest from e ∙ ap (λ (m : ℕ). replicate m 0) len

-- a byte that is a flag
pub flag_short : (flag : Bool) → flag_byte flag ≤ 1
flag_short true = omega arith
flag_short false = omega arith

pub flag_back : (flag : Bool) → (flag_byte flag == 1) ≡ flag
flag_back true = refl
flag_back false = refl

pub flag_found : (n : ℕ) → n ≤ 1 → flag_byte (n == 1) ≡ n
flag_found zero h = refl
flag_found (suc zero) h = refl
flag_found (suc (suc n)) h = absurd (omega arith)

pub some_number : (n : ℕ) → (n ≡ 0 → ⊥) → 0 < n
some_number n h = omega (arith, h)

-- something is there
pub none_of_some : {X : Type 0} (o : Option X) (x : X) → o ≡ Some x → is_none o ≡ false
none_of_some None x e = cc
none_of_some (Some y) x e = refl

pub some_found : {X : Type 0} (o : Option X) → is_none o ≡ false → (x : X) × (o ≡ Some x)
some_found None e = cc
some_found (Some x) e = (x, refl)
