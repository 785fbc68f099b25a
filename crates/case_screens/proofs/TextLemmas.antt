-- Texts that are told one behind the other, and numbers that are handed on.
use Rattle.std.proofs.Common.{◌≡◌, ◌≤◌, ◌<◌, ◌==◌, ◌-◌, ℕ, Bool, min, take, true, false, if◌then◌else◌, List, [], ◌∷◌, ◌++◌, length, sym, ap, ◌∙◌, refl, append_assoc, arith, ℤ, SFits, to_z, of_z}
use Rattle.std.specs.List.{flat_map}
use Rattle.std.specs.Int.{Width}
use Rattle.std.proofs.lemmas.Bool.{eqb-true, eqb-false, ltb-true, ltb-false}
use Rattle.std.proofs.lemmas.Int.{to_z-of_z}
use Rattle.std.proofs.lemmas.List.{append-nil, length-append, length-take}
use Rattle.std.specs.Prelude.{nat_lt, codes}
use Rattle.script_streams.specs.PrintLaws.{prints_then, prints_as, prints_nothing}
use Rattle.script_streams.specs.Printing.{Sink, Prints}
use Rattle.script_words.specs.Printing.{escape, prints_itself, shown, shown_byte}
use Rattle.case_screens.specs.Files.{exec_text}
use Rattle.case_screens.specs.Quotes.{quoted}
use Rattle.case_screens.specs.Screen.{label_text}
use Rattle.case_screens.specs.Texts.{more_words, name_text}

-- of a whole text all was told but what is left
pub record PrintsFront (old new : Sink) (whole left : List ℕ) : Type 0 where
  pub front : List ℕ
  pub split : front ++ left ≡ whole
  pub told : Prints old new front

pub front_begins : {a : Sink} {whole : List ℕ} → PrintsFront a a whole whole
front_begins = record { front = []; split = refl; told = prints_nothing }

pub front_grows : {a b c : Sink} {whole left x more : List ℕ} → PrintsFront a b whole left → left ≡ x ++ more → Prints b c x → PrintsFront a c whole more
front_grows {x = x} {more = more} before is next = record {
  front = before.front ++ x;
  split = append_assoc before.front x more ∙ sym (ap (λ (t : List ℕ). before.front ++ t) is) ∙ before.split;
  told = prints_then before.told next;
}

pub front_ends : {a b : Sink} {whole left : List ℕ} → PrintsFront a b whole left → left ≡ [] → Prints a b whole
front_ends before is = prints_as (sym (append-nil before.front) ∙ sym (ap (λ (t : List ℕ). before.front ++ t) is) ∙ before.split) before.told

-- a signed number that is handed on
pub signed_as : (w : Width) (x z : ℤ) → x ≡ z → SFits w x → to_z w (of_z w x) ≡ z
signed_as w x z is fits = to_z-of_z w x fits ∙ is

byte_long : (itself : Bool) (c : ℕ) → 1 ≤ length (if itself then c ∷ [] else escape c)
byte_long true c = omega arith
byte_long false c = omega arith

bytes_long : (t : List ℕ) → length t ≤ length (flat_map shown_byte t)
bytes_long [] = omega arith
bytes_long (c ∷ cs) =
    let all = length-append (shown_byte c) (flat_map shown_byte cs) in
    let one = byte_long (prints_itself c) c in
    let rest = bytes_long cs in
    omega (arith, all, one, rest)

one_long : (escaped : Bool) (c : ℕ) → 1 ≤ length (if escaped then escape c else shown_byte c)
one_long true c = omega arith
one_long false c = byte_long (prints_itself c) c

-- a text prints as no fewer bytes than it has
pub shown_long : (t : List ℕ) → length t ≤ length (shown t)
shown_long [] = omega arith
shown_long (c ∷ []) = one_long (c == 45) c
shown_long (c ∷ d ∷ cs) = bytes_long (c ∷ d ∷ cs)

cut_long : (cut : Bool) (t : List ℕ) → nat_lt 256 (length t) ≡ cut → min (length t) 256 ≤ length (if cut then shown (take 256 t) ++ more_words (length t - 256) else shown t)
cut_long true t e =
    let all = length-append (shown (take 256 t)) (more_words (length t - 256)) in
    let front = shown_long (take 256 t) in
    let count = length-take 256 t in
    omega (arith, all, front, count)
cut_long false t e = let all = shown_long t in omega (arith, all)

-- a name prints as no fewer bytes than are shown of it
pub name_long : (t : List ℕ) → min (length t) 256 ≤ length (name_text t)
name_long t = cut_long (nat_lt 256 (length t)) t refl

cut_short : (cut : Bool) (t : List ℕ) → nat_lt 256 (length t) ≡ cut → length t ≤ 256 → (if cut then shown (take 256 t) ++ more_words (length t - 256) else shown t) ≡ shown t
cut_short true t e few = let many = ltb-true 256 (length t) e in absurd (omega (arith, many, few))
cut_short false t e few = refl

-- a name that is short is shown whole
pub name_short : (t : List ℕ) → length t ≤ 256 → name_text t ≡ shown t
name_short t few = cut_short (nat_lt 256 (length t)) t refl few

cut_here : (cut : Bool) (t : List ℕ) → nat_lt 256 (length t) ≡ cut → 256 < length t → (if cut then shown (take 256 t) ++ more_words (length t - 256) else shown t) ≡ shown (take 256 t) ++ more_words (length t - 256)
cut_here true t e many = refl
cut_here false t e many = let few = ltb-false 256 (length t) e in absurd (omega (arith, few, many))

-- of a long one its first bytes
pub name_cut : (t : List ℕ) → 256 < length t → name_text t ≡ shown (take 256 t) ++ more_words (length t - 256)
name_cut t many = cut_here (nat_lt 256 (length t)) t refl many

store_here : (long : Bool) (t : List ℕ) → nat_lt 128 (length t) ≡ long → length t ≤ 128
    → (if long then codes "not stored: its name has over 128 bytes" else codes "not stored: corekeep store ARCHIVE FILE --exec " ++ quoted (shown t)) ≡ codes "not stored: corekeep store ARCHIVE FILE --exec " ++ quoted (shown t)
store_here true t e few = let many = ltb-true 128 (length t) e in absurd (omega (arith, many, few))
store_here false t e few = refl

-- the command that stores a file whose name a case can have
pub store_some : (t : List ℕ) → length t ≤ 128 → exec_text t ≡ codes "not stored: corekeep store ARCHIVE FILE --exec " ++ quoted (shown t)
store_some t few = store_here (nat_lt 128 (length t)) t refl few

-- a label, if there is one
pub labelled : (label : List ℕ) → (length label == 0) ≡ false → codes ", label " ++ shown label ≡ label_text label
labelled [] is = absurd (eqb-false 0 0 is refl)
labelled (c ∷ cs) is = refl

pub unlabelled : (label : List ℕ) → (length label == 0) ≡ true → [] ≡ label_text label
unlabelled [] is = refl
unlabelled (c ∷ cs) is =
    let none : length (c ∷ cs) ≡ 0 = eqb-true (length (c ∷ cs)) 0 is in
    absurd (omega arith)
