-- No value is longer than its word, and no text of a word is empty.
use Rattle.std.proofs.Common.{◌≡◌, ⊎_elim, ℕ, suc, ◌<◌, ◌≤◌, ◌==◌, List, [], ◌∷◌, length, Option, Some, None, subst, arith}
use Rattle.std.proofs.lemmas.Bool.{cases_Bool}
use Rattle.std.specs.Str.{bytes_eq}
use Rattle.script_words.specs.Pairs.{pair_of, with_key_byte}
use Rattle.script_words.specs.Text.{text_of, text_past, with_byte, after_escape, escape_of}
use Rattle.script_lines.specs.LineWords.{AreWords}
use Rattle.script_lines.specs.Keys.{value_if, first_given, value_of}

-- the value of a pair has at most n bytes
abbrev pub IsWithin : ℕ → Option (List ℕ × List ℕ) → Type 0
IsWithin n None = Unit {0}
IsWithin n (Some pair) = length pair.1 ≤ n

wider : (n m : ℕ) (o : Option (List ℕ × List ℕ)) → n ≤ m → IsWithin n o → IsWithin m o
wider n m None more within = tt
wider n m (Some pair) more within = omega (arith, within)

with_key : (n c : ℕ) (o : Option (List ℕ × List ℕ)) → IsWithin n o → IsWithin (suc n) (with_key_byte c o)
with_key n c None within = tt
with_key n c (Some pair) within = omega (arith, within)

pair_within : (word : List ℕ) → IsWithin (length word) (pair_of word)
pair_within [] = tt
pair_within (c ∷ cs) =
    ⊎_elim (λ here. rw here (omega arith)) (λ other. rw other (with_key (length cs) c (pair_of cs) (pair_within cs))) (cases_Bool (c == 61))

pub pair_short : (word key value : List ℕ) → length word ≤ 1024 → pair_of word ≡ Some (key, value) → length value ≤ 1024
pair_short word key value short is = let w = subst (IsWithin (length word)) is (pair_within word) in omega (arith, short, w)

-- the value has at most 1,024 bytes
abbrev pub IsShortValue : Option (List ℕ) → Type 0
IsShortValue None = Unit {0}
IsShortValue (Some value) = length value ≤ 1024

if_short : (key : List ℕ) (o : Option (List ℕ × List ℕ)) → IsWithin 1024 o → IsShortValue (value_if key o)
if_short key None within = tt
if_short key (Some pair) within = ⊎_elim (λ same. rw same within) (λ other. rw other tt) (cases_Bool (bytes_eq pair.0 key))

first_short : (a b : Option (List ℕ)) → IsShortValue a → IsShortValue b → IsShortValue (first_given a b)
first_short None b short later = later
first_short (Some value) b short later = short

pub value_short : (key : List ℕ) (words : List (List ℕ)) → AreWords words → IsShortValue (value_of key words)
value_short key [] are = tt
value_short key (word ∷ words) are =
    first_short (value_if key (pair_of word)) (value_of key words) (if_short key (pair_of word) (wider (length word) 1024 (pair_of word) are.0.1 (pair_within word)))
    (value_short key words are.1)

-- the text has a byte
abbrev pub HasByte : Option (List ℕ) → Type 0
HasByte None = Unit {0}
HasByte (Some text) = 0 < length text

pub byte_some : (c : ℕ) (o : Option (List ℕ)) → HasByte (with_byte c o)
byte_some c None = tt
byte_some c (Some text) = omega arith

escape_some : (e : Option ℕ) (o : Option (List ℕ)) → HasByte (after_escape e o)
escape_some None o = tt
escape_some (Some c) o = byte_some c o

text_has : (word : List ℕ) → 0 < length word → HasByte (text_of word)
text_has [] some = absurd (omega arith)
text_has (c ∷ cs) some =
    ⊎_elim (λ escaped. rw escaped (escape_some (escape_of cs) (text_past 3 cs))) (λ plain. rw plain (byte_some c (text_past 0 cs))) (cases_Bool (c == 92))

pub text_some : (word text : List ℕ) → 0 < length word → text_of word ≡ Some text → 0 < length text
text_some word text some is = subst HasByte is (text_has word some)
