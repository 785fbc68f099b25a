-- What is looked for has at least one byte.
use Rattle.std.proofs.Common.{◌≡◌, ℕ, ◌+◌, ◌*◌, ◌<◌, List, [], ◌∷◌, length, Some, subst, ⊎_elim}
use Rattle.std.specs.Prelude.{◌&&◌, nat_le}
use Rattle.std.specs.Char.{is_digit, digit_value}
use Rattle.std.proofs.lemmas.Bool.{cases_Bool}
use Rattle.script_words.specs.Hex.{bytes_of_hex, needle_of}
use Rattle.script_lines.proofs.KeyLemmas.{HasByte, byte_some}

needle_has : (word : List ℕ) → HasByte (needle_of word)
needle_has [] = tt
needle_has (high ∷ []) = tt
needle_has (high ∷ low ∷ digits) =
    ⊎_elim
    (λ fits. rw fits
    (⊎_elim
    (λ read. rw read (byte_some (16 * digit_value high + digit_value low) (bytes_of_hex digits)))
    (λ other. rw other tt)
    (cases_Bool (is_digit high 16 && is_digit low 16))))
    (λ other. rw other tt)
    (cases_Bool (nat_le 2 (length (high ∷ low ∷ digits)) && nat_le (length (high ∷ low ∷ digits)) 128))

pub needle_some : (word bytes : List ℕ) → needle_of word ≡ Some bytes → 0 < length bytes
needle_some word bytes is = subst HasByte is (needle_has word)
