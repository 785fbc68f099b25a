-- The places where bytes occur in the memory of a process, and the texts in it. Addresses
-- are listed by the number of the segment that decides them and then by themselves.
use Rattle.std.specs.Prelude.{ℕ, zero, suc, ◌+◌, ◌-◌, ◌^◌, ◌==◌, ◌&&◌, ◌||◌, not, nat_le, if◌then◌else◌, Bool, true, false, List, [], ◌∷◌, ◌++◌, map, filter, Option, None, Some}
use Rattle.std.specs.List.{range_with_len}
use Rattle.elf_view.specs.Header.{SegmentView}
use Rattle.address_space.specs.Source.{Space, span, decider, value_at}

-- whether the segment of that number decides the address
abbrev pub is_number : {A : Type 0} → ℕ → Option (ℕ × A) → Bool
is_number i None = false
is_number i (Some d) = d.0 == i

abbrev pub is_decided_by : Space → ℕ → ℕ → Bool
is_decided_by space i a = is_number i (decider space a)

-- of the n addresses from a on, those that segment number i decides and that pass the test
abbrev pub decided_from : Space → (ℕ → Bool) → ℕ → ℕ → ℕ → List ℕ
decided_from space test i a n = filter (λ b. is_decided_by space i b && test b) (range_with_len a n)

-- the addresses that pass the test: those that the first of these segments decides, then those of the next, and so on
abbrev pub ordered_from : Space → (ℕ → Bool) → ℕ → List SegmentView → List ℕ
ordered_from space test i [] = []
ordered_from space test i (s ∷ segments) = decided_from space test i s.vaddr (span s) ++ ordered_from space test (i + 1) segments

abbrev pub ordered : Space → (ℕ → Bool) → List ℕ
ordered space test = ordered_from space test 0 space.segments

-- whether it is that value
abbrev pub is_value : ℕ → Option ℕ → Bool
is_value x None = false
is_value x (Some y) = y == x

-- whether the bytes are the values of the addresses from a on
unfoldable pub occurs : Space → List ℕ → ℕ → Bool
occurs space [] a = true
occurs space (x ∷ xs) a = is_value x (value_at space a) && occurs space xs (a + 1)

-- every address at which the bytes occur
unfoldable pub occurrences : Space → List ℕ → List ℕ
occurrences space needle = ordered space (occurs space needle)

-- a byte of text: from the space (0x20) to ~ (0x7e), or a tab (0x09)
abbrev pub is_text_byte : ℕ → Bool
is_text_byte x = nat_le 32 x && nat_le x 126 || x == 9

abbrev pub is_text_value : Option ℕ → Bool
is_text_value None = false
is_text_value (Some x) = is_text_byte x

abbrev pub is_text_at : Space → ℕ → Bool
is_text_at space a = is_text_value (value_at space a)

-- the address of a byte of text that has no byte of text before it
abbrev pub begins_text : Space → ℕ → Bool
begins_text space a = is_text_at space a && (a == 0 || not (is_text_at space (a - 1)))

-- how many of the n addresses from a on have bytes of text, up to the first that does not
unfoldable pub text_len : Space → ℕ → ℕ → ℕ
text_len space a zero = 0
text_len space a (suc n) = if is_text_at space a then text_len space (a + 1) n + 1 else 0

-- the text from an address on, as far as the last address of all, by its first address and its length
abbrev pub text_from : Space → ℕ → ℕ × ℕ
text_from space a = (a, text_len space a (2 ^ 64 - a))

abbrev pub is_long : ℕ → ℕ × ℕ → Bool
is_long least text = nat_le least text.1

-- every text of at least that length; each is as long as it can be
unfoldable pub strings_of : Space → ℕ → List (ℕ × ℕ)
strings_of space least = filter (is_long least) (map (text_from space) (ordered space (begins_text space)))
