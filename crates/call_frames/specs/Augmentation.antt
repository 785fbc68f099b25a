-- The augmentation of a CIE (LSB Core, "The Common Information Entry Format"): a string that says which augmentation data there are.
use Rattle.std.specs.Prelude.{ℕ, ◌+◌, ◌/◌, ◌%◌, ◌==◌, ◌&&◌, ◌||◌, not, nat_le, nat_lt, if◌then◌else◌, Bool, true, List, [], ◌∷◌, length, take, drop, slice_index, Option, None, Some, is_none}
use Rattle.std.specs.Option.{option_and_then, option_map}
use Rattle.std.specs.List.{position, list_any}
use Rattle.memchr.specs.Find.{is_byte}
use Rattle.call_frames.specs.Pointers.{width_of}

-- R (82), P (80), L (76) and S (83)
abbrev pub is_letter : ℕ → Bool
is_letter x = x == 82 || x == 80 || x == 76 || x == 83

-- a letter that does not occur after it
unfoldable pub is_new_letter : ℕ → List ℕ → Bool
is_new_letter x xs = is_letter x && not (list_any (λ y. y == x) xs)

-- different letters
unfoldable pub are_letters : List ℕ → Bool
are_letters [] = true
are_letters (x ∷ xs) = is_new_letter x xs && are_letters xs

-- no letters, or z (122) and different ones
abbrev pub is_augmentation : List ℕ → Bool
is_augmentation [] = true
is_augmentation (x ∷ xs) = x == 122 && are_letters xs

-- the bytes before the first NUL, which is to be among the first eight, and those after it
unfoldable pub split_text : List ℕ → Option (List ℕ × List ℕ)
split_text bytes = option_map (λ i. (take i bytes, drop (i + 1) bytes)) (position (is_byte 0) (take 8 bytes))

abbrev pub if_augmentation : List ℕ × List ℕ → Option (List ℕ × List ℕ)
if_augmentation parts = if is_augmentation parts.0 then Some parts else None

-- the augmentation string at the front, and the bytes after it
unfoldable pub augmentation : List ℕ → Option (List ℕ × List ℕ)
augmentation bytes = option_and_then if_augmentation (split_text bytes)

-- R: how the pointers of the FDEs are encoded, which is to be absolute or relative to the pointer's place
abbrev pub is_code_encoding : ℕ → Bool
is_code_encoding e = not (is_none (width_of e)) && nat_lt (e / 16) 2

-- P: a pointer to the personality routine, in an encoding that is not aligned (0x50)
abbrev pub sized_personality : List ℕ → ℕ → Option ℕ
sized_personality bytes w = if nat_le (1 + w) (length bytes) then Some (1 + w) else None

abbrev pub personality_size : List ℕ → Option ℕ
personality_size bytes =
    if slice_index bytes 0 / 16 % 8 == 5 then None else option_and_then (sized_personality bytes) (width_of (slice_index bytes 0))

-- L: how the pointers to language-specific data are encoded, which is not looked at. S: nothing.
abbrev pub letter_size_by : ℕ → List ℕ → Option ℕ
letter_size_by x bytes =
    if x == 82 then (if is_code_encoding (slice_index bytes 0) then Some 1 else None)
    else (if x == 80 then personality_size bytes
    else Some 1)

-- how many of the bytes at the front are a letter's data, if they are there and sound
unfoldable pub letter_size : ℕ → List ℕ → Option ℕ
letter_size x bytes =
    if x == 83 then Some 0
    else (if length bytes == 0 then None
    else letter_size_by x bytes)

-- the encoding of the FDEs' pointers, once the data of a letter are read
abbrev pub encoding_with : ℕ → List ℕ → ℕ → ℕ
encoding_with x bytes e = if x == 82 then slice_index bytes 0 else e

-- The data of the letters follow one another; the rest of the augmentation data is
-- ignored. The encoding of the FDEs' pointers is that of R, if it is one of the letters.
unfoldable pub encoding_among : ℕ → List ℕ → List ℕ → Option ℕ
encoding_among e [] bytes = Some e
encoding_among e (x ∷ xs) bytes =
    option_and_then (λ n. encoding_among (encoding_with x bytes e) xs (drop n bytes)) (letter_size x bytes)

-- S: the FDEs are those of frames that a signal handler returns to
abbrev pub is_signal : List ℕ → Bool
is_signal letters = list_any (λ y. y == 83) letters
