-- The ULEB128 that is read is the one whose bytes are there.
use Rattle.std.proofs.Common.{◌≡◌, ◌<◌, ◌≤◌, ◌+◌, ◌-◌, ◌^◌, ℕ, Bool, true, false, cond, ltb, List, ◌++◌, Option, Some, None, length, get_or, take, drop, refl, ap, ◌∙◌, sym, arith}
use Rattle.std.proofs.lemmas.Bool.{ltb-true, ltb-false, lt-ltb, le-ltb}
use Rattle.std.proofs.lemmas.Option.{same_Some}
use Rattle.std.proofs.lemmas.List.{take-append-drop, get_or-take, length-take, length-append}
use Rattle.std.proofs.Math.ListN.{get_or-append}
use Rattle.std.proofs.Math.Seq.{take-append_seam, drop-append_seam}
use Rattle.std.proofs.lemmas.List.Sums.{position_or_len_is, fails_before_first, passes_at_first}
use Rattle.std.specs.List.{position, position_or_len}
use Rattle.std.specs.Option.{option_and_then, option_map}
use Rattle.call_frames.specs.Grammar.{IsLeb, IsUnsigned}
use Rattle.call_frames.specs.Leb.{groups, is_last, split_leb, unsigned, with_behind, uleb}

-- where the last byte is
place_of : (xs : List ℕ) (i : ℕ) (t : Bool) → ltb (position_or_len is_last xs) (length xs) ≡ t → cond t (Some (position_or_len is_last xs)) None ≡ Some i → (position_or_len is_last xs ≡ i) × (i < length xs)
place_of xs i true is h =
    let same : position_or_len is_last xs ≡ i = cc in
    let less = ltb-true (position_or_len is_last xs) (length xs) is in (same, omega arith)
place_of xs i false is h = cc

-- a byte of the front
byte_of : (bytes : List ℕ) (i k : ℕ) → k ≤ i → i < 10 → get_or (take (i + 1) bytes) k 0 ≡ get_or (take 10 bytes) k 0
byte_of bytes i k low few = get_or-take (i + 1) bytes k 0 (omega arith) ∙ sym (get_or-take 10 bytes k 0 (omega arith))

leb_at : (bytes : List ℕ) (i : ℕ) → position_or_len is_last (take 10 bytes) ≡ i → i < length (take 10 bytes) → IsLeb (take (i + 1) bytes)
leb_at bytes i at h =
    let few : i < 10 = omega (arith, length-take 10 bytes, h) in
    let within : i < length bytes = omega (arith, length-take 10 bytes, h) in
    let size : length (take (i + 1) bytes) ≡ i + 1 = omega (arith, length-take (i + 1) bytes) in
    record {
      some = omega arith;
      few = omega arith;
      goes_on = λ k lt.
          let sooner : k < position_or_len is_last (take 10 bytes) = omega arith in
          let fails = fails_before_first is_last (take 10 bytes) k 0 sooner in
          let same = byte_of bytes i k (omega arith) few in
          let high = ltb-false (get_or (take 10 bytes) k 0) 128 fails in omega arith;
      ends =
          let inside : position_or_len is_last (take 10 bytes) < length (take 10 bytes) = omega arith in
          let passes = passes_at_first is_last (take 10 bytes) 0 inside in
          let low = ltb-true (get_or (take 10 bytes) (position_or_len is_last (take 10 bytes)) 0) 128 passes in
          let there : get_or (take 10 bytes) (position_or_len is_last (take 10 bytes)) 0 ≡ get_or (take 10 bytes) i 0 = ap (λ k. get_or (take 10 bytes) k 0) at in
          let same = byte_of bytes i i (omega arith) few in
          let last : length (take (i + 1) bytes) - 1 ≡ i = omega arith in
          let here : get_or (take (i + 1) bytes) (length (take (i + 1) bytes) - 1) 0 ≡ get_or (take (i + 1) bytes) i 0 = ap (λ k. get_or (take (i + 1) bytes) k 0) last in
          omega arith;
    }

-- a number and what is after it
abbrev before : List ℕ → ℕ → ℕ × List ℕ
before rest m = (m, rest)

found_small : (bytes : List ℕ) (n i : ℕ) (rest : List ℕ) (t : Bool) → IsLeb (take (i + 1) bytes) → ltb (groups (take (i + 1) bytes)) (2 ^ 64) ≡ t → option_map (before (drop (i + 1) bytes)) (cond t (Some (groups (take (i + 1) bytes))) None) ≡ Some (n, rest) → IsUnsigned bytes n rest
found_small bytes n i rest true leb is h =
    let pair : before (drop (i + 1) bytes) (groups (take (i + 1) bytes)) ≡ (n, rest) = same_Some _ _ h in
    let number : groups (take (i + 1) bytes) ≡ n = ap (λ (p : ℕ × List ℕ). p.0) pair in
    let behind : drop (i + 1) bytes ≡ rest = ap (λ (p : ℕ × List ℕ). p.1) pair in
    let small = ltb-true (groups (take (i + 1) bytes)) (2 ^ 64) is in
    record {
      text = take (i + 1) bytes;
      leb = leb;
      whole = sym (take-append-drop (i + 1) bytes) ∙ ap (λ r. take (i + 1) bytes ++ r) behind;
      number = number;
      small = omega arith;
    }
found_small bytes n i rest false leb is h = cc

found_by : (bytes : List ℕ) (n : ℕ) (rest : List ℕ) (o : Option ℕ) → position is_last (take 10 bytes) ≡ o → option_and_then (with_behind unsigned) (option_map (λ i. (take (i + 1) bytes, drop (i + 1) bytes)) o) ≡ Some (n, rest) → IsUnsigned bytes n rest
unfolding unsigned
found_by bytes n rest None at h = cc
found_by bytes n rest (Some i) at h =
    let place = place_of (take 10 bytes) i (ltb (position_or_len is_last (take 10 bytes)) (length (take 10 bytes))) refl at in
    found_small bytes n i rest (ltb (groups (take (i + 1) bytes)) (2 ^ 64)) (leb_at bytes i place.0 place.1) refl h

pub number_found : (bytes : List ℕ) (n : ℕ) (rest : List ℕ) → uleb bytes ≡ Some (n, rest) → IsUnsigned bytes n rest
unfolding uleb split_leb
number_found bytes n rest h = found_by bytes n rest (position is_last (take 10 bytes)) refl h

-- a byte of a number in front of other bytes
byte_in : (text rest : List ℕ) (k : ℕ) → k < length text → length text ≤ 10 → get_or (take 10 (text ++ rest)) k 0 ≡ get_or text k 0
byte_in text rest k h few = get_or-take 10 (text ++ rest) k 0 (omega arith) ∙ get_or-append text rest 0 k h

last_place : (text rest : List ℕ) → IsLeb text → position_or_len is_last (take 10 (text ++ rest)) ≡ length text - 1
last_place text rest leb =
    let few = leb.few in
    let some = leb.some in
    let size : length text - 1 < length (take 10 (text ++ rest)) = omega (arith, length-take 10 (text ++ rest), length-append text rest) in
    position_or_len_is is_last (take 10 (text ++ rest)) (length text - 1) 0 (omega arith) (λ k lt.
    let same = byte_in text rest k (omega arith) few in
    let high = leb.goes_on k (omega arith) in le-ltb (get_or (take 10 (text ++ rest)) k 0) 128 (omega arith)) (λ lt.
    let same = byte_in text rest (length text - 1) (omega arith) few in
    let low = leb.ends in lt-ltb (get_or (take 10 (text ++ rest)) (length text - 1) 0) 128 (omega arith))

split_is : (text rest : List ℕ) → IsLeb text → split_leb (text ++ rest) ≡ Some (text, rest)
unfolding split_leb
split_is text rest leb =
    let some = leb.some in
    let few = leb.few in
    let at = last_place text rest leb in
    let size : length text - 1 < length (take 10 (text ++ rest)) = omega (arith, length-take 10 (text ++ rest), length-append text rest) in
    let up : length text - 1 + 1 ≡ length text = omega arith in
    let found : position is_last (take 10 (text ++ rest)) ≡ Some (length text - 1) = ap (λ k. cond (ltb k (length (take 10 (text ++ rest)))) (Some k) None) at ∙ ap (λ t. cond t (Some (length text - 1)) None) (lt-ltb (length text - 1) (length (take 10 (text ++ rest))) size) in
    ap (option_map (λ i. (take (i + 1) (text ++ rest), drop (i + 1) (text ++ rest)))) found
    ∙ ap (λ k. Some (take k (text ++ rest), drop k (text ++ rest))) up
    ∙ ap (λ xs. Some (xs, drop (length text) (text ++ rest))) (take-append_seam text rest)
    ∙ ap (λ xs. Some (text, xs)) (drop-append_seam text rest)

pub number_read : (text rest : List ℕ) → IsLeb text → groups text < 2 ^ 64 → uleb (text ++ rest) ≡ Some (groups text, rest)
unfolding uleb unsigned
number_read text rest leb small =
    ap (option_and_then (with_behind unsigned)) (split_is text rest leb) ∙ ap (λ t. option_map (before rest) (cond t (Some (groups text)) None)) (lt-ltb (groups text) (2 ^ 64) small)
