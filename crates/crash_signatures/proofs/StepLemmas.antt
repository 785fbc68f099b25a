-- The ways to die, the outermost part, and repetitions.
use Rattle.std.proofs.Common.{◌≡◌, ℕ, zero, suc, ◌+◌, ◌-◌, ◌*◌, ◌<◌, ◌≤◌, ◌==◌, Bool, true, false, not, ◌&&◌, cond, List, [], ◌∷◌, ◌++◌, length, take, drop, drop-cons, get_or, map, max, min, refl, sym, ap, ◌∙◌, append_assoc, arith}
use Rattle.std.proofs.lemmas.Bool.{eqb-false, eqb-true, le-leb, ne_eqb}
use Rattle.std.proofs.lemmas.List.{append-nil, drop_all, drop-map, length-map, length-take, get_or-map, map-append, take_all}
use Rattle.std.proofs.lemmas.List.Sums.{suffix_len-take_no, suffix_len-take_yes}
use Rattle.std.specs.List.{suffix_len}
use Rattle.std.specs.Prelude.{fold, nat_le}
use Rattle.crash_signatures.specs.Steps.{calls_main, count_left, ends_process, ends_twice, inner_part, is_main, past_death, with_word, without_death, without_repetitions}
use Rattle.crash_signatures.specs.WordViews.{said}
use Rattle.crash_signatures.specs.Words.{WordSaid, same_words}
use Rattle.crash_signatures.specs.declared.words.Word.{Word}
use Rattle.crash_signatures.proofs.SliceLemmas.{front_same, said_from, said_to, said_within}

-- the words from a place on, the word at it first
pub said_rest : (words : List Word) (at : ℕ) (w : Word) → at < length words → w ≡ get_or words at w → drop at (map said words) ≡ said w ∷ drop (at + 1) (map said words)
said_rest words at w below is =
    let e : suc at ≡ at + 1 = omega arith in
    drop-map said at words ∙ ap (map said) (drop-cons words at w below ∙ ap (λ (x : Word). x ∷ drop (suc at) words) (sym is))
    ∙ ap (λ (l : List WordSaid). said w ∷ l) (sym (drop-map said (suc at) words) ∙ ap (λ (n : ℕ). drop n (map said words)) e)

take_more : (l : List WordSaid) (at : ℕ) (w : WordSaid) (rest : List WordSaid) → drop at l ≡ w ∷ rest → take (at + 1) l ≡ take at l ++ w ∷ []
take_more l at w rest is = let e : at + 1 ≡ suc at = omega arith in ap (λ (n : ℕ). take n l) e ∙ by l at is
  where
    by : (l : List WordSaid) (at : ℕ) → drop at l ≡ w ∷ rest → take (suc at) l ≡ take at l ++ w ∷ []
    by [] zero is = absurd cc
    by [] (suc n) is = absurd cc
    by (x ∷ xs) zero is = let e : x ≡ w = cc in ap (λ (y : WordSaid). y ∷ []) e
    by (x ∷ xs) (suc n) is = ap (λ (l : List WordSaid). x ∷ l) (by xs n is)

abbrev pub lives : WordSaid → Bool
lives w = not (ends_process w)

-- how many of the first n words come up to the last way to die
abbrev pub past_in : ℕ → List WordSaid → ℕ
past_in n ws = n - suffix_len (λ w. not (ends_process w)) (take n ws)

module _ (words : List Word) where
  abbrev ws : List WordSaid
  ws = map said words

  pub death_first : (n : ℕ) → n ≡ min (length words) 16 → past_death ws ≡ past_in n ws
  death_first n is = sym (ap (λ (k : ℕ). k - suffix_len lives (take n ws)) same_length ∙ ap (λ (l : List WordSaid). length (take 16 ws) - suffix_len lives l) same_front)
    where
      same_front : take n ws ≡ take 16 ws
      same_front = let m = length-map words said in front_same n 16 ws (omega (arith, is, m))

      same_length : n ≡ length (take 16 ws)
      same_length = let m = length-map words said in let e = length-take n ws in let f = ap length same_front in omega (arith, is, m, e, f)

  pub death_here : (n : ℕ) (w : Word) → 0 < n → n ≤ length words → w ≡ get_or words (n - 1) w → ends_process (said w) ≡ true → past_in n ws ≡ n
  death_here n w some low is dies =
      let m = length-map words said in
      let last : get_or ws (n - 1) (said w) ≡ said w = get_or-map said words (n - 1) w (said w) (omega (arith, some, low)) ∙ ap said (sym is) in
      let none = suffix_len-take_no (λ x. not (ends_process x)) ws n (said w) some (omega (arith, low, m)) (ap (λ (x : WordSaid). not (ends_process x)) last ∙ ap not dies) in
      omega (arith, none)

  pub death_before : (n : ℕ) (w : Word) → 0 < n → n ≤ length words → w ≡ get_or words (n - 1) w → ends_process (said w) ≡ false → past_in n ws ≡ past_in (n - 1) ws
  death_before n w some low is alive =
      let m = length-map words said in
      let last : get_or ws (n - 1) (said w) ≡ said w = get_or-map said words (n - 1) w (said w) (omega (arith, some, low)) ∙ ap said (sym is) in
      let one = suffix_len-take_yes (λ x. not (ends_process x)) ws n (said w) some (omega (arith, low, m)) (ap (λ (x : WordSaid). not (ends_process x)) last ∙ ap not alive) in
      omega (arith, one)

  module _ (at : ℕ) (so_far : inner_part true ws ≡ take at ws ++ inner_part (at == 0) (drop at ws)) where
    pub main_here : (w : Word) → at < length words → w ≡ get_or words at w → is_main (said w) ≡ true → map said (take (at + 1) words) ≡ inner_part true ws
    main_here w below is main =
        let rest = said_rest words at w below is in
        said_to words (at + 1) ∙ take_more ws at (said w) (drop (at + 1) ws) rest
        ∙ sym (so_far ∙ ap (λ (l : List WordSaid). take at ws ++ inner_part (at == 0) l) rest
        ∙ ap (λ (t : Bool). take at ws ++ cond t (said w ∷ []) (cond (calls_main (said w)) (cond (at == 0) (said w ∷ []) []) (said w ∷ inner_part false (drop (at + 1) ws)))) main)

    -- what is left, where the word here is not main
    left : (w : Word) (outer : Bool) → at < length words → w ≡ get_or words at w → is_main (said w) ≡ false → calls_main (said w) ≡ outer
        → inner_part true ws ≡ take at ws ++ cond outer (cond (at == 0) (said w ∷ []) []) (said w ∷ inner_part false (drop (at + 1) ws))
    left w outer below is not_main is_outer =
        so_far ∙ ap (λ (l : List WordSaid). take at ws ++ inner_part (at == 0) l) (said_rest words at w below is)
        ∙ ap (λ (t : Bool). take at ws ++ cond t (said w ∷ []) (cond (calls_main (said w)) (cond (at == 0) (said w ∷ []) []) (said w ∷ inner_part false (drop (at + 1) ws)))) not_main
        ∙ ap (λ (t : Bool). take at ws ++ cond t (cond (at == 0) (said w ∷ []) []) (said w ∷ inner_part false (drop (at + 1) ws))) is_outer

    pub inner_next : (w : Word) → at < length words → w ≡ get_or words at w → is_main (said w) ≡ false → calls_main (said w) ≡ false
        → inner_part true ws ≡ take (at + 1) ws ++ inner_part (at + 1 == 0) (drop (at + 1) ws)
    inner_next w below is not_main not_outer =
        left w false below is not_main not_outer
        ∙ sym (append_assoc (take at ws) (said w ∷ []) (inner_part false (drop (at + 1) ws)))
        ∙ ap (λ (l : List WordSaid). l ++ inner_part false (drop (at + 1) ws)) (sym (take_more ws at (said w) (drop (at + 1) ws) (said_rest words at w below is)))
        ∙ ap (λ (t : Bool). take (at + 1) ws ++ inner_part t (drop (at + 1) ws)) (sym (ne_eqb (at + 1) 0 (λ zero_is. omega (arith, zero_is))))

    pub outer_here : (w : Word) → at < length words → w ≡ get_or words at w → is_main (said w) ≡ false → calls_main (said w) ≡ true → map said (take (max at 1) words) ≡ inner_part true ws
    outer_here w below is not_main outer = said_to words (max at 1) ∙ by (at == 0) refl ∙ sym (left w true below is not_main outer)
      where
        by : (t : Bool) → at == 0 ≡ t → take (max at 1) ws ≡ take at ws ++ cond t (said w ∷ []) []
        by true first =
            let z = eqb-true at 0 first in
            let e : max at 1 ≡ at + 1 = omega (arith, z) in
            ap (λ (n : ℕ). take n ws) e ∙ take_more ws at (said w) (drop (at + 1) ws) (said_rest words at w below is)
        by false later =
            let z = eqb-false at 0 later in
            let e : max at 1 ≡ at = omega (arith, z) in
            ap (λ (n : ℕ). take n ws) e ∙ sym (append-nil (take at ws))

    nothing : (b : Bool) → inner_part b [] ≡ []
    nothing b = refl

    pub inner_end : length words ≤ at → ws ≡ inner_part true ws
    inner_end all =
        let m = length-map words said in
        sym (so_far ∙ ap (λ (l : List WordSaid). take at ws ++ inner_part (at == 0) l) (drop_all at ws (omega (arith, all, m))) ∙ append-nil (take at ws) ∙ take_all at ws (omega (arith, all, m)))

  pub death_gone : (past : ℕ) → past ≡ past_death ws → (past ≡ length words → ⊥) → map said (take (length words - past) (drop past words)) ≡ without_death ws
  death_gone past is some =
      let m = length-map words said in
      said_from words past ∙ ap (λ (n : ℕ). drop n ws) is
      ∙ sym (ap (λ (t : Bool). cond t ws (drop (past_death ws) ws)) (ne_eqb (past_death ws) (length ws) (λ all. some (is ∙ all ∙ m))))

-- one word more
pub repeated : (words kept pushed new : List Word) (i left : ℕ) (w copy : Word) → i < length words → w ≡ get_or words i w → said copy ≡ said w → pushed ≡ kept ++ copy ∷ []
    → left ≡ count_left (map said pushed) → new ≡ take left pushed → without_repetitions (map said words) ≡ fold with_word (map said kept) (map said (drop i words))
    → without_repetitions (map said words) ≡ fold with_word (map said new) (map said (drop (i + 1) words))
repeated words kept pushed new i left w copy below is same more is_left cut so_far =
    let e : suc i ≡ i + 1 = omega arith in
    let longer : map said pushed ≡ map said kept ++ said w ∷ [] =
    ap (map said) more ∙ map-append said kept (copy ∷ []) ∙ ap (λ (x : WordSaid). map said kept ++ x ∷ []) same in
    let shorter : with_word (map said kept) (said w) ≡ map said new =
    sym (ap (map said) cut ∙ said_to pushed left ∙ ap (λ (n : ℕ). take n (map said pushed)) is_left ∙ ap (λ (l : List WordSaid). take (count_left l) l) longer) in
    so_far ∙ ap (λ (l : List Word). fold with_word (map said kept) (map said l)) (drop-cons words i w below ∙ ap (λ (x : Word). x ∷ drop (suc i) words) (sym is))
    ∙ ap (λ (l : List WordSaid). fold with_word l (map said (drop (suc i) words))) shorter
    ∙ ap (λ (n : ℕ). fold with_word (map said new) (map said (drop n words))) e

pub twice : (words : List Word) (count k : ℕ) (r : Bool) → 2 * count ≤ length words → k ≡ count
    → r ≡ same_words (map said (take (length words - (length words - count)) (drop (length words - count) words))) (map said (take k (drop (length words - 2 * count) words)))
    → r ≡ ends_twice count (map said words)
twice words count k r long same is =
    let m = length-map words said in
    let n : ℕ = length words in
    let fits : nat_le (2 * count) n ≡ true = le-leb (2 * count) n long in
    is ∙ ap (λ (l : List WordSaid). same_words l (map said (take k (drop (n - 2 * count) words)))) (said_from words (n - count))
    ∙ ap (same_words (drop (n - count) (map said words))) (said_within words (n - 2 * count) k count same)
    ∙ ap (λ (t : Bool). t && same_words (drop (n - count) (map said words)) (take count (drop (n - 2 * count) (map said words)))) (sym fits)
    ∙ ap (λ (j : ℕ). nat_le (2 * count) j && same_words (drop (j - count) (map said words)) (take count (drop (j - 2 * count) (map said words)))) (sym m)
