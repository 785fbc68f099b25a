-- Where the segments rise, the addresses of a memory by the segment that decides them are the addresses in their order.
use Rattle.std.proofs.Common.{◌≡◌, inl, inr, ⊎_elim, ◌<◌, ◌≤◌, ℕ, zero, suc, ◌+◌, ◌-◌, ◌^◌, ◌&&◌, cond, Bool, true, false, List, [], ◌∷◌, ◌++◌, length, filter, map, None, refl, sym, ap, subst, ◌∙◌, arith, get_or}
use Rattle.std.proofs.lemmas.Bool.{and_from, and_left, and_right, le-leb, lt-leb, le-ltb, lt-ltb, eq-eqb, cases_lt}
use Rattle.std.specs.List.{range_with_len}
use Rattle.elf_view.specs.Front.{headed}
use Rattle.elf_view.specs.Header.{SegmentView}
use Rattle.address_space.specs.CursorWords.{WantsValue}
use Rattle.address_space.specs.Occurrence.{begins_text, decided_from, is_decided_by, is_long, is_number, occurrences, occurs, ordered_from, strings_of, text_from}
use Rattle.address_space.specs.Source.{Space, content_by, decider, first_from, is_covering, span, value_at, value_of}
use Rattle.address_space.proofs.Finding.{occurs_wants}
use Rattle.address_space.proofs.Places.{place_from}
use Rattle.address_space.proofs.Scanning.{first_no, first_yes}
use Rattle.address_space.proofs.Texts.{begins_wants}
use Rattle.windowed_search.specs.Rising.{IsRising}
use Rattle.windowed_search.specs.TextWords.{texts_before}
use Rattle.windowed_search.proofs.Values.{filter_split, none_pass}

-- headers alone tell it
pub rising_headed : (xs ys : List SegmentView) (a : ℕ) → map headed xs ≡ map headed ys → IsRising a xs → IsRising a ys
rising_headed [] [] a same rises = rises
rising_headed [] (y ∷ ys) a same rises = cc
rising_headed (x ∷ xs) [] a same rises = cc
rising_headed (x ∷ xs) (y ∷ ys) a same rises =
    let one : headed x ≡ headed y = cc in
    let others : map headed xs ≡ map headed ys = cc in
    let size : span x ≡ span y = ap (λ (s : SegmentView). span s) one in
    let start : x.vaddr ≡ y.vaddr = ap (λ (s : SegmentView). s.vaddr) one in
    ⊎_elim
    (λ none. inl (sym size ∙ none.0, rising_headed xs ys a others none.1))
    (λ some. inr (subst (λ n. a ≤ n) start some.0, subst (λ n. IsRising n ys) (ap (λ n. n + span x) start ∙ ap (λ n. y.vaddr + n) size) (rising_headed xs ys (x.vaddr + span x) others some.1)))
    rises

rising_end : (ss : List SegmentView) (a : ℕ) → IsRising a ss → a < 2 ^ 64
rising_end [] a rises = rises
rising_end (s ∷ ss) a rises = ⊎_elim (λ none. rising_end ss a none.1) (λ some. (let end = rising_end ss (s.vaddr + span s) some.1 in let low = some.0 in omega (arith, end, low))) rises

below : (b : ℕ) (s : SegmentView) → b < s.vaddr → is_covering b s ≡ false
below b s less = and_left _ _ (lt-leb _ _ less)

behind : (b : ℕ) (s : SegmentView) → s.vaddr + span s ≤ b → is_covering b s ≡ false
behind b s past = and_right _ _ (le-ltb _ _ past)

within : (b : ℕ) (s : SegmentView) → s.vaddr ≤ b → b < s.vaddr + span s → is_covering b s ≡ true
within b s low high = and_from _ _ (le-leb s.vaddr b low) (lt-ltb b (s.vaddr + span s) high)

covers_none : (b : ℕ) (s : SegmentView) → span s ≡ 0 → is_covering b s ≡ false
covers_none b s none = elim (cases_lt b s.vaddr) as (λ _. is_covering b s ≡ false) [ inl less ↦ below b s less | inr more ↦ behind b s (omega (arith, none, more)) ]

-- an address before them is in none
before_all : (ss : List SegmentView) (a b i : ℕ) → IsRising a ss → b < a → first_from (is_covering b) i ss ≡ None
before_all [] a b i rises low = refl
before_all (s ∷ ss) a b i rises low =
    ⊎_elim
    (λ none. first_no (is_covering b) i s ss (covers_none b s none.0) ∙ before_all ss a b (i + 1) none.1 low)
    (λ some. (let start = some.0 in first_no (is_covering b) i s ss (below b s (omega (arith, start, low))) ∙ before_all ss (s.vaddr + span s) b (i + 1) some.1 (omega (arith, start, low))))
    rises

module _ (space : Space) (test : ℕ → Bool) (wants : WantsValue space test) where
  undecided : (b : ℕ) → decider space b ≡ None → test b ≡ false
  undecided b none = wants b (ap (λ p. value_of (content_by (λ x j. get_or x j 0) b p)) (place_from space b None none))

  -- those that a segment decides are all that pass among its addresses
  all_own : (i n a : ℕ) → ((b : ℕ) → a ≤ b → b < a + n → is_decided_by space i b ≡ true) → decided_from space test i a n ≡ filter test (range_with_len a n)
  all_own i zero a own = refl
  all_own i (suc n) a own =
      let rest = all_own i n (a + 1) (λ b low high. own b (omega (arith, low)) (omega (arith, high))) in
      ap (λ t. cond (t && test a) (a ∷ decided_from space test i (a + 1) n) (decided_from space test i (a + 1) n)) (own a (omega arith) (omega arith))
      ∙ ap (λ xs. cond (test a) (a ∷ xs) xs) rest

  by_address : (ss : List SegmentView) (i a n : ℕ) → ((b : ℕ) → a ≤ b → decider space b ≡ first_from (is_covering b) i ss) → IsRising a ss → a + n ≡ 2 ^ 64 - 1 → ordered_from space test i ss ≡ filter test (range_with_len a n)
  by_address [] i a n decides rises all = sym (none_pass test n a (λ b low high. undecided b (decides b low)))
  by_address (s ∷ ss) i a n decides rises all =
      ⊎_elim
      (λ none.
      ap (λ m. decided_from space test i s.vaddr m ++ ordered_from space test (i + 1) ss) none.0
      ∙ by_address ss (i + 1) a n (λ b low. decides b low ∙ first_no (is_covering b) i s ss (covers_none b s none.0)) none.1 all)
      (λ some.
      let start = some.0 in
      let end = rising_end ss (s.vaddr + span s) some.1 in
      let gap = s.vaddr - a in
      let m = span s in
      let rest = n - (gap + m) in
      let whole : gap + (m + rest) ≡ n = omega (arith, start, end, all) in
      let first : a + gap ≡ s.vaddr = omega (arith, start) in
      let own : decided_from space test i s.vaddr m ≡ filter test (range_with_len s.vaddr m) = all_own i m s.vaddr
      (λ b low high. ap (is_number i) (decides b (omega (arith, low, start)) ∙ first_yes (is_covering b) i s ss (within b s low high)) ∙ eq-eqb i i refl) in
      let before : filter test (range_with_len a gap) ≡ [] = none_pass test gap a
      (λ b low high. undecided b (decides b low ∙ first_no (is_covering b) i s ss (below b s (omega (arith, high, first))) ∙ before_all ss (s.vaddr + m) b (i + 1) some.1 (omega (arith, high, first)))) in
      let others : ordered_from space test (i + 1) ss ≡ filter test (range_with_len (s.vaddr + m) rest) = by_address ss (i + 1) (s.vaddr + m) rest
      (λ b low. decides b (omega (arith, low, start)) ∙ first_no (is_covering b) i s ss (behind b s low)) some.1 (omega (arith, whole, all, first)) in
      ap (λ xs. xs ++ ordered_from space test (i + 1) ss) own
      ∙ ap (λ xs. filter test (range_with_len s.vaddr m) ++ xs) others
      ∙ sym (filter_split test s.vaddr m rest)
      ∙ ap (λ b. filter test (range_with_len b (m + rest))) (sym first)
      ∙ ap (λ xs. xs ++ filter test (range_with_len (a + gap) (m + rest))) (sym before)
      ∙ sym (filter_split test a gap (m + rest))
      ∙ ap (λ k. filter test (range_with_len a k)) whole)
      rises

pub occurs_by_address : (space : Space) (needle : List ℕ) → 0 < length needle → IsRising 0 space.segments → occurrences space needle ≡ filter (occurs space needle) (range_with_len 0 (2 ^ 64 - 1))
unfolding occurrences decider
occurs_by_address space needle some rises = by_address space (occurs space needle) (occurs_wants space needle some) space.segments 0 0 (2 ^ 64 - 1) (λ b low. refl) rises (omega arith)

pub texts_by_address : (space : Space) (least : ℕ) → IsRising 0 space.segments → strings_of space least ≡ texts_before space least (2 ^ 64 - 1)
unfolding strings_of decider
texts_by_address space least rises = ap (λ starts. filter (is_long least) (map (text_from space) starts)) (by_address space (begins_text space) (begins_wants space) space.segments 0 0 (2 ^ 64 - 1) (λ b low. refl) rises (omega arith))

-- the last address of all is in none
last_none : (ss : List SegmentView) (a i : ℕ) → IsRising a ss → first_from (is_covering (2 ^ 64 - 1)) i ss ≡ None
last_none [] a i rises = refl
last_none (s ∷ ss) a i rises =
    ⊎_elim
    (λ none. first_no (is_covering (2 ^ 64 - 1)) i s ss (covers_none (2 ^ 64 - 1) s none.0) ∙ last_none ss a (i + 1) none.1)
    (λ some. (let end = rising_end ss (s.vaddr + span s) some.1 in first_no (is_covering (2 ^ 64 - 1)) i s ss (behind (2 ^ 64 - 1) s (omega (arith, end))) ∙ last_none ss (s.vaddr + span s) (i + 1) some.1))
    rises

pub last_value : (space : Space) → IsRising 0 space.segments → value_at space (2 ^ 64 - 1) ≡ None
unfolding decider
last_value space rises = ap (λ p. value_of (content_by (λ x j. get_or x j 0) (2 ^ 64 - 1) p)) (place_from space (2 ^ 64 - 1) None (last_none space.segments 0 0 rises))
