-- The lines of counters one after another.
use Rattle.std.proofs.Common.{◌≡◌, ◌<◌, ◌≤◌, ◌+◌, ◌^◌, ℕ, zero, suc, List, [], ◌∷◌, ◌++◌, length, min, take, drop, get_or, map, set, Option, None, Some, option_map, refl, sym, ap, ◌∙◌, arith, append_assoc}
use Rattle.std.proofs.lemmas.List.{append-nil, drop_all, drop_more, length-take, take_all, take_more, take_more_set}
use Rattle.std.specs.List.{flat_map, slice_get}
use Rattle.handler_files.specs.Counters.{counters, place}
use Rattle.handler_files.specs.Counts.{AreCounts, count_of, counts_text, line}
use Rattle.handler_files.specs.declared.counters.Counter.{Counter}
use Rattle.handler_files.specs.declared.counters.Counter.TheVariants.{Stored}
use Rattle.handler_files.proofs.ReadingLemmas.{some_is}

-- a line for each of these counters, with these counts
abbrev pub lines : List Counter → List ℕ → List ℕ
lines [] ns = []
lines (c ∷ cs) [] = []
lines (c ∷ cs) (n ∷ ns) = line c n ++ lines cs ns

-- the numbers from k on, so many
abbrev pub upward : ℕ → ℕ → List ℕ
upward k zero = []
upward k (suc n) = k ∷ upward (k + 1) n

first_is : (a b : ℕ) (front rest : List ℕ) → a ∷ front ≡ b ∷ rest → a ≡ b
first_is a b front rest e = ap (λ (l : List ℕ). get_or l 0 0) e

heads : (cs : List Counter) (k : ℕ) (ns : List ℕ) → map place cs ≡ upward k (length cs) → k + length cs ≤ length ns
    → flat_map (λ c. line c (count_of ns c)) cs ≡ lines cs (drop k ns)
heads [] k ns placed fits = refl
heads (c ∷ cs) k ns placed fits =
    let here : place c ≡ k = first_is (place c) k (map place cs) (upward (k + 1) (length cs)) placed in
    let rest : flat_map (λ c. line c (count_of ns c)) cs ≡ lines cs (drop (k + 1) ns) = heads cs (k + 1) ns (ap (λ (l : List ℕ). drop 1 l) placed) (omega (arith, fits)) in
    (λ i. line c (get_or ns (here i) 0) ++ rest i) ∙ ap (λ (l : List ℕ). lines (c ∷ cs) l) (sym (drop_more ns k 0 (omega (arith, fits))))

are_placed : map place counters ≡ upward 0 (length counters)
unfolding counters
are_placed = refl

pub are_25 : length counters ≡ 25
unfolding counters
are_25 = refl

pub as_lines : (ns : List ℕ) → length ns ≡ 25 → counts_text ns ≡ lines counters ns
as_lines ns long = heads counters 0 ns are_placed (omega (arith, are_25, long))

pub lines_push : (cs : List Counter) (ns : List ℕ) (c : Counter) (n : ℕ) → length cs ≡ length ns → lines (cs ++ c ∷ []) (ns ++ n ∷ []) ≡ lines cs ns ++ line c n
lines_push [] [] c n same = append-nil (line c n)
lines_push [] (m ∷ ns) c n same = absurd (omega (arith, same))
lines_push (d ∷ cs) [] c n same = absurd (omega (arith, same))
lines_push (d ∷ cs) (m ∷ ns) c n same =
    ap (λ (l : List ℕ). line d m ++ l) (lines_push cs ns c n (omega (arith, same))) ∙ sym (append_assoc (line d m) (lines cs ns) (line c n))

-- a counter by its place
pub got : (cs : List Counter) (i : ℕ) (c : Counter) → slice_get cs i ≡ Some c → get_or cs i Stored ≡ c
got [] i c is = absurd cc
got (d ∷ cs) zero c is = some_is d c is
got (d ∷ cs) (suc i) c is = got cs i c is

-- as many counters as counts
same_length : (i : ℕ) (counts : List ℕ) → length counts ≡ 25 → length (take i counters) ≡ length (take i counts)
same_length i counts long = length-take i counters ∙ ap (λ (n : ℕ). min i n) (are_25 ∙ sym long) ∙ sym (length-take i counts)

module _ (i : ℕ) (low : i < 25) (c : Counter) (is : slice_get counters i ≡ Some c) where
  taken : take (i + 1) counters ≡ take i counters ++ c ∷ []
  taken = let long = are_25 in take_more counters i Stored (omega (arith, low, long)) ∙ ap (λ d. take i counters ++ d ∷ []) (got counters i c is)

  dropped : drop i counters ≡ c ∷ drop (i + 1) counters
  dropped = let long = are_25 in drop_more counters i Stored (omega (arith, low, long)) ∙ ap (λ d. d ∷ drop (i + 1) counters) (got counters i c is)

  -- one more line is read
  pub only_step : (counts text left rest : List ℕ) (n : ℕ) → length counts ≡ 25 → text ≡ lines (take i counters) (take i counts) ++ left → left ≡ line c n ++ rest
      → text ≡ lines (take (i + 1) counters) (take (i + 1) (set counts i n)) ++ rest
  only_step counts text left rest n long so more =
      so ∙ ap (λ (l : List ℕ). lines (take i counters) (take i counts) ++ l) more
      ∙ sym (append_assoc (lines (take i counters) (take i counts)) (line c n) rest)
      ∙ ap (λ (l : List ℕ). l ++ rest) (sym (lines_push (take i counters) (take i counts) c n (same_length i counts long)))
      ∙ (λ k. lines (sym taken k) (sym (take_more_set counts i n (omega (arith, low, long))) k) ++ rest)

  -- what is left of the lines of these counts
  pub next_line : (wanted left : List ℕ) → length wanted ≡ 25 → left ≡ lines (drop i counters) (drop i wanted)
      → left ≡ line c (get_or wanted i 0) ++ lines (drop (i + 1) counters) (drop (i + 1) wanted)
  next_line wanted left long is_left =
      is_left ∙ (λ k. lines (dropped k) (drop_more wanted i 0 (omega (arith, low, long)) k))

  pub same_step : (wanted counts : List ℕ) (n : ℕ) → length wanted ≡ 25 → length counts ≡ 25 → take i counts ≡ take i wanted → n ≡ get_or wanted i 0
      → take (i + 1) (set counts i n) ≡ take (i + 1) wanted
  same_step wanted counts n long many same e =
      take_more_set counts i n (omega (arith, low, many)) ∙ (λ k. same k ++ e k ∷ []) ∙ sym (take_more wanted i 0 (omega (arith, low, long)))

-- at the end nothing is left
pub none_left : (wanted left : List ℕ) (i : ℕ) → 25 ≤ i → left ≡ lines (drop i counters) (drop i wanted) → left ≡ []
none_left wanted left i high is = let long = are_25 in is ∙ ap (λ cs. lines cs (drop i wanted)) (drop_all i counters (omega (arith, high, long)))

-- then the text is that of the counts
pub end_only : (counts text left : List ℕ) (i : ℕ) → 25 ≤ i → length counts ≡ 25 → text ≡ lines (take i counters) (take i counts) ++ left → length left ≡ 0
    → text ≡ counts_text counts
end_only counts text [] i high long so none =
    so ∙ append-nil (lines (take i counters) (take i counts))
    ∙ (λ k. lines (take_all i counters (let l = are_25 in omega (arith, high, l)) k) (take_all i counts (omega (arith, high, long)) k)) ∙ sym (as_lines counts long)
end_only counts text (x ∷ left) i high long so none = absurd (omega (arith, none))

pub end_same : (counts wanted : List ℕ) (i : ℕ) → 25 ≤ i → length counts ≡ 25 → length wanted ≡ 25 → take i counts ≡ take i wanted → counts ≡ wanted
end_same counts wanted i high long many same = sym (take_all i counts (omega (arith, high, long))) ∙ same ∙ take_all i wanted (omega (arith, high, many))
