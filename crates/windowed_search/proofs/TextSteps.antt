-- A search of a memory for texts, step by step.
use Rattle.std.proofs.Common.{◌≡◌, inl, inr, ℕ, ◌+◌, ◌-◌, ◌^◌, ◌<◌, leb, cond, true, false, List, [], ◌∷◌, ◌++◌, length, take, filter, Vec, Global, None, refl, ap, sym, subst, ◌∙◌, arith}
use Rattle.std.specs.List.{flat_map}
use Rattle.std.proofs.lemmas.Bool.{cases_Bool, cond-true, cond-false}
use Rattle.std.proofs.lemmas.Grind.{flat_map-append}
use Rattle.std.proofs.lemmas.List.{append-nil, append_assoc, length-append}
use Rattle.std.proofs.Math.Seq.{take-append_seam}
use Rattle.address_space.specs.Occurrence.{is_long, is_text_at, is_text_value}
use Rattle.address_space.specs.Source.{Space, value_at}
use Rattle.windowed_search.specs.Runs.{values_from}
use Rattle.windowed_search.specs.TextBytes.{AreOf}
use Rattle.windowed_search.specs.TextWords.{AreTexts, HasTexts, NoText, text_values, texts_before}
use Rattle.windowed_search.specs.declared.memory_texts.FoundTexts.{FoundTexts}
use Rattle.windowed_search.specs.declared.memory_texts.MemoryTexts.{MemoryTexts}
use Rattle.windowed_search.proofs.TextLemmas.{run_of, texts_more}
use Rattle.windowed_search.proofs.Values.{values_split}

-- no address yet
pub no_texts : (space : Space) (m : MemoryTexts) → m.address ≡ 0 → m.count ≡ 0 → m.found.items ≡ [] → m.bytes.items ≡ [] → HasTexts space m
unfolding values_from
no_texts space m address count found bytes = record {
  start = 0;
  kept = [];
  text = [];
  joined = sym address;
  count = sym count;
  bytes = bytes;
  values = refl;
  all_text = tt;
  first = inl refl;
  told = found;
  lent = sym (ap (λ (xs : List (ℕ × ℕ)). flat_map (text_values space) xs) found);
}

are_both : (xs ys : List ℕ) → AreOf true xs → AreOf true ys → AreOf true (xs ++ ys)
are_both [] ys first second = second
are_both (x ∷ xs) ys first second = (first.0, are_both xs ys first.1 second)

-- bytes of text
pub more_text : (space : Space) (m n : MemoryTexts) (xs : List ℕ) → HasTexts space m → n.least ≡ m.least → n.address ≡ m.address + length xs → n.count ≡ m.count + length xs → n.found ≡ m.found → n.bytes.items ≡ m.bytes.items ++ xs
    → AreOf true xs → values_from space m.address (length xs) ≡ xs → HasTexts space n
more_text space m n xs so_far least address count found bytes are values =
    let start = so_far.start in
    let text = so_far.text in
    let long = length-append text xs in
    let joined = so_far.joined in
    let counted = so_far.count in
    record {
      start = start;
      kept = so_far.kept;
      text = text ++ xs;
      joined = omega (arith, long, joined, address);
      count = omega (arith, long, counted, count);
      bytes = bytes ∙ ap (λ b. b ++ xs) so_far.bytes ∙ append_assoc so_far.kept text xs;
      values =
          ap (values_from space start) long
          ∙ values_split space start (length text) (length xs)
          ∙ ap (λ b. b ++ values_from space (start + length text) (length xs)) so_far.values
          ∙ ap (λ a. text ++ values_from space a (length xs)) joined
          ∙ ap (λ b. text ++ b) values;
      all_text = are_both text xs so_far.all_text are;
      first = so_far.first;
      told = ap (λ (v : Vec (ℕ × ℕ) Global). v.items) found ∙ so_far.told ∙ ap (λ k. texts_before space k start) (sym least);
      lent = so_far.lent ∙ ap (λ (v : Vec (ℕ × ℕ) Global). flat_map (text_values space) v.items) (sym found);
    }

-- what is kept where a text ends
kept_then : (space : Space) (least start count : ℕ) (kept text bytes : List ℕ) (before found : List (ℕ × ℕ)) → length text ≡ count → values_from space start (length text) ≡ text → kept ≡ flat_map (text_values space) before
    → found ≡ before ++ filter (is_long least) ((start, count) ∷ []) → bytes ≡ cond (leb least count) (kept ++ text) (take (length (kept ++ text) - count) (kept ++ text)) → bytes ≡ flat_map (text_values space) found
kept_then space least start count kept text bytes before found long values lent told is =
    elim (cases_Bool (leb least count)) as (λ _. bytes ≡ flat_map (text_values space) found) [
      | inl fits ↦
          is
          ∙ cond-true (leb least count) _ _ fits
          ∙ ap (λ k. k ++ text) lent
          ∙ ap (λ t. flat_map (text_values space) before ++ t) (sym values ∙ ap (values_from space start) long ∙ sym (append-nil (values_from space start count)))
          ∙ sym (flat_map-append (text_values space) before ((start, count) ∷ []))
          ∙ ap (λ t. flat_map (text_values space) (before ++ t)) (sym (cond-true (leb least count) ((start, count) ∷ []) [] fits))
          ∙ ap (flat_map (text_values space)) (sym told)
      | inr short ↦
          let both = length-append kept text in
          let first : length (kept ++ text) - count ≡ length kept = omega (arith, both, long) in
          is
          ∙ cond-false (leb least count) _ _ short
          ∙ ap (λ k. take k (kept ++ text)) first
          ∙ take-append_seam kept text
          ∙ lent
          ∙ ap (flat_map (text_values space)) (sym (append-nil before) ∙ ap (λ t. before ++ t) (sym (cond-false (leb least count) ((start, count) ∷ []) [] short)) ∙ sym told)
    ]

-- a text ends, and n addresses without one come
module _ (space : Space) (m : MemoryTexts) (found : List (ℕ × ℕ)) (bytes : List ℕ) (n : ℕ) (so_far : HasTexts space m) (some : 0 < m.least) (fits : m.address < 2 ^ 64)
    (told : found ≡ m.found.items ++ filter (is_long m.least) ((m.address - m.count, m.count) ∷ []))
    (kept : bytes ≡ cond (leb m.least m.count) m.bytes.items (take (length m.bytes.items - m.count) m.bytes.items))
    (stop : is_text_at space m.address ≡ false) (none : NoText space m.address n) where
  told_start : found ≡ m.found.items ++ filter (is_long m.least) ((so_far.start, m.count) ∷ [])
  told_start =
      let joined = so_far.joined in
      let count = so_far.count in
      let at : m.address - m.count ≡ so_far.start = omega (arith, joined, count) in
      told ∙ ap (λ a. m.found.items ++ filter (is_long m.least) ((a, m.count) ∷ [])) at

  pub found_then : found ≡ texts_before space m.least (m.address + n)
  found_then =
      let start = so_far.start in
      let joined = so_far.joined in
      let count = so_far.count in
      let end : start + m.count ≡ m.address = omega (arith, joined, count) in
      let all : start + (m.count + n) ≡ m.address + n = omega (arith, end) in
      told_start
      ∙ ap (λ x. x ++ filter (is_long m.least) ((start, m.count) ∷ [])) so_far.told
      ∙ texts_more space m.least start m.count n some so_far.first
      (λ k less. run_of space true so_far.text start so_far.values so_far.all_text k (omega (arith, less, count)))
      (ap (is_text_at space) end ∙ stop) (subst (λ a. NoText space a n) (sym end) none) (omega (arith, end, fits))
      ∙ ap (texts_before space m.least) all

  pub bytes_then : bytes ≡ flat_map (text_values space) found
  bytes_then =
      kept_then space m.least so_far.start m.count so_far.kept so_far.text bytes m.found.items found so_far.count so_far.values so_far.lent told_start
      (subst (λ (b : List ℕ). bytes ≡ cond (leb m.least m.count) b (take (length b - m.count) b)) so_far.bytes kept)

pub texts_left : (space : Space) (m n : MemoryTexts) (count : ℕ) → HasTexts space m → 0 < m.least → 0 < count → m.address + count < 2 ^ 64 → n.least ≡ m.least → n.address ≡ m.address + count → n.count ≡ 0
    → n.found.items ≡ m.found.items ++ filter (is_long m.least) ((m.address - m.count, m.count) ∷ [])
    → n.bytes.items ≡ cond (leb m.least m.count) m.bytes.items (take (length m.bytes.items - m.count) m.bytes.items)
    → NoText space m.address count → HasTexts space n
unfolding values_from
texts_left space m n count so_far some more fits least address closed told kept none =
    let stop = none m.address (omega arith) (omega (arith, more)) in
    let low : m.address < 2 ^ 64 = omega (arith, fits) in
    record {
      start = n.address;
      kept = n.bytes.items;
      text = [];
      joined = omega arith;
      count = sym closed;
      bytes = sym (append-nil n.bytes.items);
      values = refl;
      all_text = tt;
      first = inr (none (n.address - 1) (omega (arith, address, more)) (omega (arith, address, more)));
      told =
          found_then space m n.found.items n.bytes.items count so_far some low told kept stop none
          ∙ ap (texts_before space m.least) (sym address)
          ∙ ap (λ k. texts_before space k n.address) (sym least);
      lent = bytes_then space m n.found.items n.bytes.items count so_far some low told kept stop none;
    }

pub texts_end : (space : Space) (m : MemoryTexts) (t : FoundTexts) → HasTexts space m → 0 < m.least → m.address < 2 ^ 64 → value_at space m.address ≡ None
    → t.places.items ≡ m.found.items ++ filter (is_long m.least) ((m.address - m.count, m.count) ∷ [])
    → t.bytes.items ≡ cond (leb m.least m.count) m.bytes.items (take (length m.bytes.items - m.count) m.bytes.items)
    → AreTexts space m.least m.address t
texts_end space m t so_far some fits value told kept =
    let stop : is_text_at space m.address ≡ false = ap is_text_value value in
    let all : m.address + 0 ≡ m.address = omega arith in
    record {
      told = found_then space m t.places.items t.bytes.items 0 so_far some fits told kept stop (λ b low high. absurd (omega (arith, low, high))) ∙ ap (texts_before space m.least) all;
      lent = bytes_then space m t.places.items t.bytes.items 0 so_far some fits told kept stop (λ b low high. absurd (omega (arith, low, high)));
    }
