-- The laws of stretches, texts and cut segments.
use Rattle.std.proofs.Common.{◌≡◌, ◌<◌, ◌≤◌, ◌⊎◌, ◌↔◌, ℕ, zero, suc, ◌+◌, ◌-◌, ◌^◌, ◌||◌, not, eqb, cond, Bool, true, false, List, [], ◌∷◌, length, drop, get_or, refl, sym, ap, subst, ◌∙◌, arith, inl, inr}
use Rattle.std.proofs.lemmas.Bool.{and_parts, not-true, eqb-true, cond-true, cond-false, cases_lt, cases_Bool, false≢true}
use Rattle.std.proofs.lemmas.List.{length-take, length-drop, get_or-take, get_or-drop}
use Rattle.elf_view.specs.Header.{segment_from}
use Rattle.address_space.specs.Source.{Space}
use Rattle.address_space.specs.Pieces.{grown, stretches}
use Rattle.address_space.specs.Occurrence.{is_text_at, begins_text, text_len}
use Rattle.address_space.specs.Coverage.{IsFirst, IsPartition, IsText}

joined_more : (same : ℕ → ℕ → Bool) (a m : ℕ) → same a (a + 1) ≡ true → ((k : ℕ) → k + 1 < m → same (a + 1 + k) (a + 1 + k + 1) ≡ true) → (k : ℕ) → k + 1 < m + 1 → same (a + k) (a + k + 1) ≡ true
joined_more same a m first rest zero h = let e : a ≡ a + zero = omega arith in subst (λ b. same b (b + 1) ≡ true) e first
joined_more same a m first rest (suc k) h = let e : a + 1 + k ≡ a + suc k = omega arith in subst (λ b. same b (b + 1) ≡ true) e (rest k (omega arith))

one_first : (same : ℕ → ℕ → Bool) (a n : ℕ) → (0 < n → same a (a + 1) ≡ false) → IsFirst same a (suc n) (a, 1)
one_first same a n h = record {
  first = refl;
  some = omega arith;
  within = omega arith;
  joined = λ k l. absurd (omega arith);
  apart = λ l. let e : a ≡ a + 1 - 1 = omega arith in subst (λ b. same b (a + 1) ≡ false) e (h (omega arith));
}

grown_partition : (same : ℕ → ℕ → Bool) (a n : ℕ) (xs : List (ℕ × ℕ)) → IsPartition same (a + 1) n xs → IsPartition same a (suc n) (grown same a xs)
grown_partition same a n [] none =
    let e : suc n - 1 ≡ 0 = omega (arith, none) in
    (one_first same a n (λ l. absurd (omega (arith, none))), e)
grown_partition same a n (x ∷ xs) both =
    let at = both.0.first in
    let some = both.0.some in
    let within = both.0.within in
    elim (cases_Bool (same a x.0)) as (λ _. IsPartition same a (suc n) (cond (same a x.0) ((a, x.1 + 1) ∷ xs) ((a, 1) ∷ x ∷ xs))) [
      | inl joins ↦
          let e : a + 1 + x.1 ≡ a + (x.1 + 1) = omega arith in
          let f : n - x.1 ≡ suc n - (x.1 + 1) = omega arith in
          let g : a + 1 + x.1 - 1 ≡ a + (x.1 + 1) - 1 = omega arith in
          let one : IsFirst same a (suc n) (a, x.1 + 1) = record {
            first = refl;
            some = omega arith;
            within = omega arith;
            joined = joined_more same a x.1 (ap (same a) (sym at) ∙ joins) both.0.joined;
            apart = λ l. subst (λ b. same b (a + (x.1 + 1)) ≡ false) g (subst (λ b. same (a + 1 + x.1 - 1) b ≡ false) e (both.0.apart (omega arith)));
          } in
          rw (cond-true (same a x.0) ((a, x.1 + 1) ∷ xs) ((a, 1) ∷ x ∷ xs) joins) (one, subst (λ q. IsPartition same (a + (x.1 + 1)) q xs) f (subst (λ b. IsPartition same b (n - x.1) xs) e both.1))
      | inr apart ↦
          let e : n ≡ suc n - 1 = omega arith in
          rw (cond-false (same a x.0) ((a, x.1 + 1) ∷ xs) ((a, 1) ∷ x ∷ xs) apart) (one_first same a n (λ l. ap (same a) (sym at) ∙ apart), subst (λ q. IsPartition same (a + 1) q (x ∷ xs)) e both)
    ]

pub partition : (same : ℕ → ℕ → Bool) (a n : ℕ) → IsPartition same a n (stretches same a n)
unfolding stretches
partition same a zero = refl
partition same a (suc n) = grown_partition same a n (stretches same (a + 1) n) (partition same (a + 1) n)

len_yes : (space : Space) (a n : ℕ) → is_text_at space a ≡ true → text_len space a (suc n) ≡ text_len space (a + 1) n + 1
unfolding text_len
len_yes space a n h = cond-true (is_text_at space a) _ _ h

len_no : (space : Space) (a n : ℕ) → is_text_at space a ≡ false → text_len space a (suc n) ≡ 0
unfolding text_len
len_no space a n h = cond-false (is_text_at space a) _ _ h

len_none : (space : Space) (a : ℕ) → text_len space a 0 ≡ 0
unfolding text_len
len_none space a = refl

bytes_behind : (space : Space) (a n m : ℕ) → m ≡ n + 1 → is_text_at space a ≡ true → ((k : ℕ) → k < n → is_text_at space (a + 1 + k) ≡ true) → (k : ℕ) → k < m → is_text_at space (a + k) ≡ true
bytes_behind space a n m size text rest zero h = let e : a ≡ a + zero = omega arith in subst (λ b. is_text_at space b ≡ true) e text
bytes_behind space a n m size text rest (suc k) h = let e : a + 1 + k ≡ a + suc k = omega arith in subst (λ b. is_text_at space b ≡ true) e (rest k (omega arith))

-- a text is as long as can be
pub record IsLongest (space : Space) (a n m : ℕ) : Type 0 where
  pub within : m ≤ n
  pub bytes : (k : ℕ) → k < m → is_text_at space (a + k) ≡ true
  pub behind : m < n → is_text_at space (a + m) ≡ false

longest : (space : Space) (n a m : ℕ) → m ≡ text_len space a n → IsLongest space a n m
longest space zero a m h =
    let none = h ∙ len_none space a in record {
      within = omega (arith, none);
      bytes = λ k l. absurd (omega (arith, none));
      behind = λ l. absurd (omega (arith, none));
    }
longest space (suc n) a m h = elim (cases_Bool (is_text_at space a)) as (λ _. IsLongest space a (suc n) m) [
  | inl text ↦
      let size = h ∙ len_yes space a n text in
      let rest = longest space n (a + 1) (text_len space (a + 1) n) refl in
      let bound = rest.within in
      let place : a + 1 + text_len space (a + 1) n ≡ a + m = omega (arith, size) in
      record {
        within = omega (arith, size, bound);
        bytes = bytes_behind space a (text_len space (a + 1) n) m size text rest.bytes;
        behind = λ l. subst (λ b. is_text_at space b ≡ false) place (rest.behind (omega (arith, size)));
      }
  | inr other ↦
      let size = h ∙ len_no space a n other in
      let place : a ≡ a + m = omega (arith, size) in
      record {
        within = omega (arith, size);
        bytes = λ k l. absurd (omega (arith, size));
        behind = λ l. subst (λ b. is_text_at space b ≡ false) place other;
      }
]

front_of : (p q : Bool) → (p || not q) ≡ true → (p ≡ true) ⊎ (q ≡ false)
front_of true q h = inl refl
front_of false q h = inr (not-true q h)

pub is_text : (space : Space) (a : ℕ) → a < 2 ^ 64 → begins_text space a ≡ true → IsText space a (text_len space a (2 ^ 64 - a))
is_text space a bound begins =
    let parts = and_parts (is_text_at space a) (eqb a 0 || not (is_text_at space (a - 1))) begins in
    let m = text_len space a (2 ^ 64 - a) in
    let all = longest space (2 ^ 64 - a) a m refl in
    let within = all.within in
    let zeros : a + 0 ≡ a = omega arith in
    let some : 0 < m = elim (cases_lt 0 m) as (λ _. 0 < m) [
      | inl some ↦ some
      | inr none ↦
          let e : a + m ≡ a = omega arith in
          absurd (false≢true (sym (subst (λ b. is_text_at space b ≡ false) e (all.behind (omega arith))) ∙ parts.0))
    ] in
    record {
      some = some;
      within = omega arith;
      bytes = all.bytes;
      front = elim (front_of (eqb a 0) (is_text_at space (a - 1)) parts.1) as (λ _. (a ≡ 0) ⊎ (is_text_at space (a - 1) ≡ false)) [ inl zero_is ↦ inl (eqb-true a 0 zero_is) | inr other ↦ inr other ];
      behind = λ l. all.behind (omega arith);
    }

-- the bytes of a segment and those of the image
pub held_len : (b : List ℕ) (p k : ℕ) → k < (segment_from b p).filesz → (length (segment_from b p).bytes ≤ k) ↔ (length b ≤ (segment_from b p).offset + k)
unfolding segment_from
held_len b p k h =
    let size = length-take (segment_from b p).filesz (drop (segment_from b p).offset b) in
    let rest = length-drop (segment_from b p).offset b in
    (λ l. omega (arith, size, rest, l, h), λ l. omega (arith, size, rest, l, h))

pub held_byte : (b : List ℕ) (p k : ℕ) → k < (segment_from b p).filesz → get_or (segment_from b p).bytes k 0 ≡ get_or b ((segment_from b p).offset + k) 0
unfolding segment_from
held_byte b p k h = get_or-take (segment_from b p).filesz (drop (segment_from b p).offset b) k 0 h ∙ get_or-drop (segment_from b p).offset b k 0
