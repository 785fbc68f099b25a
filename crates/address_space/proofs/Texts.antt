-- How far a text goes.
use Rattle.std.proofs.Common.{◌≡◌, ◌<◌, ◌≤◌, ℕ, zero, suc, ◌+◌, ◌-◌, ◌^◌, ◌&&◌, ◌||◌, not, eqb, Bool, true, false, List, length, get_or, Option, Some, refl, ap, subst, ◌∙◌, arith, inl, inr}
use Rattle.std.proofs.lemmas.Bool.{cond-true, cond-false, cases_lt, and_left, and_right, and_from, or_from, or_right, ne_eqb, not_from_true, not_from_false, true≢false, not-true, eqb-false}
use Rattle.address_space.specs.Source.{Space, value_at}
use Rattle.address_space.specs.Occurrence.{is_text_value, is_text_at, is_text_byte, text_len, begins_text}
use Rattle.address_space.specs.CursorWords.{IsPlaced, WantsValue}
use Rattle.address_space.specs.declared.cursor.Cursor.{Cursor}

-- m addresses with text are passed over
pub text_len_more : (space : Space) (m a n : ℕ) → ((k : ℕ) → k < m → is_text_at space (a + k) ≡ true) → text_len space a (m + n) ≡ m + text_len space (a + m) n
unfolding text_len
text_len_more space zero a n h =
    let e : zero + n ≡ n = omega arith in
    let f : a ≡ a + zero = omega arith in
    let g : text_len space (a + zero) n ≡ zero + text_len space (a + zero) n = omega arith in
    ap (text_len space a) e ∙ ap (λ b. text_len space b n) f ∙ g
text_len_more space (suc m) a n h =
    let e : suc m + n ≡ suc (m + n) = omega arith in
    let zeros : a + 0 ≡ a = omega arith in
    let next : a + 1 + m ≡ a + suc m = omega arith in
    let rest = text_len_more space m (a + 1) n (λ k l. let at : a + suc k ≡ a + 1 + k = omega arith in subst (λ b. is_text_at space b ≡ true) at (h (suc k) (omega arith))) in
    let sum : m + text_len space (a + 1 + m) n + 1 ≡ suc m + text_len space (a + 1 + m) n = omega arith in
    ap (text_len space a) e
    ∙ cond-true (is_text_at space a) _ _ (subst (λ b. is_text_at space b ≡ true) zeros (h 0 (omega arith)))
    ∙ ap (λ q. q + 1) rest
    ∙ sum
    ∙ ap (λ b. suc m + text_len space b n) next

-- an address without text ends it
pub text_len_stop : (space : Space) (a n : ℕ) → is_text_at space a ≡ false → text_len space a n ≡ 0
unfolding text_len
text_len_stop space a zero h = refl
text_len_stop space a (suc n) h = cond-false (is_text_at space a) _ _ h

nothing : (space : Space) (a : ℕ) → text_len space a 0 ≡ 0
unfolding text_len
nothing space a = refl

-- m addresses with text, and then one without
pub text_len_ends : (space : Space) (a n m : ℕ) → m ≤ n → ((k : ℕ) → k < m → is_text_at space (a + k) ≡ true) → (m < n → is_text_at space (a + m) ≡ false) → text_len space a n ≡ m
text_len_ends space a n m le text stop =
    let e : n ≡ m + (n - m) = omega arith in
    let sum : m + 0 ≡ m = omega arith in
    let last : text_len space (a + m) (n - m) ≡ 0 = elim (cases_lt m n) as (λ _. text_len space (a + m) (n - m) ≡ 0) [
      | inl less ↦ text_len_stop space (a + m) (n - m) (stop less)
      | inr all ↦ let z : n - m ≡ 0 = omega arith in ap (text_len space (a + m)) z ∙ nothing space (a + m)
    ] in
    ap (text_len space a) e ∙ text_len_more space m a (n - m) text ∙ ap (λ q. m + q) last ∙ sum

text_at : (space : Space) (b : ℕ) (x : ℕ) (t : Bool) → value_at space b ≡ Some x → is_text_byte x ≡ t → is_text_at space b ≡ t
text_at space b x t value is = ap is_text_value value ∙ is

-- the steps of the loop
module _ (space : Space) (a total at limit n : ℕ) (number : Option ℕ) (sofar : ℕ) (rest : total ≡ sofar + text_len space at (2 ^ 64 - at)) (bound : n ≤ 2 ^ 64 - at) where
  pub no_more : is_text_at space at ≡ false → total ≡ sofar
  no_more h = let e : sofar + 0 ≡ sofar = omega arith in rest ∙ ap (λ q. sofar + q) (text_len_stop space at (2 ^ 64 - at) h) ∙ e

  pub some_more : (b : List ℕ) → length b ≡ n → ((k : ℕ) → k < n → value_at space (at + k) ≡ Some (get_or b k 0)) → (m : ℕ) → m ≤ n → ((k : ℕ) → k < m → is_text_byte (get_or b k 0) ≡ true) → is_text_byte (get_or b m 0) ≡ false → m < n → total ≡ sofar + m
  some_more b size values m le text stop less =
      rest ∙ ap (λ q. sofar + q) (text_len_ends space at (2 ^ 64 - at) m (omega arith) (λ k h. text_at space (at + k) (get_or b k 0) true (values k (omega arith)) (text k h)) (λ h. text_at space (at + m) (get_or b m 0) false (values m less) stop))

  pub all_more : (b : List ℕ) → ((k : ℕ) → k < n → value_at space (at + k) ≡ Some (get_or b k 0)) → ((k : ℕ) → k < n → is_text_byte (get_or b k 0) ≡ true) → total ≡ sofar + n + text_len space (at + n) (2 ^ 64 - (at + n))
  all_more b values text =
      let e : 2 ^ 64 - at ≡ n + (2 ^ 64 - (at + n)) = omega arith in
      let t = text_len space (at + n) (2 ^ 64 - (at + n)) in
      let sum : sofar + (n + t) ≡ sofar + n + t = omega arith in
      rest ∙ ap (λ q. sofar + text_len space at q) e ∙ ap (λ q. sofar + q) (text_len_more space n at (2 ^ 64 - (at + n)) (λ k h. text_at space (at + k) (get_or b k 0) true (values k h) (text k h))) ∙ sum

-- where a text begins, and where none does
pub no_text : (space : Space) (b : ℕ) → is_text_at space b ≡ false → begins_text space b ≡ false
no_text space b h = and_left _ _ h

pub text_before : (space : Space) (b : ℕ) → 0 < b → is_text_at space (b - 1) ≡ true → begins_text space b ≡ false
text_before space b some h = and_right _ _ (or_from (eqb b 0) (not (is_text_at space (b - 1))) (ne_eqb b 0 (λ e. omega (arith, e))) (not_from_true _ h))

pub text_begins : (space : Space) (b : ℕ) → is_text_at space b ≡ true → (eqb b 0 || not (is_text_at space (b - 1))) ≡ true → begins_text space b ≡ true
text_begins space b h first = and_from _ _ h first

either : (p q : Bool) → (not p && q) ≡ false → (p || not q) ≡ true
either true q h = refl
either false true h = absurd (true≢false h)
either false false h = refl

pub first_of_all : (space : Space) (b : ℕ) → (not (eqb b 0) && is_text_at space (b - 1)) ≡ false → (eqb b 0 || not (is_text_at space (b - 1))) ≡ true
first_of_all space b h = either (eqb b 0) (is_text_at space (b - 1)) h

pub first_behind : (space : Space) (b : ℕ) → is_text_at space (b - 1) ≡ false → (eqb b 0 || not (is_text_at space (b - 1))) ≡ true
first_behind space b h = or_right (eqb b 0) (not (is_text_at space (b - 1))) (not_from_false _ h)

-- the values at hand of a cursor
module _ (space : Space) (c : Cursor) (p : IsPlaced space c) where
  pub text_here : (t : Bool) (k : ℕ) → k < length c.here.now → is_text_byte (get_or c.here.now k 0) ≡ t → is_text_at space (c.at + k) ≡ t
  text_here t k h is = text_at space (c.at + k) (get_or c.here.now k 0) t (p.values k h) is

  -- no text begins within a text
  pub none_within : (n : ℕ) → n ≤ length c.here.now → ((k : ℕ) → k < n → is_text_byte (get_or c.here.now k 0) ≡ true) → 0 < c.at → is_text_at space (c.at - 1) ≡ true → (k : ℕ) → k < n → begins_text space (c.at + k) ≡ false
  none_within n le text some before zero h = let zeros : c.at ≡ c.at + zero = omega arith in subst (λ b. begins_text space b ≡ false) zeros (text_before space c.at some before)
  none_within n le text some before (suc k) h =
      let e : c.at + k ≡ c.at + suc k - 1 = omega arith in
      text_before space (c.at + suc k) (omega arith) (subst (λ b. is_text_at space b ≡ true) e (text_here true k (omega arith) (text k (omega arith))))

  pub none_other : (n : ℕ) → n ≤ length c.here.now → ((k : ℕ) → k < n → is_text_byte (get_or c.here.now k 0) ≡ false) → (k : ℕ) → k < n → begins_text space (c.at + k) ≡ false
  none_other n le others k h = no_text space (c.at + k) (text_here false k (omega arith) (others k h))

  pub first_after : (n : ℕ) → 0 < n → n ≤ length c.here.now → ((k : ℕ) → k < n → is_text_byte (get_or c.here.now k 0) ≡ false) → (eqb (c.at + n) 0 || not (is_text_at space (c.at + n - 1))) ≡ true
  first_after n some le others =
      let e : c.at + (n - 1) ≡ c.at + n - 1 = omega arith in
      first_behind space (c.at + n) (subst (λ b. is_text_at space b ≡ false) e (text_here false (n - 1) (omega arith) (others (n - 1) (omega arith))))

  -- a text that begins at the address before these and goes over the first n of them
  goes_over : (n : ℕ) → n < length c.here.now → ((k : ℕ) → k < n → is_text_byte (get_or c.here.now k 0) ≡ true) → (a : ℕ) → a + 1 ≡ c.at → is_text_at space a ≡ true → (k : ℕ) → k < n + 1 → is_text_at space (a + k) ≡ true
  goes_over n less text a next first zero h = let e : a ≡ a + zero = omega arith in subst (λ b. is_text_at space b ≡ true) e first
  goes_over n less text a next first (suc k) h =
      let e : c.at + k ≡ a + suc k = omega arith in
      subst (λ b. is_text_at space b ≡ true) e (text_here true k (omega arith) (text k (omega arith)))

  -- it ends there, where the next one is no text
  pub ends_here : (n : ℕ) → n < length c.here.now → ((k : ℕ) → k < n → is_text_byte (get_or c.here.now k 0) ≡ true) → is_text_byte (get_or c.here.now n 0) ≡ false → (a : ℕ) → a + 1 ≡ c.at → is_text_at space a ≡ true → text_len space a (2 ^ 64 - a) ≡ n + 1
  ends_here n less text stop a next first =
      let fits = c.fits in
      let within = c.within in
      let e : c.at + n ≡ a + (n + 1) = omega arith in
      text_len_ends space a (2 ^ 64 - a) (n + 1) (omega arith) (goes_over n less text a next first) (λ h. subst (λ b. is_text_at space b ≡ false) e (text_here false n less stop))

pub above_zero : (a : ℕ) → not (eqb a 0) ≡ true → 0 < a
above_zero a h = let n = eqb-false a 0 (not-true (eqb a 0) h) in elim (cases_lt 0 a) as (λ _. 0 < a) [ inl some ↦ some | inr none ↦ absurd (n (omega arith)) ]

pub begins_wants : (space : Space) → WantsValue space (begins_text space)
begins_wants space a none = no_text space a (ap is_text_value none)
