-- The entries of an NT_FILE, one by one.
use Rattle.std.proofs.Common.{◌≡◌, ◌<◌, ◌+◌, ◌-◌, ◌*◌, ◌^◌, ◌&&◌, ℕ, zero, suc, Bool, true, false, leb, List, ◌∷◌, refl, sym, ap, ◌∙◌, arith}
use Rattle.std.specs.List.{range_with_len, list_all}
use Rattle.std.proofs.lemmas.Bool.{and_parts, leb-true}
use Rattle.core_notes.specs.FileList.{is_entry_sound, file_start, file_end, file_pages, page_size}

-- the first of the numbers that are left
pub range_step : (i n : ℕ) → 0 < n → range_with_len i n ≡ i ∷ range_with_len (i + 1) (n - 1)
range_step i zero h = absurd (omega arith)
range_step i (suc n) h =
    let less : n ≡ suc n - 1 = omega arith in ap (λ m. i ∷ range_with_len (i + 1) m) less

-- all that are left pass where the first does and the others do
pub all_step : (p : ℕ → Bool) (i n : ℕ) → 0 < n → list_all p (range_with_len i n) ≡ (p i && list_all p (range_with_len (i + 1) (n - 1)))
all_step p i n h = ap (list_all p) (range_step i n h)

-- the first entry that is left, and the others
pub first_sound : (d : List ℕ) (i n : ℕ) → 0 < n → list_all (is_entry_sound d) (range_with_len i n) ≡ true → (is_entry_sound d i ≡ true) × (list_all (is_entry_sound d) (range_with_len (i + 1) (n - 1)) ≡ true)
first_sound d i n h all = and_parts (is_entry_sound d i) (list_all (is_entry_sound d) (range_with_len (i + 1) (n - 1))) (sym (all_step (is_entry_sound d) i n h) ∙ all)

-- the place of an entry in its file is a u64
pub place_fits : (d : List ℕ) (i : ℕ) → is_entry_sound d i ≡ true → file_pages d i * page_size d < 2 ^ 64
place_fits d i h =
    let parts = and_parts (leb (file_start d i) (file_end d i)) (leb (file_pages d i * page_size d + (file_end d i - file_start d i)) (2 ^ 64 - 1)) h in
    let place = leb-true (file_pages d i * page_size d + (file_end d i - file_start d i)) (2 ^ 64 - 1) parts.1 in
    omega (arith, place)

pub none_past : (p : ℕ → Bool) (i n : ℕ) → n ≡ 0 → list_all p (range_with_len i n) ≡ true
none_past p i zero h = refl
none_past p i (suc n) h = absurd (omega arith)

-- one that passes leaves the others to be asked; one that fails decides
pub all_passes : (p : ℕ → Bool) (i n : ℕ) → i < n → true ≡ p i → list_all p (range_with_len i (n - i)) ≡ list_all p (range_with_len (i + 1) (n - (i + 1)))
all_passes p i n h passes =
    let some : 0 < n - i = omega arith in
    let less : n - i - 1 ≡ n - (i + 1) = omega arith in
    all_step p i (n - i) some ∙ ap (λ b. b && list_all p (range_with_len (i + 1) (n - i - 1))) (sym passes) ∙ ap (λ m. list_all p (range_with_len (i + 1) m)) less

pub all_fails : (p : ℕ → Bool) (i n : ℕ) → i < n → false ≡ p i → list_all p (range_with_len i (n - i)) ≡ false
all_fails p i n h fails =
    let some : 0 < n - i = omega arith in
    all_step p i (n - i) some ∙ ap (λ b. b && list_all p (range_with_len (i + 1) (n - i - 1))) (sym fails)
