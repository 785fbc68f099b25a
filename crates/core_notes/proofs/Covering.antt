-- The first entry of an NT_FILE that maps an address, without the names.
use Rattle.std.proofs.Common.{◌≡◌, ◌<◌, ◌≤◌, ◌+◌, ◌-◌, ◌*◌, ◌^◌, ◌&&◌, ℕ, zero, suc, Bool, true, false, leb, ltb, cond, find, List, drop, Option, Some, None, refl, sym, ap, ◌∙◌, arith}
use Rattle.std.specs.List.{range_with_len, list_all, enumerate_from}
use Rattle.std.specs.Option.{option_map}
use Rattle.std.proofs.lemmas.Bool.{and_parts, leb-true}
use Rattle.core_notes.specs.FileList.{FileView, EntryView, is_mapping, unnamed, entry_of, first_mapping, files_from, files_of, file_count, names_at, file_start, file_end, file_pages, page_size, is_entry_sound}
use Rattle.core_notes.proofs.Entries.{range_step}

-- what holds of all of some numbers in a row holds of each
pub all_at : (p : ℕ → Bool) (i n k : ℕ) → k < n → list_all p (range_with_len i n) ≡ true → p (i + k) ≡ true
all_at p i zero k lt all = absurd (omega arith)
all_at p i (suc n) zero lt all =
    let place : i ≡ i + 0 = omega arith in sym (ap p place) ∙ (and_parts (p i) (list_all p (range_with_len (i + 1) n)) all).0
all_at p i (suc n) (suc k) lt all =
    let place : i + 1 + k ≡ i + suc k = omega arith in
    sym (ap p place) ∙ all_at p (i + 1) n k (omega arith) (and_parts (p i) (list_all p (range_with_len (i + 1) n)) all).1

-- an entry among those that are sound does not end before it starts, and its last place is a u64
pub entry_fits : (d : List ℕ) (i n : ℕ) → i < n → list_all (is_entry_sound d) (range_with_len 0 n) ≡ true → (file_start d i ≤ file_end d i) × (file_pages d i * page_size d + (file_end d i - file_start d i) < 2 ^ 64)
entry_fits d i n lt all =
    let place : 0 + i ≡ i = omega arith in
    let parts = and_parts (leb (file_start d i) (file_end d i)) (leb (file_pages d i * page_size d + (file_end d i - file_start d i)) (2 ^ 64 - 1)) (sym (ap (is_entry_sound d) place) ∙ all_at (is_entry_sound d) 0 n i lt all) in
    let last = leb-true (file_pages d i * page_size d + (file_end d i - file_start d i)) (2 ^ 64 - 1) parts.1 in
    (leb-true (file_start d i) (file_end d i) parts.0, omega (arith, last))

-- whether entry i maps an address
abbrev pub is_entry_mapping : List ℕ → ℕ → ℕ → Bool
is_entry_mapping d a i = leb (file_start d i) a && ltb a (file_end d i)

either : (d : List ℕ) (t : Bool) (e : ℕ × FileView) (i : ℕ) (x : Option (ℕ × FileView)) (y : Option ℕ) → unnamed e ≡ entry_of d i → option_map unnamed x ≡ option_map (entry_of d) y → option_map unnamed (cond t (Some e) x) ≡ option_map (entry_of d) (cond t (Some i) y)
either d true e i x y same others = ap Some same
either d false e i x y same others = others

-- the first of n files that maps an address is the first of their entries that does
pub first_unnamed : (d : List ℕ) (a i n : ℕ) (names : List ℕ) → option_map unnamed (find (λ (e : ℕ × FileView). is_mapping a e.1) (enumerate_from i (files_from d i n names))) ≡ option_map (entry_of d) (find (is_entry_mapping d a) (range_with_len i n))
first_unnamed d a i zero names = refl
first_unnamed d a i (suc n) names =
    either d (is_entry_mapping d a i) _ i _ _ refl (first_unnamed d a (i + 1) n _)

-- the first of the numbers that are left: it passes, or the others are asked
pub find_hit : (p : ℕ → Bool) (i n : ℕ) → i < n → p i ≡ true → find p (range_with_len i (n - i)) ≡ Some i
find_hit p i n lt passes =
    ap (find p) (range_step i (n - i) (omega arith)) ∙ ap (λ t. cond t (Some i) (find p (range_with_len (i + 1) (n - i - 1)))) passes

pub find_miss : (p : ℕ → Bool) (i n : ℕ) → i < n → p i ≡ false → find p (range_with_len i (n - i)) ≡ find p (range_with_len (i + 1) (n - (i + 1)))
find_miss p i n lt fails =
    let less : n - i - 1 ≡ n - (i + 1) = omega arith in
    ap (find p) (range_step i (n - i) (omega arith)) ∙ ap (λ t. cond t (Some i) (find p (range_with_len (i + 1) (n - i - 1)))) fails ∙ ap (λ m. find p (range_with_len (i + 1) m)) less

pub find_past : (p : ℕ → Bool) (i n : ℕ) → n ≡ 0 → find p (range_with_len i n) ≡ None
find_past p i zero h = refl
find_past p i (suc n) h = absurd (omega arith)

-- what is found among the entries is what is asked of the files
pub covering_is : (d : List ℕ) (a n : ℕ) (o : Option ℕ) → n ≡ file_count d → find (is_entry_mapping d a) (range_with_len 0 n) ≡ o → option_map (entry_of d) o ≡ option_map unnamed (first_mapping a (files_of d))
covering_is d a n o count is =
    sym (first_unnamed d a 0 (file_count d) (drop (names_at d) d) ∙ ap (λ m. option_map (entry_of d) (find (is_entry_mapping d a) (range_with_len 0 m))) (sym count) ∙ ap (option_map (entry_of d)) is)

-- a test of an entry that was read
pub tested : (d : List ℕ) (a i : ℕ) (e : EntryView) (b : Bool) → b ≡ (leb e.start a && ltb a e.past) → e ≡ entry_of d i → is_entry_mapping d a i ≡ b
tested d a i e b test is = sym (test ∙ ap (λ (x : EntryView). leb x.start a && ltb a x.past) is)
