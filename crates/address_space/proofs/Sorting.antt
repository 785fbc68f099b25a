-- The table of the extents that have addresses, compared with a scan of them all.
use Rattle.std.proofs.Common.{◌≡◌, ◌<◌, ◌≤◌, ℕ, ◌+◌, ◌-◌, leb, ltb, true, List, map, length, get_or, None, Some, Contains, AllPairs, min, ap, subst, ◌∙◌, arith}
use Rattle.std.specs.List.{AllAdjacentBelow, enumerate_from}
use Rattle.std.specs.List.Sorted.{IsNonDecreasingBy, IsPermutation}
use Rattle.std.proofs.Math.Logic.{∥∥₁_elim}
use Rattle.std.proofs.Props.{props}
use Rattle.std.proofs.lemmas.Bool.{lt-ltb, ltb-true, leb-true, and_parts}
use Rattle.std.proofs.lemmas.List.{length-map, get_or_default}
use Rattle.std.proofs.lemmas.List.Kept.{AllPairs-filter}
use Rattle.std.proofs.Math.ListN.{get_or-map}
use Rattle.address_space.specs.Source.{first_from}
use Rattle.address_space.specs.Disjoint.{AreApart, Extent, is_within, takes_addresses, taking_from}
use Rattle.address_space.specs.Ranges.{IsAlike}
use Rattle.address_space.specs.ScanWords.{past_of, row_view}
use Rattle.address_space.specs.declared.row.Row.{Row}
use Rattle.address_space.proofs.Pairs.{pairs_kept, pairs_enumerated}
use Rattle.address_space.proofs.Rows.{row_found, row_missed, never_two, some, element}
use Rattle.address_space.proofs.Scanning.{has, has_yes}

abbrev low : Extent → ℕ
low e = e.start

abbrev past : Extent → ℕ
past e = e.past

-- an extent that has an address takes addresses
taken : (d : ℕ × Extent) (b : ℕ) → has low past b d.1 ≡ true → takes_addresses d ≡ true
taken d b h =
    let parts = and_parts (leb d.1.start b) (ltb b d.1.past) h in
    let below = leb-true d.1.start b parts.0 in
    let above = ltb-true b d.1.past parts.1 in
    lt-ltb d.1.start d.1.past (omega arith)

-- one that takes addresses ends above its first
each : (d : ℕ × Extent) → takes_addresses d ≡ true → low d.1 < past d.1
each d h = ltb-true d.1.start d.1.past h

module _ (rows : List Row) (rising : IsNonDecreasingBy (λ (r : Row). r.start) rows) where
  module _ (apart : AllAdjacentBelow (λ (r s : Row). past_of r ≤ s.start) rows (length rows)) (ws : List Extent) where
    -- each row ends before every later one begins
    far : (i j : ℕ) (d : Row) → i < j → j < length rows → past_of (get_or rows i d) ≤ (get_or rows j d).start
    far i j d less h =
        let next = apart i d (omega arith) in
        let up = rising (i + 1) j d (omega arith) h in
        omega arith

    -- a row has the address
    pub found : ∥ IsPermutation (taking_from 0 ws) (map row_view rows) ∥₁ → (a limit m : ℕ) (row : Row) → 0 < limit → Contains rows row → row.start ≤ a → a < past_of row → m ≡ min limit (past_of row - a) → (first_from (is_within a) 0 ws ≡ Some (row_view row)) × IsAlike (λ b. first_from (is_within b) 0 ws) a limit m
    found moved a limit m row positive c p q is =
        ∥∥₁_elim moved (hlevel props) (λ l. row_found low past takes_addresses taken each ws row_view rows l far a limit m row positive c p q is)

    -- no row has it
    pub missed : ∥ IsPermutation (taking_from 0 ws) (map row_view rows) ∥₁ → (a limit m n : ℕ) → 0 < limit → ((k : ℕ) (d : Row) → k < n → past_of (get_or rows k d) ≤ a) → ((k : ℕ) (d : Row) → n ≤ k → k < length rows → a < (get_or rows k d).start) → ((d : Row) → n < length rows → m ≡ min limit ((get_or rows n d).start - a)) → (length rows ≤ n → m ≡ limit) → (first_from (is_within a) 0 ws ≡ None) × IsAlike (λ b. first_from (is_within b) 0 ws) a limit m
    missed moved a limit m n positive ended begins before all =
        ∥∥₁_elim moved (hlevel props) (λ l. row_missed low past takes_addresses taken each ws row_view rows l far a limit n positive ended begins rising m before all)

    -- no two of the extents have one address
    pub disjoint : IsPermutation (taking_from 0 ws) (map row_view rows) → AllPairs (AreApart is_within) ws
    disjoint moved = never_two low past takes_addresses taken each ws row_view rows moved far

  -- one that begins before the end of the one before
  pub overlapping : (ws : List Extent) → IsPermutation (taking_from 0 ws) (map row_view rows) → (k : ℕ) → k + 1 < length rows → ((d : Row) → (get_or rows (k + 1) d).start < past_of (get_or rows k d)) → AllPairs (AreApart is_within) ws → ⊥
  overlapping ws moved k h over disjoint =
      let z = element rows k (omega arith) in
      let one = get_or rows k z in
      let next = get_or rows (k + 1) z in
      let pairs = pairs_kept (λ (d e : ℕ × Extent). AreApart is_within d.1 e.1) (λ x y r a p q. r a q p) (taking_from 0 ws) (map row_view rows) moved (AllPairs-filter (λ (d e : ℕ × Extent). AreApart is_within d.1 e.1) takes_addresses (enumerate_from 0 ws) (pairs_enumerated (AreApart is_within) 0 ws disjoint)) in
      let wide = some low past takes_addresses each ws (map row_view rows) moved in
      let long : k + 1 < length (map row_view rows) = rw length-map h in
      let first = get_or-map row_view rows k z in
      let second = get_or-map row_view rows (k + 1) z in
      let two = pairs k (k + 1) (row_view z) (omega arith) long in
      let two_rows = subst (λ (x : ℕ × Extent). AreApart is_within x.1 (row_view next).1) first (subst (λ (y : ℕ × Extent). AreApart is_within (get_or (map row_view rows) k (row_view z)).1 y.1) second two) in
      let wide_next = subst (λ (y : ℕ × Extent). low y.1 < past y.1) second (wide (k + 1) (row_view z) long) in
      let up = rising k (k + 1) z (omega arith) h in
      two_rows next.start (has_yes low past next.start (row_view one).1 up (over z)) (has_yes low past next.start (row_view next).1 (omega arith) wide_next)

  -- the test of one and the one before
  pub is_over : (n size : ℕ) (z w : Row) → 0 < n → n < length rows → (get_or rows n z).start - (get_or rows (n - 1) w).start < size → size ≡ (get_or rows (n - 1) w).size → (d : Row) → (get_or rows (n - 1 + 1) d).start < past_of (get_or rows (n - 1) d)
  is_over n size z w positive h near is d =
      let up = rising (n - 1) n d (omega arith) h in
      let here : (get_or rows n z).start ≡ (get_or rows n d).start = ap (λ (x : Row). x.start) (get_or_default rows n z d h) in
      let there : (get_or rows (n - 1) w).start ≡ (get_or rows (n - 1) d).start = ap (λ (x : Row). x.start) (get_or_default rows (n - 1) w d (omega arith)) in
      let wide : size ≡ (get_or rows (n - 1) d).size = is ∙ ap (λ (x : Row). x.size) (get_or_default rows (n - 1) w d (omega arith)) in
      let same : n - 1 + 1 ≡ n = omega arith in
      rw same (omega arith)

-- how many of its addresses are left
pub left_of : (row : Row) (at : ℕ) → row.start ≤ at → row.size - (at - row.start) ≡ past_of row - at
left_of row at h = omega arith
