-- What looks without a lock saw is an archive all the time.
use Rattle.std.proofs.Common.{◌≡◌, inl, inr, ⊎_elim, ℕ, zero, suc, ◌+◌, ◌-◌, ◌<◌, ◌≤◌, List, [], ◌∷◌, ◌++◌, length, take, drop, map, refl, sym, ap, ◌∙◌, subst, arith}
use Rattle.std.specs.List.{flat_map}
use Rattle.disk_model.specs.Places.{part}
use Rattle.intake.specs.Blocks.{block_bytes, block_start}
use Rattle.intake.specs.Durable.{Durable, FoundCase, durable_in, found_case, found_with}
use Rattle.intake.specs.InTurn.{AreInTurn, IsBetween, IsLater, StandsAs, last_state}
use Rattle.journal_layout.specs.Case.{Case}
use Rattle.journal_layout.specs.Layout.{data_start}
use Rattle.journal_layout.specs.ReadingLaws.{stands_once}
use Rattle.journal_layout.specs.Standing.{Standing}
use Rattle.journal_layout.specs.Stands.{Stands}
use Rattle.journal_layout.specs.declared.shape.Half.{Half}
use Rattle.journal_layout.specs.declared.shape.Shape.{Shape}
use Rattle.shared_disk.specs.History.{moment, AreMoments, AreMarked}
use Rattle.shared_disk.specs.HistoryLaws.{shape_at, stands_at}
use Rattle.shared_disk.specs.JournalLooks.{AreFew}
use Rattle.shared_disk.specs.Outcome.{WhatIsSeenIsAMoment, seen_over}
use Rattle.shared_disk.specs.declared.shared.SharedDisk as shared
use Rattle.archive_files.specs.History.{HoldsArchive}
use Rattle.archive_files.specs.Lockless.{IsFrontSeen, IsWatched, state_at, states_after}

-- behind what was read of the front, the bytes are those of the moment
drop_none : (p : ℕ) (xs : List ℕ) → length xs ≤ p → drop p (xs ++ []) ≡ []
drop_none zero [] short = refl
drop_none (suc p) [] short = refl
drop_none zero (x ∷ xs) short = absurd (omega (arith, short))
drop_none (suc p) (x ∷ xs) short = drop_none p xs (omega (arith, short))

drop_past : (front c : List ℕ) (p : ℕ) → length front ≤ p → drop p (front ++ drop (length front) c) ≡ drop p c
drop_past [] c p short = refl
drop_past (x ∷ xs) c zero short = absurd (omega (arith, short))
drop_past (x ∷ xs) [] (suc p) short = drop_none p xs (omega (arith, short))
drop_past (x ∷ xs) (y ∷ ys) (suc p) short = drop_past xs ys p (omega (arith, short))

module _ (shape : Shape) (front c : List ℕ) (long : length front ≡ data_start shape) where
  block_same : (k : ℕ) → block_bytes shape (seen_over front c) k ≡ block_bytes shape c k
  unfolding part
  block_same k = ap (take 4096) (drop_past front c (block_start shape k) (omega (arith, long)))

  blocks_same : (ks : List ℕ) → flat_map (block_bytes shape (seen_over front c)) ks ≡ flat_map (block_bytes shape c) ks
  blocks_same [] = refl
  blocks_same (k ∷ ks) = ap (λ (l : List ℕ). l ++ flat_map (block_bytes shape (seen_over front c)) ks) (block_same k) ∙ ap (λ (l : List ℕ). block_bytes shape c k ++ l) (blocks_same ks)

  cases_same : (cs : List Case) → map (found_case shape (seen_over front c)) cs ≡ map (found_case shape c) cs
  cases_same [] = refl
  cases_same (k ∷ ks) =
      ap (λ (l : List ℕ). found_with k (take k.len l) ∷ map (found_case shape (seen_over front c)) ks) (blocks_same k.blocks) ∙ ap (λ (fs : List FoundCase). found_case shape c k ∷ fs) (cases_same ks)

durable_same : (front c : List ℕ) (s : Standing) → length front ≡ data_start s.shape → durable_in (seen_over front c) s ≡ durable_in c s
durable_same front c s long = ap (λ (fs : List FoundCase). record { cases = fs; next = s.next; version = s.version }) (cases_same s.shape front c long s.cases)

-- states one after the other
in_turn : (state : ℕ → Durable) (i n : ℕ) → ((m : ℕ) → i ≤ m → m < i + n → IsLater (state m) (state (m + 1))) → AreInTurn (state i) (states_after state i n)
in_turn state i zero later = tt
in_turn state i (suc n) later = (later i (omega arith) (omega arith), in_turn state (i + 1) n (λ m low high. later m (omega (arith, low)) (omega (arith, high))))

last_is : (state : ℕ → Durable) (i n : ℕ) → last_state (state i) (states_after state i n) ≡ state (i + n)
last_is state i zero = let e : i ≡ i + zero = omega arith in ap state e
last_is state i (suc n) = last_is state (i + 1) n ∙ (let e : i + 1 + n ≡ i + suc n = omega arith in ap state e)

is_between : (state : ℕ → Durable) (i n m : ℕ) → m ≤ n → IsBetween (state i) (states_after state i n) (state (i + m))
is_between state i zero m few = let e : i + m ≡ i = omega (arith, few) in ap state e
is_between state i (suc n) zero few = let e : i + zero ≡ i = omega arith in inl (ap state e)
is_between state i (suc n) (suc m) few =
    let e : i + 1 + m ≡ i + suc m = omega arith in
    inr (subst (λ (k : ℕ). IsBetween (state (i + 1)) (states_after state (i + 1) n) (state k)) e (is_between state (i + 1) n m (omega (arith, few))))

module _ (law : WhatIsSeenIsAMoment) (moments : List (List ℕ)) (standing : ℕ → Standing) (mark : Half → ℕ → ℕ) (shape : Shape) (are : AreMoments moments standing) (marked : AreMarked moments (standing 0).shape mark) where
  -- what a look saw encodes what the disk did at its moment
  seen_stands : (front : List ℕ) (i j : ℕ) (look : IsFrontSeen moments shape front i j) → j < length moments → AreFew mark i j
      → StandsAs shape (seen_over front (moment moments look.seen.at)) (state_at moments standing look.seen.at) × ((standing 0).shape ≡ shape)
  seen_stands front i j look within few =
      let at = look.seen.at in
      let high = look.seen.until in
      let is = law moments standing mark i j shape look.half front look.opened are marked within few look.seen look.shaped look.opens in
      let here = stands_at moments standing are at (omega (arith, high, within)) in
      let same : is.0 ≡ standing at = stands_once (moment moments at) is.0 (standing at) is.3 here in
      let shaped : (standing at).shape ≡ shape = ap (λ (s : Standing). s.shape) (sym same) ∙ sym (ap (λ (f : _). f.shape) is.1) ∙ look.shaped in (
        record {
          standing = standing at;
          stands = subst (Stands (seen_over front (moment moments at))) same is.2;
          shaped = shaped;
          is = durable_same front (moment moments at) (standing at) (look.long ∙ ap data_start (sym shaped));
        },
        sym (shape_at moments standing are at (omega (arith, high, within))) ∙ shaped,
      )

  -- each moment is an archive
  moment_stands : (m : ℕ) → m < length moments → (standing 0).shape ≡ shape → StandsAs shape (moment moments m) (state_at moments standing m)
  moment_stands m within shaped = record {
    standing = standing m;
    stands = stands_at moments standing are m within;
    shaped = shape_at moments standing are m within ∙ shaped;
    is = refl;
  }

  module _ {S : Type 0} (g : shared.Ghosts S) (s : S) (watched : IsWatched g s moments shape) (few : AreFew mark watched.i watched.j) (few_again : AreFew mark watched.k watched.l)
      (later : (m : ℕ) → m + 1 < length moments → IsLater (state_at moments standing m) (state_at moments standing (m + 1))) where
    abbrev from : ℕ
    from = watched.look.seen.at

    abbrev to : ℕ
    to = watched.again.seen.at

    abbrev state : ℕ → Durable
    state = state_at moments standing

    first_low : watched.j < length moments
    first_low =
        let order = watched.order in
        let low = watched.again.seen.from in
        let high = watched.again.seen.until in
        let within = watched.within in
        omega (arith, order, low, high, within)

    ordered : from ≤ to
    ordered =
        let high = watched.look.seen.until in
        let order = watched.order in
        let low = watched.again.seen.from in
        omega (arith, high, order, low)

    reached : from + (to - from) ≡ to
    reached = let o = ordered in omega (arith, o)

    to_within : to < length moments
    to_within =
        let high = watched.again.seen.until in
        let within = watched.within in
        omega (arith, high, within)

    at_first : StandsAs shape (seen_over watched.first (moment moments from)) (state from) × ((standing 0).shape ≡ shape)
    at_first = seen_stands watched.first watched.i watched.j watched.look first_low few

    at_next : StandsAs shape (seen_over watched.second (moment moments to)) (state to)
    at_next = (seen_stands watched.second watched.k watched.l watched.again watched.within few_again).0

    abbrev states : List Durable
    states = states_after state from (to - from)

    last_there : last_state (state from) states ≡ state to
    last_there = last_is state from (to - from) ∙ ap state reached

    between : (m : ℕ) → from ≤ m → m ≤ to → IsBetween (state from) states (state m)
    between m low high =
        let e : from + (m - from) ≡ m = omega (arith, low) in
        subst (λ (k : ℕ). IsBetween (state from) states (state k)) e (is_between state from (to - from) (m - from) (omega (arith, low, high)))

    pub holds_archive : HoldsArchive g s shape (state from) states
    holds_archive = record {
      first = subst (λ (b : List ℕ). StandsAs shape b (state from)) (sym watched.looked) at_first.0;
      turn = in_turn state from (to - from) (λ m low high. later m (let r = reached in let w = to_within in omega (arith, high, r, w)));
      each = λ c held.
          ⊎_elim
          (λ is. (state from, between from (omega arith) ordered, subst (λ (b : List ℕ). StandsAs shape b (state from)) (sym (is ∙ watched.looked)) at_first.0))
          (λ rest.
          ⊎_elim
          (λ meanwhile.
          let high = meanwhile.2 in
          let w = to_within in
          (state meanwhile.0, between meanwhile.0 meanwhile.1 high, subst (λ (b : List ℕ). StandsAs shape b (state meanwhile.0)) (sym meanwhile.3) (moment_stands meanwhile.0 (omega (arith, high, w)) at_first.1)))
          (λ is. (state to, between to ordered (omega arith), subst (λ (b : List ℕ). StandsAs shape b (state to)) (sym is) at_next))
          rest)
          (watched.held c held);
      last = λ c ends. subst (λ (x : Durable). StandsAs shape c x) (sym last_there) (subst (λ (b : List ℕ). StandsAs shape b (state to)) (sym (watched.last c ends)) at_next);
    }
