-- How runs of disk calls go on and are put together.
use Rattle.std.proofs.Common.{◌∙◌, ◌+◌, ◌≡◌, ◌⊎◌, inl, inr, ⊎_elim, ℕ, ◌≤◌, List, arith}
use Rattle.disk_model.specs.Disk.{Elapses, ChangedIn}
use Rattle.disk_model.specs.Moments.{LeavesOnly, AddsOnly}
use Rattle.disk_model.specs.Places.{part}
use Rattle.disk_model.specs.PlaceLaws.{same_as_it_was}
use Rattle.disk_model.specs.PartLaws.{part_spared, widened, same_twice}
use Rattle.disk_model.specs.declared.disk.Disk as disk

-- an outcome is one that is changed nowhere
pub changed_nowhere : (at n : ℕ) (outcomes : List ℕ → Type 0) (c : List ℕ) → outcomes c → ChangedIn at n outcomes c
changed_nowhere at n outcomes c left = (c, left, same_as_it_was at n c)

-- the bytes that all outcomes have in a part outside the range are there after the change too
pub changed_part : (at n : ℕ) (outcomes : List ℕ → Type 0) (p m : ℕ) (bytes : List ℕ) → (p + m ≤ at) ⊎ (at + n ≤ p) → ((d : List ℕ) → outcomes d → part d p m ≡ bytes)
    → (c : List ℕ) → ChangedIn at n outcomes c → part c p m ≡ bytes
changed_part at n outcomes p m bytes outside all c changed = part_spared at n changed.0 c changed.2 p m outside ∙ all changed.0 changed.1

-- a change in a range that holds the range
pub changed_wider : (at n p m : ℕ) (outcomes : List ℕ → Type 0) → p ≤ at → at + n ≤ p + m → (c : List ℕ) → ChangedIn at n outcomes c → ChangedIn p m outcomes c
changed_wider at n p m outcomes low high c changed = (changed.0, changed.1, widened at n changed.0 c changed.2 p m low high)

-- a change of a change in the same range
pub changed_twice : (at n : ℕ) (outcomes : List ℕ → Type 0) (c : List ℕ) → ChangedIn at n (ChangedIn at n outcomes) c → ChangedIn at n outcomes c
changed_twice at n outcomes c changed =
    (changed.1.0, changed.1.1, same_twice at n changed.1.0 changed.0 c changed.1.2 changed.2)

module _ {D : Type 0} (g : disk.Ghosts D) where
  -- before the first call
  pub started : (old : D) (P : List ℕ → Type 0) → ((c : List ℕ) → g.left_since old (g.clock old) c → P c) → LeavesOnly g old old P
  started old P here = record { later = omega arith; each = here; before = λ t c le left. inl left }

  -- one more disk call, after which a crash leaves bytes that have P
  pub goes_on : (old mid new : D) (P : List ℕ → Type 0) → LeavesOnly g old mid P → Elapses g.clock g.may_leave g.left_since mid new
      → ((c : List ℕ) → g.may_leave new c → P c) → LeavesOnly g old new P
  goes_on old mid new P so_far time here = record {
    later = omega (arith, so_far.later, time.later);
    each = λ c left. ⊎_elim (so_far.each c) (here c) (time.nothing_else (g.clock old) c so_far.later left);
    before = λ t c le left. ⊎_elim (so_far.before t c le) (λ now. inr (here c now)) (time.nothing_else t c (omega (arith, le, so_far.later)) left);
  }

  -- one disk call after which a crash leaves nothing new
  pub stays : (old new : D) (P : List ℕ → Type 0) → ((c : List ℕ) → g.left_since old (g.clock old) c → P c) → Elapses g.clock g.may_leave g.left_since old new
      → ((c : List ℕ) → g.may_leave new c → P c) → LeavesOnly g old new P
  stays old new P here time now = goes_on old old new P (started old P here) time now

  -- two runs, one after the other
  pub then_also : (old mid new : D) (P Q : List ℕ → Type 0) → LeavesOnly g old mid P → LeavesOnly g mid new Q → LeavesOnly g old new (λ c. P c ⊎ Q c)
  then_also old mid new P Q first second = record {
    later = omega (arith, first.later, second.later);
    each = λ c left. ⊎_elim (λ was. inl (first.each c was)) (λ q. inr q) (second.before (g.clock old) c first.later left);
    before = λ t c le left. ⊎_elim
        (λ was. ⊎_elim (λ earlier. inl earlier) (λ p. inr (inl p)) (first.before t c le was))
        (λ q. inr (inr q))
        (second.before t c (omega (arith, le, first.later)) left);
  }

  -- each list that has P has Q
  pub weakened : (old new : D) (P Q : List ℕ → Type 0) → ((c : List ℕ) → P c → Q c) → LeavesOnly g old new P → LeavesOnly g old new Q
  weakened old new P Q implies so_far = record {
    later = so_far.later;
    each = λ c left. implies c (so_far.each c left);
    before = λ t c le left. ⊎_elim (λ was. inl was) (λ p. inr (implies c p)) (so_far.before t c le left);
  }

  -- the same P in both runs
  pub then_again : (old mid new : D) (P : List ℕ → Type 0) → LeavesOnly g old mid P → LeavesOnly g mid new P → LeavesOnly g old new P
  then_again old mid new P first second =
      weakened old new (λ c. P c ⊎ P c) P (λ c either. ⊎_elim (λ p. p) (λ p. p) either) (then_also old mid new P P first second)

  -- two facts of the same run
  pub both : (old new : D) (P Q : List ℕ → Type 0) → LeavesOnly g old new P → LeavesOnly g old new Q → LeavesOnly g old new (λ c. P c × Q c)
  both old new P Q first second = record {
    later = first.later;
    each = λ c left. (first.each c left, second.each c left);
    before = λ t c le left. ⊎_elim
        (λ was. inl was)
        (λ p. ⊎_elim (λ was. inl was) (λ q. inr (p, q)) (second.before t c le left))
        (first.before t c le left);
  }

  -- a crash now is one of them
  pub now_too : (old new : D) (P : List ℕ → Type 0) → LeavesOnly g old new P → ((t : ℕ) (c : List ℕ) → t ≤ g.clock new → g.may_leave new c → g.left_since new t c)
      → (c : List ℕ) → g.may_leave new c → P c
  now_too old new P so_far counts c left = so_far.each c (counts (g.clock old) c so_far.later left)

  -- all this for `AddsOnly`
  pub adds : (old new : D) (P : List ℕ → Type 0) → LeavesOnly g old new P → AddsOnly g old new P
  adds old new P so_far = record { later = so_far.later; added = so_far.before }

  pub adds_nothing : (old : D) (P : List ℕ → Type 0) → AddsOnly g old old P
  adds_nothing old P = record { later = omega arith; added = λ t c le left. inl left }

  pub adds_on : (old mid new : D) (P : List ℕ → Type 0) → AddsOnly g old mid P → Elapses g.clock g.may_leave g.left_since mid new
      → ((c : List ℕ) → g.may_leave new c → P c) → AddsOnly g old new P
  adds_on old mid new P so_far time here = record {
    later = omega (arith, so_far.later, time.later);
    added = λ t c le left. ⊎_elim (so_far.added t c le) (λ now. inr (here c now)) (time.nothing_else t c (omega (arith, le, so_far.later)) left);
  }

  pub adds_weakened : (old new : D) (P Q : List ℕ → Type 0) → ((c : List ℕ) → P c → Q c) → AddsOnly g old new P → AddsOnly g old new Q
  adds_weakened old new P Q implies so_far = record {
    later = so_far.later;
    added = λ t c le left. ⊎_elim (λ was. inl was) (λ p. inr (implies c p)) (so_far.added t c le left);
  }

  pub adds_also : (old mid new : D) (P Q : List ℕ → Type 0) → AddsOnly g old mid P → AddsOnly g mid new Q → AddsOnly g old new (λ c. P c ⊎ Q c)
  adds_also old mid new P Q first second = record {
    later = omega (arith, first.later, second.later);
    added = λ t c le left. ⊎_elim
        (λ was. ⊎_elim (λ earlier. inl earlier) (λ p. inr (inl p)) (first.added t c le was))
        (λ q. inr (inr q))
        (second.added t c (omega (arith, le, first.later)) left);
  }

  pub adds_again : (old mid new : D) (P : List ℕ → Type 0) → AddsOnly g old mid P → AddsOnly g mid new P → AddsOnly g old new P
  adds_again old mid new P first second =
      adds_weakened old new (λ c. P c ⊎ P c) P (λ c either. ⊎_elim (λ p. p) (λ p. p) either) (adds_also old mid new P P first second)
