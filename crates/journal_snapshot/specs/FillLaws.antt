-- How runs of writes into one range are put together.
use Rattle.std.proofs.Common.{◌≡◌, ◌∙◌, ◌+◌, ◌++◌, ℕ, ◌≤◌, List, IsTrue, refl, subst, sym, ap, arith}
use Rattle.disk_model.specs.Disk.{ChangedIn, Elapses}
use Rattle.disk_model.specs.Places.{part, SameOutside}
use Rattle.disk_model.specs.PlaceLaws.{same_as_it_was}
use Rattle.disk_model.specs.PartLaws.{part_split, part_before, same_twice, widened}
use Rattle.disk_model.specs.MomentLaws.{changed_nowhere, changed_wider, changed_twice, started, stays, weakened, then_again, now_too}
use Rattle.disk_model.specs.Moments.{LeavesOnly}
use Rattle.disk_model.specs.declared.disk.Disk as disk
use Rattle.journal_snapshot.specs.Filling.{Fills}

still : {D : Type 0} (g : disk.Ghosts D) (old new : D) → g.is_honest new ≡ g.is_honest old → IsTrue (g.is_honest old) → IsTrue (g.is_honest new)
still g old new honesty honest = subst IsTrue (sym honesty) honest

module _ {D : Type 0} (g : disk.Ghosts D) (at n : ℕ) where
  -- before the first write
  pub fills_nothing : (old : D) → ((c : List ℕ) → g.left_since old (g.clock old) c → g.may_leave old c) → Fills g old old at n
  fills_nothing old only_now = record {
    moments = λ honest. started g old (ChangedIn at n (g.may_leave old)) (λ c left. changed_nowhere at n (g.may_leave old) c (only_now c left));
    others = λ honest. same_as_it_was at n (g.seen old);
    left = λ honest c may. changed_nowhere at n (g.may_leave old) c may;
    honesty = refl;
    size = refl;
  }

  -- one run and then another
  pub fills_then : (old mid new : D) → Fills g old mid at n → Fills g mid new at n → Fills g old new at n
  fills_then old mid new first second = record {
    moments = λ honest. then_again g old mid new (ChangedIn at n (g.may_leave old)) (first.moments honest)
        (weakened g mid new (ChangedIn at n (g.may_leave mid)) (ChangedIn at n (g.may_leave old)) (again honest) (second.moments (still g old mid first.honesty honest)));
    others = λ honest. same_twice at n (g.seen old) (g.seen mid) (g.seen new) (first.others honest) (second.others (still g old mid first.honesty honest));
    left = λ honest c may. again honest c (second.left (still g old mid first.honesty honest) c may);
    honesty = second.honesty ∙ first.honesty;
    size = second.size ∙ first.size;
  }
    where
      again : IsTrue (g.is_honest old) → (c : List ℕ) → ChangedIn at n (g.may_leave mid) c → ChangedIn at n (g.may_leave old) c
      again honest c changed = changed_twice at n (g.may_leave old) c (changed.0, first.left honest changed.0 changed.1, changed.2)

  -- in a range that holds the range
  pub fills_wider : (p m : ℕ) (old new : D) → p ≤ at → at + n ≤ p + m → Fills g old new at n → Fills g old new p m
  fills_wider p m old new low high fills = record {
    moments = λ honest. weakened g old new (ChangedIn at n (g.may_leave old)) (ChangedIn p m (g.may_leave old)) (changed_wider at n p m (g.may_leave old) low high) (fills.moments honest);
    others = λ honest. widened at n (g.seen old) (g.seen new) (fills.others honest) p m low high;
    left = λ honest c may. changed_wider at n p m (g.may_leave old) low high c (fills.left honest c may);
    honesty = fills.honesty;
    size = fills.size;
  }

-- the bytes that are there once more bytes are written after the first ones
pub part_grown : (b c : List ℕ) (p n m : ℕ) (xs ys : List ℕ) → SameOutside (p + n) m b c → part b p n ≡ xs → part c (p + n) m ≡ ys → part c p (n + m) ≡ xs ++ ys
part_grown b c p n m xs ys same first second =
    part_split c p n m
    ∙ ap (λ (l : List ℕ). l ++ part c (p + n) m) (part_before (p + n) m b c same p n (omega arith) ∙ first)
    ∙ ap (λ (l : List ℕ). xs ++ l) second

-- a run that leaves only changes in the range
pub fills_of : {D : Type 0} (g : disk.Ghosts D) (at n : ℕ) (old new : D) → ((t : ℕ) (c : List ℕ) → t ≤ g.clock new → g.may_leave new c → g.left_since new t c)
    → (IsTrue (g.is_honest old) → LeavesOnly g old new (ChangedIn at n (g.may_leave old))) → (IsTrue (g.is_honest old) → SameOutside at n (g.seen old) (g.seen new))
    → g.is_honest new ≡ g.is_honest old → g.size new ≡ g.size old → Fills g old new at n
fills_of g at n old new counts moments others honesty size = record {
  moments = moments;
  others = others;
  left = λ honest c may. now_too g old new (ChangedIn at n (g.may_leave old)) (moments honest) counts c may;
  honesty = honesty;
  size = size;
}

-- a call that changes nothing
pub quiet_fills : {D : Type 0} (g : disk.Ghosts D) (at n : ℕ) (old new : D) → ((c : List ℕ) → g.left_since old (g.clock old) c → g.may_leave old c)
    → Elapses g.clock g.may_leave g.left_since old new → (IsTrue (g.is_honest old) → (c : List ℕ) → g.may_leave new c → g.may_leave old c)
    → (IsTrue (g.is_honest old) → g.seen new ≡ g.seen old) → g.is_honest new ≡ g.is_honest old → g.size new ≡ g.size old → Fills g old new at n
quiet_fills g at n old new only_now time crash seen honesty size = record {
  moments = λ honest. stays g old new (ChangedIn at n (g.may_leave old)) (λ c left. changed_nowhere at n (g.may_leave old) c (only_now c left)) time
      (λ c may. changed_nowhere at n (g.may_leave old) c (crash honest c may));
  others = λ honest. subst (λ (b : List ℕ). SameOutside at n (g.seen old) b) (sym (seen honest)) (same_as_it_was at n (g.seen old));
  left = λ honest c may. changed_nowhere at n (g.may_leave old) c (crash honest c may);
  honesty = honesty;
  size = size;
}
