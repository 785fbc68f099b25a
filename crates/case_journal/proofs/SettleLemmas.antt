-- Bytes that are written again at some places, and the gate of the last record.
use Rattle.std.proofs.Common.{◌≡◌, ◌≢◌, ◌⊎◌, inl, inr, ⊎_elim, ℕ, zero, suc, ◌+◌, ◌<◌, ◌≤◌, List, ◌++◌, append_assoc, length, take, drop, Option, None, Some, IfSome, option_map, Result, Ok, Err, IfOk, OnOk, IsTrue, refl, sym, ap, ◌∙◌, subst, arith}
use Rattle.std.specs.List.{All}
use Rattle.std.proofs.lemmas.List.Elements.{All-from_recursion}
use Rattle.std.proofs.lemmas.List.{drop-drop, take-append-drop}
use Rattle.disk_model.specs.Places.{part, overwritten, SameOutside}
use Rattle.disk_model.specs.PartLaws.{place_spared, part_is}
use Rattle.disk_model.specs.Disk.{ChangedIn, Elapses}
use Rattle.disk_model.specs.MomentLaws.{started, goes_on, then_again, weakened, now_too}
use Rattle.disk_model.specs.declared.disk.Disk as disk
use Rattle.journal_snapshot.specs.Filling.{Fills}
use Rattle.disk_model.specs.Moments.{LeavesOnly, IsSettled}
use Rattle.journal_layout.specs.declared.faults.OpenFault.{OpenFault}
use Rattle.journal_layout.specs.declared.faults.OpenFault.TheVariants.{Disk, OutOfMemory, NotAnArchive, UnknownVersion, Damaged}
use Rattle.journal_layout.specs.Layout.{disk_length, half_length, IsWithinLimits}
use Rattle.journal_layout.specs.Standing.{Standing}
use Rattle.journal_layout.specs.Stands.{Stands}
use Rattle.case_journal.specs.Settling.{SameBut, Touched, WritesAgain, HasLastGate, ShowsLast, SettlesGates, Settles, gate_behind, gates_of, or_behind}
use Rattle.case_journal.specs.DoubtLaws.{some_last}
use Rattle.case_journal.specs.Viewing.{OnlyReads, FindsStanding, IsOpenRefusal}
use Rattle.case_journal.specs.Journaled.{Journaled}
use Rattle.case_journal.specs.declared.open.Opened.{Opened}
use Rattle.case_journal.proofs.OpenLemmas.{view_before}
use Rattle.case_journal.proofs.StandLemmas.{half_ends}

-- of two different numbers one is the lower
apart : (k p : ℕ) → k ≢ p → (k < p) ⊎ (p + 1 ≤ k)
apart zero zero other = absurd (other refl)
apart zero (suc p) other = inl (omega arith)
apart (suc k) zero other = inr (omega arith)
apart (suc k) (suc p) other = ⊎_elim (λ low. inl (omega (arith, low))) (λ high. inr (omega (arith, high))) (apart k p (λ same. other (ap suc same)))

pub but_nowhere : (places b : List ℕ) → SameBut places b b
but_nowhere places b = record { same_length = refl; same = λ k apart. refl }

-- a change at one of the places more
pub but_more : (places : List ℕ) (p : ℕ) (b m c : List ℕ) → ((k : ℕ) → All (λ (q : ℕ). k ≢ q) places → k ≢ p) → SameBut places b m → SameOutside p 1 m c → SameBut places b c
but_more places p b m c among first second = record {
  same_length = second.same_length ∙ first.same_length;
  same = λ k others. place_spared p 1 m c second k 0 (apart k p (among k others)) ∙ first.same k others;
}

module _ {D : Type 0} (g : disk.Ghosts D) (places : List ℕ) where
  still : (old new : D) → g.is_honest new ≡ g.is_honest old → IsTrue (g.is_honest old) → IsTrue (g.is_honest new)
  still old new honesty honest = subst IsTrue (sym honesty) honest

  pub touched_now : (outcomes : List ℕ → Type 0) (c : List ℕ) → outcomes c → Touched places outcomes c
  touched_now outcomes c left = (c, left, but_nowhere places c)

  pub again_nothing : (old : D) → ((c : List ℕ) → g.left_since old (g.clock old) c → g.may_leave old c) → WritesAgain g places old old
  again_nothing old only_now = record {
    moments = λ honest. started g old (Touched places (g.may_leave old)) (λ c left. touched_now (g.may_leave old) c (only_now c left));
    others = λ honest. but_nowhere places (g.seen old);
    left = λ honest c may. touched_now (g.may_leave old) c may;
    honesty = refl;
    size = refl;
  }

  pub again_more : (old mid new : D) (p : ℕ) → ((k : ℕ) → All (λ (q : ℕ). k ≢ q) places → k ≢ p) → WritesAgain g places old mid → Fills g mid new p 1 → WritesAgain g places old new
  again_more old mid new p among first second = record {
    moments = λ honest. then_again g old mid new (Touched places (g.may_leave old)) (first.moments honest)
        (weakened g mid new (ChangedIn p 1 (g.may_leave mid)) (Touched places (g.may_leave old)) (touched honest) (second.moments (still old mid first.honesty honest)));
    others = λ honest. but_more places p (g.seen old) (g.seen mid) (g.seen new) among (first.others honest) (second.others (still old mid first.honesty honest));
    left = λ honest c may. touched honest c (second.left (still old mid first.honesty honest) c may);
    honesty = second.honesty ∙ first.honesty;
    size = second.size ∙ first.size;
  }
    where
      touched : IsTrue (g.is_honest old) → (c : List ℕ) → ChangedIn p 1 (g.may_leave mid) c → Touched places (g.may_leave old) c
      touched honest c changed =
          let before = first.left honest changed.0 changed.1 in
          (before.0, before.1, but_more places p before.0 changed.0 c among before.2 changed.2)

  -- a call more that changes nothing
  pub again_quiet : (old mid new : D) → WritesAgain g places old mid → (IsTrue (g.is_honest mid) → (c : List ℕ) → g.may_leave new c → g.may_leave mid c)
      → (IsTrue (g.is_honest mid) → g.seen new ≡ g.seen mid) → Elapses g.clock g.may_leave g.left_since mid new → g.is_honest new ≡ g.is_honest mid → g.size new ≡ g.size mid
      → WritesAgain g places old new
  again_quiet old mid new first crash seen time honesty size = record {
    moments = λ honest. goes_on g old mid new (Touched places (g.may_leave old)) (first.moments honest) time (λ c may. first.left honest c (crash (still old mid first.honesty honest) c may));
    others = λ honest. subst (SameBut places (g.seen old)) (sym (seen (still old mid first.honesty honest))) (first.others honest);
    left = λ honest c may. first.left honest c (crash (still old mid first.honesty honest) c may);
    honesty = honesty ∙ first.honesty;
    size = size ∙ first.size;
  }

-- a part that is put where it was
pub put_where_it_was : (b : List ℕ) (at n : ℕ) (bytes : List ℕ) → length bytes ≡ n → bytes ≡ part b at n → overwritten b at bytes ≡ b
put_where_it_was b at n bytes long is =
    let rest : drop (at + length bytes) b ≡ drop n (drop at b) = ap (λ (k : ℕ). drop (at + k) b) long ∙ sym (drop-drop n at b) in
    append_assoc (take at b) bytes (drop (at + length bytes) b)
    ∙ ap (λ (l : List ℕ). take at b ++ (bytes ++ l)) rest
    ∙ ap (λ (l : List ℕ). take at b ++ (l ++ drop n (drop at b))) (is ∙ part_is b at n)
    ∙ ap (λ (l : List ℕ). take at b ++ l) (take-append-drop n (drop at b))
    ∙ take-append-drop at b

-- where the last gate is, and the others
pub low_after : (at size most : ℕ) (last : Option ℕ) → at + size ≤ most → IfSome last (λ (n : ℕ). n < size) → IfSome (option_map (λ (n : ℕ). at + n) last) (λ (p : ℕ). p + 1 ≤ most)
low_after at size most None fits low = tt
low_after at size most (Some n) fits low = omega (arith, fits, low)

or_low : (behind most : ℕ) (last : Option ℕ) → behind + 1 ≤ most → IfSome last (λ (p : ℕ). p + 1 ≤ most) → or_behind behind last + 1 ≤ most
or_low behind most None fits low = fits
or_low behind most (Some n) fits low = low

pub gates_low : (s : Standing) (last : Option ℕ) (size : ℕ) → IsWithinLimits s.shape → size ≡ disk_length s.shape → s.used + 1 ≤ half_length s.shape → IfSome last (λ (p : ℕ). p + 1 ≤ size)
    → All (λ (p : ℕ). p + 1 ≤ size) (gates_of s last)
gates_low s last size limits is used low =
    let some = limits.some_half in
    let ends = half_ends s.shape s.half in
    let behind : gate_behind s + 1 ≤ size = omega (arith, ends, used, is) in
    All-from_recursion (λ (p : ℕ). p + 1 ≤ size) (gates_of s last)
    (omega (arith, is), (omega (arith, is, some), (omega (arith, is, some), (or_low (gate_behind s) size last behind low, (behind, tt)))))

module _ {D : Type 0} (g : disk.Ghosts D) where
  pub last_by : (old mid new : D) (r : Result Opened OpenFault) → OnlyReads g old mid → OnlyReads g mid new
      → IfOk r (λ (o : Opened). ShowsLast g new o.journal.standing o.last_gate) → IfOk r (λ (o : Opened). ShowsLast g old o.journal.standing o.last_gate)
  last_by old mid new (Ok o) first second shows = record {
    shown = shows.shown;
    view = view_before g old mid shows.shown first (view_before g mid new shows.shown second shows.view);
    last_gate = shows.last_gate;
  }
  last_by old mid new (Err fault) first second shows = tt

  -- an opening only reads
  pub opened_quiet : (old new : D) → ((t : ℕ) (c : List ℕ) → t ≤ g.clock new → g.may_leave new c → g.left_since new t c)
      → (IsTrue (g.is_honest old) → LeavesOnly g old new (g.may_leave old)) → (IsTrue (g.is_honest old) → g.seen new ≡ g.seen old)
      → g.is_honest new ≡ g.is_honest old → g.size new ≡ g.size old → OnlyReads g old new
  opened_quiet old new counts moments seen honesty size = record {
    seen = seen;
    crash = λ honest c may. now_too g old new (g.may_leave old) (moments honest) counts c may;
    moments = moments;
    honesty = honesty;
    size = size;
  }

  module _ (old mid new : D) (honest : IsTrue (g.is_honest old)) (quiet : OnlyReads g old mid) where
    -- what is written again after the opening
    pub again_after : (places : List ℕ) → WritesAgain g places mid new → WritesAgain g places old new
    again_after places again = record {
      moments = λ h. then_again g old mid new (Touched places (g.may_leave old))
          (weakened g old mid (g.may_leave old) (Touched places (g.may_leave old)) (touched_now g places (g.may_leave old)) (quiet.moments h))
          (weakened g mid new (Touched places (g.may_leave mid)) (Touched places (g.may_leave old)) (λ c touched. (touched.0, quiet.crash h touched.0 touched.1, touched.2)) (again.moments (still h)));
      others = λ h. subst (λ (b : List ℕ). SameBut places b (g.seen new)) (quiet.seen h) (again.others (still h));
      left = λ h c may. let touched = again.left (still h) c may in (touched.0, quiet.crash h touched.0 touched.1, touched.2);
      honesty = again.honesty ∙ quiet.honesty;
      size = again.size ∙ quiet.size;
    }
      where
        still : IsTrue (g.is_honest old) → IsTrue (g.is_honest mid)
        still h = subst IsTrue (sym quiet.honesty) h

    -- the gates of what was found
    pub settles_found : (j : Standing) (last : Option ℕ) (r : Result (Unit {0}) OpenFault) → ShowsLast g old j last → ((s : Standing) → Stands (g.seen old) s → j ≡ s) → Stands (g.seen old) j
        → WritesAgain g (gates_of j last) mid new → IsOpenRefusal r → OnOk r (g.seen new ≡ g.seen old) → OnOk r (IsSettled g new) → Settles g old new r
    settles_found j last r shows found stands again only seen settled = (
      λ s there. subst (λ (t : Standing). SettlesGates g old new t r) (found s there) (record {
        last = last;
        last_gate = subst (λ (b : List ℕ). HasLastGate b j last) (shows.view.is honest) shows.last_gate;
        again = again_after (gates_of j last) again;
        only = only;
        seen = seen;
        settled = settled;
      }),
      λ none. absurd (none j stands),
    )

  -- an opening that is refused
  pub settles_nothing : (old new : D) (r : Result Journaled OpenFault) (fault : OpenFault) → r ≡ Err fault → ((s : Standing) → Stands (g.seen old) s → FindsStanding r s) → OnlyReads g old new
      → Settles g old new (Err fault)
  settles_nothing old new r fault is found quiet = (
    λ s there. let at = some_last (g.seen old) s there in record {
      last = at.0;
      last_gate = at.1;
      again = read_only (gates_of s at.0);
      only = refuses fault s (subst (λ (q : Result Journaled OpenFault). FindsStanding q s) is (found s there));
      seen = tt;
      settled = tt;
    },
    λ none. quiet,
  )
    where
      refuses : (f : OpenFault) (s : Standing) → FindsStanding (Err f) s → IsOpenRefusal {T = Unit {0}} (Err f)
      refuses Disk s finds = tt
      refuses OutOfMemory s finds = tt
      refuses NotAnArchive s finds = finds
      refuses (UnknownVersion v) s finds = finds
      refuses (Damaged at which) s finds = finds

      read_only : (places : List ℕ) → WritesAgain g places old new
      read_only places = record {
        moments = λ h. weakened g old new (g.may_leave old) (Touched places (g.may_leave old)) (touched_now g places (g.may_leave old)) (quiet.moments h);
        others = λ h. subst (SameBut places (g.seen old)) (sym (quiet.seen h)) (but_nowhere places (g.seen old));
        left = λ h c may. touched_now g places (g.may_leave old) c (quiet.crash h c may);
        honesty = quiet.honesty;
        size = quiet.size;
      }
