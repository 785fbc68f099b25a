-- Copies of bytes, one after another.
use Rattle.std.proofs.Common.{◌≡◌, ℕ, ◌+◌, ◌^◌, ◌-◌, ◌≤◌, List, ◌++◌, length, sym, ap, ◌∙◌, subst, arith, IsTrue, Err, ⊎_elim}
use Rattle.std.proofs.lemmas.Bool.{cases_lt}
use Rattle.disk_model.specs.Disk.{ChangedIn, Elapses, Follows, HasRisen}
use Rattle.disk_model.specs.MomentLaws.{changed_nowhere, goes_on, started, stays}
use Rattle.disk_model.specs.Places.{part, overwritten, SameOutside}
use Rattle.disk_model.specs.PartLaws.{part_overwritten}
use Rattle.disk_model.specs.declared.disk.Disk as disk
use Rattle.case_journal.specs.Viewing.{OnlyReads}
use Rattle.intake.specs.QuietLaws.{quiet_none, quiet_then}
use Rattle.journal_snapshot.specs.Filling.{Fills}
use Rattle.journal_snapshot.specs.FillLaws.{fills_nothing, fills_of, fills_then, fills_wider, part_grown}
use Rattle.archive_care.specs.Bytes.{CopiesBytes, CopyCause}
use Rattle.archive_care.specs.declared.faults.CopyFault.{CopyFault}
use Rattle.archive_care.specs.declared.faults.CopyFault.TheVariants.{Open, BadShape, SpaceFull, JournalFull, OutOfMemory, Source, Target}

-- a count that has risen since a later moment
risen_since : (a b c : ℕ) → a ≤ b → HasRisen b c → HasRisen a c
risen_since a b c low risen =
    (omega (arith, risen.0), λ small. ⊎_elim (λ below. let h = risen.1 below in omega arith) (λ above. let h = risen.0 in omega arith) (cases_lt b (2 ^ 64 - 1)))

-- a call that only reads
pub reads_only : {D : Type 0} (g : disk.Ghosts D) (old new : D) → ((c : List ℕ) → g.left_since old (g.clock old) c → g.may_leave old c)
    → Elapses g.clock g.may_leave g.left_since old new → (IsTrue (g.is_honest old) → (c : List ℕ) → g.may_leave new c → g.may_leave old c)
    → (IsTrue (g.is_honest old) → g.seen new ≡ g.seen old) → g.is_honest new ≡ g.is_honest old → g.size new ≡ g.size old → OnlyReads g old new
reads_only g old new only time crash seen honesty size = record {
  seen = seen;
  crash = crash;
  moments = λ honest. stays g old new (g.may_leave old) only time (crash honest);
  honesty = honesty;
  size = size;
}

-- a write
pub writes_only : {D : Type 0} (g : disk.Ghosts D) (at n : ℕ) (old new : D) → ((c : List ℕ) → g.left_since old (g.clock old) c → g.may_leave old c)
    → ((t : ℕ) (c : List ℕ) → t ≤ g.clock new → g.may_leave new c → g.left_since new t c) → Elapses g.clock g.may_leave g.left_since old new
    → (IsTrue (g.is_honest old) → Follows (SameOutside at n) (g.may_leave old) (g.may_leave new)) → (IsTrue (g.is_honest old) → SameOutside at n (g.seen old) (g.seen new))
    → g.is_honest new ≡ g.is_honest old → g.size new ≡ g.size old → Fills g old new at n
writes_only g at n old new only counts time crash others honesty size =
    fills_of g at n old new counts
    (λ honest. goes_on g old old new (ChangedIn at n (g.may_leave old)) (started g old (ChangedIn at n (g.may_leave old)) (λ b left. changed_nowhere at n (g.may_leave old) b (only b left))) time (crash honest))
    others honesty size

-- what was written is there
pub written_there : (b new bytes : List ℕ) (at n : ℕ) → new ≡ overwritten b at bytes → length bytes ≡ n → at + n ≤ length b → part new at n ≡ bytes
written_there b new bytes at n is long within =
    ap (λ (l : List ℕ). part l at n) is ∙ ap (part (overwritten b at bytes) at) (sym long) ∙ part_overwritten b at bytes (omega (arith, long, within))

module _ {D N : Type 0} (g : disk.Ghosts D) (h : disk.Ghosts N) where
  -- none
  pub copies_nothing : (from : D) (onto : N) (at n : ℕ) → ((c : List ℕ) → g.left_since from (g.clock from) c → g.may_leave from c)
      → ((c : List ℕ) → h.left_since onto (h.clock onto) c → h.may_leave onto c) → CopiesBytes g h from from onto onto at n
  copies_nothing from onto at n only only_onto = record {
    quiet = quiet_none g from only;
    fills = fills_nothing h at n onto only_onto;
    later = omega arith;
    later_onto = omega arith;
  }

  -- one after another
  pub copies_then : (from mid new : D) (onto between onto' : N) (at n : ℕ) → CopiesBytes g h from mid onto between at n → CopiesBytes g h mid new between onto' at n
      → CopiesBytes g h from new onto onto' at n
  copies_then from mid new onto between onto' at n first second =
      let a = first.later in
      let b = second.later in
      let c = first.later_onto in
      let d = second.later_onto in
      record {
        quiet = quiet_then g from mid new first.quiet second.quiet;
        fills = fills_then h at n onto between onto' first.fills second.fills;
        later = omega arith;
        later_onto = omega arith;
      }

  -- in a range that holds the range
  pub copies_wider : (from new : D) (onto onto' : N) (at n p m : ℕ) → p ≤ at → at + n ≤ p + m → CopiesBytes g h from new onto onto' at n → CopiesBytes g h from new onto onto' p m
  copies_wider from new onto onto' at n p m low high copies = record {
    quiet = copies.quiet;
    fills = fills_wider h at n p m onto onto' low high copies.fills;
    later = copies.later;
    later_onto = copies.later_onto;
  }

  -- the disk that failed in the end has failed since the start
  pub cause_since : (T U : Type 0) (from mid new : D) (onto between onto' : N) (e : CopyFault) → g.failures from ≤ g.failures mid → h.failures onto ≤ h.failures between
      → CopyCause {T = T} g h mid new between onto' (Err e) → CopyCause {T = U} g h from new onto onto' (Err e)
  cause_since T U from mid new onto between onto' (Open f) low low' cause = absurd cause
  cause_since T U from mid new onto between onto' BadShape low low' cause = absurd cause
  cause_since T U from mid new onto between onto' SpaceFull low low' cause = absurd cause
  cause_since T U from mid new onto between onto' JournalFull low low' cause = absurd cause
  cause_since T U from mid new onto between onto' OutOfMemory low low' cause = absurd cause
  cause_since T U from mid new onto between onto' Source low low' cause = risen_since (g.failures from) (g.failures mid) (g.failures new) low cause
  cause_since T U from mid new onto between onto' Target low low' cause = risen_since (h.failures onto) (h.failures between) (h.failures onto') low' cause

  -- a piece more, and whatever was answered
  pub piece_ends : (from mid new : D) (onto between onto' : N) (at n target total : ℕ) → target ≤ at → at + n ≤ target + total
      → CopiesBytes g h from mid onto between target total → CopiesBytes g h mid new between onto' at n → CopiesBytes g h from new onto onto' target total
  piece_ends from mid new onto between onto' at n target total low high first second =
      copies_then from mid new onto between onto' target total first (copies_wider mid new between onto' at n target total low high second)

  -- what was copied before stays, and the piece is there after it
  pub piece_more : (from mid new : D) (onto between onto' : N) (at n m target total : ℕ) (xs ys : List ℕ → List ℕ) → at ≡ target + n → n + m ≤ total
      → CopiesBytes g h from mid onto between target total
      → (IsTrue (g.is_honest from) → IsTrue (h.is_honest onto) → part (h.seen between) target n ≡ xs (g.seen from))
      → CopiesBytes g h mid new between onto' at m
      → (IsTrue (g.is_honest mid) → IsTrue (h.is_honest between) → part (h.seen onto') at m ≡ ys (g.seen mid))
      → IsTrue (g.is_honest from) → IsTrue (h.is_honest onto) → part (h.seen onto') target (n + m) ≡ xs (g.seen from) ++ ys (g.seen from)
  piece_more from mid new onto between onto' at n m target total xs ys place room first there second more honest honest_onto =
      let still : IsTrue (g.is_honest mid) = subst IsTrue (sym first.quiet.honesty) honest in
      let still_onto : IsTrue (h.is_honest between) = subst IsTrue (sym first.fills.honesty) honest_onto in
      part_grown (h.seen between) (h.seen onto') target n m (xs (g.seen from)) (ys (g.seen from))
      (subst (λ (p : ℕ). SameOutside p m (h.seen between) (h.seen onto')) place (second.fills.others still_onto))
      (there honest honest_onto)
      (ap (λ (p : ℕ). part (h.seen onto') p m) (sym place) ∙ more still still_onto ∙ ap ys (first.quiet.seen honest))
