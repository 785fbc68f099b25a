-- How writes one after another are put together.
use Rattle.std.proofs.Common.{◌≡◌, ◌∙◌, ◌+◌, ◌≤◌, ◌++◌, ℕ, List, [], length, IsTrue, subst, sym, ap, arith, length-append, Result, Ok, Err}
use Rattle.std.specs.Result.{IsErr}
use Rattle.disk_model.specs.Places.{part}
use Rattle.disk_model.specs.PartLaws.{part_is}
use Rattle.disk_model.specs.declared.disk.Disk as disk
use Rattle.disk_model.specs.declared.disk.DiskFault.{DiskFault}
use Rattle.journal_snapshot.specs.Filling.{Fills}
use Rattle.journal_snapshot.specs.FillLaws.{fills_nothing, fills_wider, fills_then, part_grown}
use Rattle.journal_snapshot.specs.Writing.{Writes}

part_nothing : (b : List ℕ) (at : ℕ) → part b at 0 ≡ []
part_nothing b at = part_is b at 0

module _ {D : Type 0} (g : disk.Ghosts D) where
  -- nothing is written
  pub writes_nothing : (old : D) (at : ℕ) → ((c : List ℕ) → g.left_since old (g.clock old) c → g.may_leave old c) → Writes g old old at [] (Ok at)
  writes_nothing old at only_now = record { fills = fills_nothing g at 0 old only_now; there = λ honest. part_nothing (g.seen old) at; end = omega arith }

  -- two runs in ranges one after the other
  pub fills_both : (at n m : ℕ) (old mid new : D) → Fills g old mid at n → Fills g mid new (at + n) m → Fills g old new at (n + m)
  fills_both at n m old mid new first second =
      fills_then g at (n + m) old mid new (fills_wider g at n at (n + m) old mid (omega arith) (omega arith) first) (fills_wider g (at + n) m at (n + m) mid new (omega arith) (omega arith) second)

  long : (xs ys : List ℕ) → length xs + length ys ≡ length (xs ++ ys)
  long xs ys = sym (length-append xs ys)

  -- one and then another
  pub writes_then : (old mid new : D) (at n : ℕ) (xs ys : List ℕ) (r : Result ℕ DiskFault) → Writes g old mid at xs (Ok n) → Writes g mid new n ys r → Writes g old new at (xs ++ ys) r
  writes_then old mid new at n xs ys (Ok m) first second =
      let moved : Writes g mid new (at + length xs) ys (Ok m) = subst (λ (k : ℕ). Writes g mid new k ys (Ok m)) first.end second in
      record {
        fills = subst (Fills g old new at) (long xs ys) (fills_both at (length xs) (length ys) old mid new first.fills moved.fills);
        there = λ honest.
            let now = subst IsTrue (sym first.fills.honesty) honest in
            ap (part (g.seen new) at) (sym (long xs ys))
            ∙ part_grown (g.seen mid) (g.seen new) at (length xs) (length ys) xs ys (moved.fills.others now) (first.there honest) (moved.there now);
        end = omega (arith, moved.end, long xs ys);
      }
  writes_then old mid new at n xs ys (Err e) first second =
      let moved : Writes g mid new (at + length xs) ys (Err e) = subst (λ (k : ℕ). Writes g mid new k ys (Err e)) first.end second in
      record {
        fills = subst (Fills g old new at) (long xs ys) (fills_both at (length xs) (length ys) old mid new first.fills moved.fills);
        there = λ honest. tt;
        end = tt;
      }

  -- writes that failed are also a part of longer ones
  pub writes_failed : (old new : D) (at : ℕ) (xs zs : List ℕ) (e : DiskFault) → length xs ≤ length zs → Writes g old new at xs (Err e) → Writes g old new at zs (Err e)
  writes_failed old new at xs zs e low writes = record {
    fills = fills_wider g at (length xs) at (length zs) old new (omega arith) (omega arith) writes.fills;
    there = λ honest. tt;
    end = tt;
  }

  -- the same bytes under another name
  pub writes_as : (old new : D) (at : ℕ) (xs zs : List ℕ) (r : Result ℕ DiskFault) → xs ≡ zs → Writes g old new at xs r → Writes g old new at zs r
  writes_as old new at xs zs r same writes = subst (λ (l : List ℕ). Writes g old new at l r) same writes

  -- one write
  pub writes_once : (old new : D) (at n : ℕ) (bytes xs : List ℕ) → bytes ≡ xs → n ≡ length bytes → Fills g old new at (length bytes)
      → (IsTrue (g.is_honest old) → part (g.seen new) at (length bytes) ≡ bytes) → Writes g old new at xs (Ok (at + n))
  writes_once old new at n bytes xs same long fills there =
      subst (λ (l : List ℕ). Writes g old new at l (Ok (at + n))) same (record { fills = fills; there = there; end = ap (λ (k : ℕ). at + k) long })

  -- one that failed
  pub writes_err : (old new : D) (at : ℕ) (bytes xs : List ℕ) (r : Result ℕ DiskFault) → IsErr r → bytes ≡ xs → Fills g old new at (length bytes) → Writes g old new at xs r
  writes_err old new at bytes xs (Ok m) err same fills = cc
  writes_err old new at bytes xs (Err e) err same fills =
      subst (λ (l : List ℕ). Writes g old new at l (Err e)) same (record { fills = fills; there = λ honest. tt; end = tt })

  -- a write within longer ones failed
  pub failed_within : (old mid new : D) (at n : ℕ) (xs ys zs : List ℕ) (r s : Result ℕ DiskFault) (e : DiskFault) → r ≡ Err e → IsErr s → Writes g old mid at xs (Ok n) → Writes g mid new n ys r
      → length (xs ++ ys) ≤ length zs → Writes g old new at zs s
  failed_within old mid new at n xs ys zs r (Ok m) e is err first second low = cc
  failed_within old mid new at n xs ys zs r (Err f) e is err first second low =
      writes_failed old new at (xs ++ ys) zs f low
      (writes_other old new at (xs ++ ys) e f (writes_then old mid new at n xs ys (Err e) first (subst (Writes g mid new n ys) is second)))
    where
      writes_other : (old new : D) (at : ℕ) (bytes : List ℕ) (e f : DiskFault) → Writes g old new at bytes (Err e) → Writes g old new at bytes (Err f)
      writes_other old new at bytes e f writes = record { fills = writes.fills; there = λ honest. tt; end = tt }

  -- the first of several failed
  pub failed_first : (old new : D) (at : ℕ) (xs zs : List ℕ) (r s : Result ℕ DiskFault) (e : DiskFault) → r ≡ Err e → IsErr s → Writes g old new at xs r → length xs ≤ length zs → Writes g old new at zs s
  failed_first old new at xs zs r (Ok m) e is err writes low = cc
  failed_first old new at xs zs r (Err f) e is err writes low =
      record { fills = fills_wider g at (length xs) at (length zs) old new (omega arith) (omega arith) writes.fills; there = λ honest. tt; end = tt }
