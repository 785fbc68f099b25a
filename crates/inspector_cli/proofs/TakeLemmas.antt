-- Bytes of a part that are taken piece by piece are taken as one step.
use Rattle.std.proofs.Common.{◌≡◌, ◌≢◌, ⊎_elim, ℕ, zero, suc, ◌+◌, ◌-◌, ◌/◌, ◌%◌, ◌<◌, ◌≤◌, true, List, [], ◌∷◌, ◌++◌, Option, Some, None, Result, Ok, Err, refl, sym, ap, subst, ◌∙◌, arith, add_assoc}
use Rattle.std.proofs.lemmas.Bool.{cases_lt, false≢true}
use Rattle.std.specs.Prelude.{slice_set, sum_by}
use Rattle.intake.specs.declared.faults.ArchiveFault.{ArchiveFault}
use Rattle.intake.specs.declared.faults.ArchiveFault.TheVariants.{Stopped, NoStream, TooLong, SpaceFull, OutOfMemory, Disk}
use Rattle.intake.specs.Slots.{stream_at}
use Rattle.intake.specs.State.{ArchiveState, StreamFacts, blocks_in, filled_by}
use Rattle.intake.specs.Step.{AdvanceStep, FillsBlocks, TakesLowest, FindsNoBlock, with_stream, longer, halted}
use Rattle.inspector_cli.specs.Reply.{IsWall, MayTake, IsOpen, TakeStep}
use Rattle.inspector_cli.proofs.SlotLemmas.{set_again, at_set, closed_set, sum_set}

-- n bytes fit into what is left of the stream's block
abbrev pub FitsBlock : Option StreamFacts → ℕ → Type 0
FitsBlock None n = Unit {0}
FitsBlock (Some s) n = s.len % 4096 + n ≤ 4096

-- the state in the middle of a part
abbrev pub midway : ArchiveState → ℕ → StreamFacts → ℕ → List ℕ → ArchiveState
midway b slot s k had = with_stream b slot (Some (longer s k had))

-- the blocks in use there
in_use : (b : ArchiveState) (slot k : ℕ) (s : StreamFacts) (had : List ℕ) → stream_at b.streams slot ≡ Some s
    → blocks_in (midway b slot s k had) + s.len / 4096 ≡ blocks_in b + (s.len + k) / 4096
in_use b slot k s had is =
    let e : sum_by filled_by (slice_set b.streams slot (Some (longer s k had))) + s.len / 4096 ≡ sum_by filled_by b.streams + (s.len + k) / 4096 =
    sum_set b.streams slot s (longer s k had) is in
    omega (arith, e)

-- the first place at which no block is free is met by the piece that ends there
met_numbers : (len k n m used used' all : ℕ) → m % 4096 ≡ 0 → len + k < m → (len + k) % 4096 + n ≤ 4096
    → used + (m / 4096 - len / 4096) ≡ all + 1 → used' + len / 4096 ≡ used + (len + k) / 4096 → m ≤ len + (k + n)
    → (n ≢ 0) × ((len + k + n) % 4096 ≡ 0) × (used' ≡ all) × (m ≡ len + (k + n))
met_numbers len k n m used used' all whole above fits wall grown met =
    let same : m ≡ len + (k + n) = omega arith in
    (omega arith, omega arith, omega arith, same)

wall_numbers : (len k n used used' all : ℕ) → n ≢ 0 → (len + k + n) % 4096 ≡ 0 → (len + k) % 4096 + n ≤ 4096
    → used' ≡ all → used' + len / 4096 ≡ used + (len + k) / 4096
    → ((len + (k + n)) % 4096 ≡ 0) × (len < len + (k + n)) × (used + ((len + (k + n)) / 4096 - len / 4096) ≡ all + 1)
wall_numbers len k n used used' all some whole fits is grown = (omega arith, omega arith, omega arith)

-- blocks that were taken, and then more
takes_then : (x : ArchiveState) (have : List ℕ) (count : ℕ) (mid : List ℕ) (more : ℕ) (blocks : List ℕ) → TakesLowest x have count mid → TakesLowest x mid more blocks → TakesLowest x have (count + more) blocks
takes_then x have zero mid more blocks first then_more =
    let e : more ≡ zero + more = omega arith in
    subst (λ (n : ℕ). TakesLowest x have n blocks) e (subst (λ (b : List ℕ). TakesLowest x b more blocks) first then_more)
takes_then x have (suc n) mid more blocks first then_more =
    let e : suc (n + more) ≡ suc n + more = omega arith in
    subst (λ (m : ℕ). TakesLowest x have m blocks) e (first.0, first.1, takes_then x (have ++ first.0 ∷ []) n mid more blocks first.2 then_more)

some_is : {X : Type 0} (x y : X) → Some x ≡ Some y → x ≡ y
some_is x y e = cc

none_is : {X : Type 0} (x : X) → Some x ≡ None → ⊥
none_is x e = cc

module _ (b : ArchiveState) (slot k n : ℕ) (s : StreamFacts) (had : List ℕ) (stands : IsOpen b slot s) (may : MayTake b s k) (fits : (s.len + k) % 4096 + n ≤ 4096) (fills : FillsBlocks b slot s ((s.len + k) / 4096) had) where
  here : stream_at (midway b slot s k had).streams slot ≡ Some (longer s k had)
  here = at_set b.streams slot s (Some (longer s k had)) stands.1

  grown : blocks_in (midway b slot s k had) + s.len / 4096 ≡ blocks_in b + (s.len + k) / 4096
  grown = in_use b slot k s had stands.1

  met : (m : ℕ) → IsWall b s m → m ≤ s.len + (k + n)
      → (n ≢ 0) × ((s.len + k + n) % 4096 ≡ 0) × (blocks_in (midway b slot s k had) ≡ b.shape.data_blocks) × (m ≡ s.len + (k + n))
  met m wall low = met_numbers s.len k n m (blocks_in b) (blocks_in (midway b slot s k had)) b.shape.data_blocks wall.0 (may.1 m wall) fits wall.2 grown low

  may_more : s.len + k + n ≤ b.limit → (FindsNoBlock (midway b slot s k had) (longer s k had) n → ⊥) → MayTake b s (k + n)
  may_more low free = (omega arith, λ m wall. ⊎_elim (λ lt. lt) (λ ge. (let x = met m wall (omega arith) in absurd (free (x.0, x.1, x.2)))) (cases_lt (s.len + (k + n)) m))

  dropped : with_stream (midway b slot s k had) slot None ≡ with_stream b slot None
  dropped = ap (λ (xs : List (Option StreamFacts)). record b { streams = xs }) (set_again b.streams slot (Some (longer s k had)) None)

  stopped : halted (midway b slot s k had) ≡ halted b
  stopped = ap (λ (xs : List (Option StreamFacts)). record b { stopped = true; streams = xs }) (closed_set b.streams slot (Some (longer s k had)))

  longer_yet : (blocks : List ℕ) → longer (longer s k had) n blocks ≡ longer s (k + n) blocks
  longer_yet blocks = ap (λ (len : ℕ). record s { len = len; blocks = blocks }) (add_assoc s.len k n)

  went_on : (blocks : List ℕ) → with_stream (midway b slot s k had) slot (Some (longer (longer s k had) n blocks)) ≡ with_stream b slot (Some (longer s (k + n) blocks))
  went_on blocks =
      ap (λ (xs : List (Option StreamFacts)). record b { streams = xs })
      (set_again b.streams slot (Some (longer s k had)) (Some (longer (longer s k had) n blocks)) ∙ ap (λ (t : StreamFacts). slice_set b.streams slot (Some t)) (longer_yet blocks))

  -- the blocks that the pieces took are those that all of it takes
  filled_yet : (blocks : List ℕ) → FillsBlocks (midway b slot s k had) slot (longer s k had) ((s.len + k + n) / 4096) blocks → FillsBlocks b slot s ((s.len + (k + n)) / 4096) blocks
  filled_yet blocks more = (
    fills.0 + more.0,
    (let a = fills.1 in let c = more.1 in omega (arith, a, c)),
    takes_then (with_stream b slot None) s.blocks fills.0 had more.0 blocks fills.2
        (subst (λ (x : ArchiveState). TakesLowest x had more.0 blocks) dropped more.2),
  )

  which : (t : StreamFacts) → stream_at (midway b slot s k had).streams slot ≡ Some t → t ≡ longer s k had
  which t is = some_is t (longer s k had) (sym is ∙ here)

  pub piece_taken : (r : Result (Unit {0}) ArchiveFault) (new : ArchiveState) → AdvanceStep (midway b slot s k had) slot n r new → TakeStep b slot (k + n) r new
  piece_taken (Ok u) new step =
      let is = which step.0 step.1.1 in
      let low : s.len + k + n ≤ b.limit = subst (λ (t : StreamFacts). t.len + n ≤ b.limit) is step.1.2 in
      let free = subst (λ (t : StreamFacts). FindsNoBlock (midway b slot s k had) t n → ⊥) is step.2 in (
        s,
        stands,
        may_more low free,
        step.3,
        step.4 ∙ ap (λ (t : StreamFacts). with_stream (midway b slot s k had) slot (Some (longer t n step.3))) is ∙ went_on step.3,
        filled_yet step.3 (subst (λ (t : StreamFacts). FillsBlocks (midway b slot s k had) slot t ((t.len + n) / 4096) step.3) is step.5),
      )
  piece_taken (Err Stopped) new step = absurd (false≢true (sym stands.0 ∙ step.0))
  piece_taken (Err NoStream) new step = absurd (none_is (longer s k had) (sym here ∙ step.1))
  piece_taken (Err TooLong) new step =
      let is = which step.0 step.2 in
      let high : b.limit < s.len + k + n = subst (λ (t : StreamFacts). b.limit < t.len + n) is step.3 in (
        s,
        stands,
        omega arith,
        λ m wall. ⊎_elim (λ lt. lt) (λ ge. (let x = met m wall (omega arith) in let same = x.3 in omega arith)) (cases_lt b.limit m),
        step.4 ∙ dropped,
      )
  piece_taken (Err SpaceFull) new step =
      let is = which step.0 step.1.1 in
      let low : s.len + k + n ≤ b.limit = subst (λ (t : StreamFacts). t.len + n ≤ b.limit) is step.1.2 in
      let none = subst (λ (t : StreamFacts). FindsNoBlock (midway b slot s k had) t n) is step.2 in (
        s,
        s.len + (k + n),
        stands,
        wall_numbers s.len k n (blocks_in b) (blocks_in (midway b slot s k had)) b.shape.data_blocks none.0 none.1 fits none.2 grown,
        omega arith,
        omega arith,
        step.3 ∙ dropped,
      )
  piece_taken (Err OutOfMemory) new step =
      let is = which step.0 step.1.1 in
      let low : s.len + k + n ≤ b.limit = subst (λ (t : StreamFacts). t.len + n ≤ b.limit) is step.1.2 in
      let free = subst (λ (t : StreamFacts). FindsNoBlock (midway b slot s k had) t n → ⊥) is step.2 in
      (s, k + n, stands, omega arith, may_more low free, step.3 ∙ dropped)
  piece_taken (Err Disk) new step =
      let is = which step.0 step.1.1 in
      let low : s.len + k + n ≤ b.limit = subst (λ (t : StreamFacts). t.len + n ≤ b.limit) is step.1.2 in
      let free = subst (λ (t : StreamFacts). FindsNoBlock (midway b slot s k had) t n → ⊥) is step.2 in
      (s, k + n, stands, omega arith, may_more low free, step.3 ∙ stopped)
  piece_taken (Err _) new step = absurd step

-- the next piece of a part
pub took_piece : (b mid new : ArchiveState) (slot k n : ℕ) (u : Unit {0}) (r : Result (Unit {0}) ArchiveFault) → TakeStep b slot k (Ok u) mid → FitsBlock (stream_at mid.streams slot) n
    → AdvanceStep mid slot n r new → TakeStep b slot (k + n) r new
took_piece b mid new slot k n u r taken fits step =
    let f = subst (λ (x : ArchiveState). FitsBlock (stream_at x.streams slot) n) taken.4 fits in
    let g : FitsBlock (Some (longer taken.0 k taken.3)) n = subst (λ (o : Option StreamFacts). FitsBlock o n) (at_set b.streams slot taken.0 (Some (longer taken.0 k taken.3)) taken.1.1) f in
    piece_taken b slot k n taken.0 taken.3 taken.1 taken.2 g taken.5 r new (subst (λ (x : ArchiveState). AdvanceStep x slot n r new) taken.4 step)

-- no byte yet
pub took_none : (b new : ArchiveState) (slot : ℕ) (r : Result (Unit {0}) ArchiveFault) → AdvanceStep b slot 0 r new → TakeStep b slot 0 r new
took_none b new slot (Ok u) step = (step.0, (step.1.0, step.1.1), (step.1.2, λ m wall. omega (arith, wall.1)), step.3, step.4, step.5)
took_none b new slot (Err Stopped) step = step
took_none b new slot (Err NoStream) step = step
took_none b new slot (Err TooLong) step = (step.0, (step.1, step.2), step.3, λ m wall. omega (arith, wall.1, step.3), step.4)
took_none b new slot (Err SpaceFull) step = absurd (step.2.0 refl)
took_none b new slot (Err OutOfMemory) step = (step.0, 0, (step.1.0, step.1.1), omega arith, (step.1.2, λ m wall. omega (arith, wall.1)), step.3)
took_none b new slot (Err Disk) step = (step.0, 0, (step.1.0, step.1.1), omega arith, (step.1.2, λ m wall. omega (arith, wall.1)), step.3)
took_none b new slot (Err _) step = absurd step

-- a part that is refused stays so, however many bytes follow
pub refused_yet : (b new : ArchiveState) (slot k n : ℕ) (f : ArchiveFault) → TakeStep b slot k (Err f) new → TakeStep b slot (k + n) (Err f) new
refused_yet b new slot k n Stopped step = step
refused_yet b new slot k n NoStream step = step
refused_yet b new slot k n TooLong step = (step.0, step.1, omega (arith, step.2), step.3, step.4)
refused_yet b new slot k n SpaceFull step = (step.0, step.1, step.2, step.3, omega (arith, step.4), step.5, step.6)
refused_yet b new slot k n OutOfMemory step = (step.0, step.1, step.2, omega (arith, step.3), step.4, step.5)
refused_yet b new slot k n Disk step = (step.0, step.1, step.2, omega (arith, step.3), step.4, step.5)
refused_yet b new slot k n _ step = absurd step
