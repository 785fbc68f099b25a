-- What lines do to archives that hold the same.
use Rattle.std.proofs.Common.{◌≡◌, ◌⊎◌, ⊎_elim, inl, inr, ℕ, zero, suc, ◌+◌, ◌/◌, ◌<◌, ◌≤◌, true, false, List, [], ◌∷◌, ◌++◌, map, Option, Some, None, Result, Ok, Err, refl, sym, ap, subst, ◌∙◌, arith}
use Rattle.std.proofs.lemmas.Bool.{false≢true}
use Rattle.std.specs.Prelude.{option_map, slice_set}
use Rattle.archive_replies.specs.Texts.{plain_reply, begin_reply, end_reply, retire_reply}
use Rattle.intake.specs.Contents.{Contents, Taken, BeginBytes, FinishBytes, AbandonBytes, DropBytes, RefusedBytes, UnmovedBytes, images_without, empty_taken, with_taken}
use Rattle.intake.specs.OneAnswer.{IsDecided, IsOneAnswer}
use Rattle.intake.specs.Slots.{stream_at}
use Rattle.intake.specs.State.{ArchiveState, StreamFacts}
use Rattle.intake.specs.Step.{FillsBlocks, with_stream, longer}
use Rattle.intake.specs.declared.faults.ArchiveFault.{ArchiveFault}
use Rattle.intake.specs.declared.faults.ArchiveFault.TheVariants.{Stopped, NoStream, TooLong, SpaceFull, OutOfMemory, Disk}
use Rattle.retention.specs.declared.Decision.{Decision}
use Rattle.inspector_cli.specs.Agreement.{IsFree, bytes_taken}
use Rattle.inspector_cli.specs.Reply.{IsWall, MayTake, TakeStep, TakeBytes}
use Rattle.inspector_cli.proofs.SlotLemmas.{at_mapped, some_same}

-- a reply that is not free tells an answer that is decided
pub plain_decided : (r : Result (Unit {0}) ArchiveFault) (reply : List ℕ) → reply ≡ plain_reply r → (IsFree reply → ⊥) → IsDecided r
plain_decided (Ok u) reply told bound = tt
plain_decided (Err OutOfMemory) reply told bound = bound (inl told)
plain_decided (Err Disk) reply told bound = bound (inr told)
plain_decided (Err _) reply told bound = tt

pub begin_decided : (name : List ℕ) (r : Result (Unit {0}) ArchiveFault) (reply : List ℕ) → reply ≡ begin_reply name r → (IsFree reply → ⊥) → IsDecided r
begin_decided name (Ok u) reply told bound = tt
begin_decided name (Err OutOfMemory) reply told bound = bound (inl told)
begin_decided name (Err Disk) reply told bound = bound (inr told)
begin_decided name (Err _) reply told bound = tt

pub end_decided : (r : Result ℕ ArchiveFault) (reply : List ℕ) → reply ≡ end_reply r → (IsFree reply → ⊥) → IsDecided r
end_decided (Ok seq) reply told bound = tt
end_decided (Err OutOfMemory) reply told bound = bound (inl told)
end_decided (Err Disk) reply told bound = bound (inr told)
end_decided (Err _) reply told bound = tt

pub retire_decided : (r : Result Decision ArchiveFault) (reply : List ℕ) → reply ≡ retire_reply r → (IsFree reply → ⊥) → IsDecided r
retire_decided (Ok d) reply told bound = tt
retire_decided (Err OutOfMemory) reply told bound = bound (inl told)
retire_decided (Err Disk) reply told bound = bound (inr told)
retire_decided (Err _) reply told bound = tt

-- The bytes of a part as one step: how a stream that is open takes them.
abbrev TakesIn : ArchiveState → ℕ → ℕ → StreamFacts → Result (Unit {0}) ArchiveFault → ArchiveState → Type 0
TakesIn s slot n x (Ok u) new = MayTake s x n × (blocks : List ℕ) × (new ≡ with_stream s slot (Some (longer x n blocks))) × FillsBlocks s slot x ((x.len + n) / 4096) blocks
TakesIn s slot n x (Err TooLong) new = (s.limit < x.len + n) × ((m : ℕ) → IsWall s x m → s.limit < m) × (new ≡ with_stream s slot None)
TakesIn s slot n x (Err SpaceFull) new = (m : ℕ) × IsWall s x m × (m ≤ x.len + n) × (m ≤ s.limit) × (new ≡ with_stream s slot None)
TakesIn s slot n x (Err _) new = ⊥

abbrev TakesBy : ArchiveState → ℕ → ℕ → Result (Unit {0}) ArchiveFault → ArchiveState → Type 0
TakesBy s slot n r new =
    ((s.stopped ≡ true) × (r ≡ Err Stopped) × (new ≡ s))
    ⊎ (((s.stopped ≡ false) × (stream_at s.streams slot ≡ None) × (r ≡ Err NoStream) × (new ≡ s))
    ⊎ ((x : StreamFacts) × (s.stopped ≡ false) × (stream_at s.streams slot ≡ Some x) × TakesIn s slot n x r new))

takes_by : (s : ArchiveState) (slot n : ℕ) (r : Result (Unit {0}) ArchiveFault) (new : ArchiveState) → TakeStep s slot n r new → IsDecided r → TakesBy s slot n r new
takes_by s slot n (Ok u) new step d = inr (inr (step.0, step.1.0, step.1.1, (step.2, step.3, step.4, step.5)))
takes_by s slot n (Err Stopped) new step d = inl (step.0, refl, step.1)
takes_by s slot n (Err NoStream) new step d = inr (inl (step.0, step.1, refl, step.2))
takes_by s slot n (Err TooLong) new step d = inr (inr (step.0, step.1.0, step.1.1, (step.2, step.3, step.4)))
takes_by s slot n (Err SpaceFull) new step d = inr (inr (step.0, step.2.0, step.2.1, (step.1, step.3, step.4, step.5, step.6)))
takes_by s slot n (Err OutOfMemory) new step d = absurd d
takes_by s slot n (Err Disk) new step d = absurd d
takes_by s slot n (Err _) new step d = absurd step

module _ (fills_one : (s : ArchiveState) (slot : ℕ) (x : StreamFacts) (total : ℕ) (blocks blocks' : List ℕ) → FillsBlocks s slot x total blocks → FillsBlocks s slot x total blocks' → blocks' ≡ blocks) where
  takes_in : (s : ArchiveState) (slot n : ℕ) (x : StreamFacts) (r r' : Result (Unit {0}) ArchiveFault) (new new' : ArchiveState) → TakesIn s slot n x r new → TakesIn s slot n x r' new' → (r' ≡ r) × (new' ≡ new)
  takes_in s slot n x (Ok u) (Ok u') new new' a b = (refl, b.2 ∙ ap (λ (l : List ℕ). with_stream s slot (Some (longer x n l))) (fills_one s slot x ((x.len + n) / 4096) a.1 b.1 a.3 b.3) ∙ sym a.2)
  takes_in s slot n x (Ok u) (Err TooLong) new new' a b = absurd (let p = a.0.0 in let q = b.0 in omega (arith, p, q))
  takes_in s slot n x (Ok u) (Err SpaceFull) new new' a b = absurd (let p = a.0.1 b.0 b.1 in let q = b.2 in omega (arith, p, q))
  takes_in s slot n x (Ok u) (Err _) new new' a b = absurd b
  takes_in s slot n x (Err TooLong) (Ok u') new new' a b = absurd (let p = b.0.0 in let q = a.0 in omega (arith, p, q))
  takes_in s slot n x (Err TooLong) (Err TooLong) new new' a b = (refl, b.2 ∙ sym a.2)
  takes_in s slot n x (Err TooLong) (Err SpaceFull) new new' a b = absurd (let p = a.1 b.0 b.1 in let q = b.3 in omega (arith, p, q))
  takes_in s slot n x (Err TooLong) (Err _) new new' a b = absurd b
  takes_in s slot n x (Err SpaceFull) (Ok u') new new' a b = absurd (let p = b.0.1 a.0 a.1 in let q = a.2 in omega (arith, p, q))
  takes_in s slot n x (Err SpaceFull) (Err TooLong) new new' a b = absurd (let p = b.1 a.0 a.1 in let q = a.3 in omega (arith, p, q))
  takes_in s slot n x (Err SpaceFull) (Err SpaceFull) new new' a b = (refl, b.4 ∙ sym a.4)
  takes_in s slot n x (Err SpaceFull) (Err _) new new' a b = absurd b
  takes_in s slot n x (Err _) r' new new' a b = absurd a

  -- a part is answered in one way
  pub take_one : (s : ArchiveState) (slot n : ℕ) → IsOneAnswer (TakeStep s slot n)
  take_one s slot n r r' new new' step step' d d' =
      ⊎_elim
      (λ a. ⊎_elim (λ b. (b.1 ∙ sym a.1, b.2 ∙ sym a.2)) (⊎_elim (λ b. absurd (false≢true (sym b.0 ∙ a.0))) (λ b. absurd (false≢true (sym b.1 ∙ a.0)))) (takes_by s slot n r' new' step' d'))
      (⊎_elim
      (λ a. ⊎_elim (λ b. absurd (false≢true (sym a.0 ∙ b.0))) (⊎_elim (λ b. (b.2 ∙ sym a.2, b.3 ∙ sym a.3)) (λ b. absurd (let e : None ≡ Some b.0 = sym a.1 ∙ b.2 in cc))) (takes_by s slot n r' new' step' d'))
      (λ a. ⊎_elim (λ b. absurd (false≢true (sym a.1 ∙ b.0)))
      (⊎_elim
      (λ b. absurd (let e : None ≡ Some a.0 = sym b.1 ∙ a.2 in cc))
      (λ b. takes_in s slot n a.0 r r' new new' a.3 (subst (λ (z : StreamFacts). TakesIn s slot n z r' new') (some_same b.0 a.0 (sym b.2 ∙ a.2)) b.3)))
      (takes_by s slot n r' new' step' d')))
      (takes_by s slot n r new step d)

-- the bytes of both, but for what stands behind a stream's bytes in its block
pub record SameBytes (c c' : Contents) : Type 0 where
  pub images : c'.images ≡ c.images
  pub taken : map (option_map bytes_taken) c'.taken ≡ map (option_map bytes_taken) c.taken

map_set : {X Y : Type 0} (f : X → Y) (xs : List X) (slot : ℕ) (x : X) → map f (slice_set xs slot x) ≡ slice_set (map f xs) slot (f x)
map_set f [] slot x = refl
map_set f (y ∷ xs) zero x = refl
map_set f (y ∷ xs) (suc slot) x = ap (λ ys. f y ∷ ys) (map_set f xs slot x)

set_same : (xs xs' : List (Option Taken)) (slot : ℕ) (o o' : Option Taken) → map (option_map bytes_taken) xs' ≡ map (option_map bytes_taken) xs → option_map bytes_taken o' ≡ option_map bytes_taken o
    → map (option_map bytes_taken) (slice_set xs' slot o') ≡ map (option_map bytes_taken) (slice_set xs slot o)
set_same xs xs' slot o o' same alike =
    map_set (option_map bytes_taken) xs' slot o'
    ∙ ap (λ (l : List (Option (List ℕ))). slice_set l slot (option_map bytes_taken o')) same
    ∙ ap (slice_set (map (option_map bytes_taken) xs) slot) alike
    ∙ sym (map_set (option_map bytes_taken) xs slot o)

taken_same : (xs xs' : List (Option Taken)) (slot : ℕ) (t t' : Taken) → map (option_map bytes_taken) xs' ≡ map (option_map bytes_taken) xs → stream_at xs slot ≡ Some t → stream_at xs' slot ≡ Some t' → t'.bytes ≡ t.bytes
taken_same xs xs' slot t t' same is is' =
    some_same t'.bytes t.bytes
    (sym (ap (option_map bytes_taken) is')
    ∙ sym (at_mapped bytes_taken xs' slot)
    ∙ ap (λ (l : List (Option (List ℕ))). stream_at l slot) same
    ∙ at_mapped bytes_taken xs slot
    ∙ ap (option_map bytes_taken) is)

module _ (c c' d d' : Contents) (same : SameBytes c c') where
  pub same_as : d ≡ c → d' ≡ c' → SameBytes d d'
  same_as is is' = subst (λ (x : Contents). SameBytes x d') (sym is) (subst (SameBytes c) (sym is') same)

  set_in : (slot : ℕ) (o o' : Option Taken) → option_map bytes_taken o' ≡ option_map bytes_taken o → d ≡ with_taken c slot o → d' ≡ with_taken c' slot o' → SameBytes d d'
  set_in slot o o' alike is is' =
      subst (λ (x : Contents). SameBytes x d') (sym is)
      (subst (SameBytes (with_taken c slot o)) (sym is') (record { images = same.images; taken = set_same c.taken c'.taken slot o o' same.taken alike }))

  pub same_unmoved : (f : ArchiveFault) → IsDecided {T = Unit {0}} (Err f) → UnmovedBytes c f d → UnmovedBytes c' f d' → SameBytes d d'
  same_unmoved Disk decided is is' = absurd decided
  same_unmoved _ decided is is' = same_as is is'

  pub same_refused : (slot : ℕ) (f : ArchiveFault) → IsDecided {T = Unit {0}} (Err f) → RefusedBytes c slot f d → RefusedBytes c' slot f d' → SameBytes d d'
  same_refused slot Stopped decided is is' = same_as is is'
  same_refused slot NoStream decided is is' = same_as is is'
  same_refused slot Disk decided is is' = absurd decided
  same_refused slot _ decided is is' = set_in slot None None refl is is'

  pub same_begun : (slot : ℕ) (r : Result (Unit {0}) ArchiveFault) → BeginBytes c slot r d → BeginBytes c' slot r d' → SameBytes d d'
  same_begun slot (Ok u) is is' = set_in slot (Some empty_taken) (Some empty_taken) refl is is'
  same_begun slot (Err f) is is' = same_as is is'

  pub same_took : (slot : ℕ) (raw : List ℕ) (r : Result (Unit {0}) ArchiveFault) → IsDecided r → TakeBytes c slot raw r d → TakeBytes c' slot raw r d' → SameBytes d d'
  same_took slot raw (Ok u) decided is is' =
      set_in slot (Some (record { bytes = is.0.bytes ++ raw; free = is.1 })) (Some (record { bytes = is'.0.bytes ++ raw; free = is'.1 }))
      (ap (λ (b : List ℕ). Some (b ++ raw)) (taken_same c.taken c'.taken slot is.0 is'.0 same.taken is.2 is'.2)) is.3 is'.3
  same_took slot raw (Err f) decided is is' = same_refused slot f decided is is'

  pub same_dropped : (slot : ℕ) (r : Result (Unit {0}) ArchiveFault) → AbandonBytes c slot r d → AbandonBytes c' slot r d' → SameBytes d d'
  same_dropped slot (Ok u) is is' = set_in slot None None refl is is'
  same_dropped slot (Err f) is is' = same_as is is'

  pub same_finished : (slot : ℕ) (r : Result ℕ ArchiveFault) → IsDecided r → FinishBytes c slot r d → FinishBytes c' slot r d' → SameBytes d d'
  same_finished slot (Ok seq) decided is is' =
      subst (λ (x : Contents). SameBytes x d') (sym is.2)
      (subst (SameBytes (record { images = c.images ++ is.0.bytes ∷ []; taken = slice_set c.taken slot None })) (sym is'.2) (record {
        images = ap (λ (l : List (List ℕ)). l ++ is'.0.bytes ∷ []) same.images ∙ ap (λ (b : List ℕ). c.images ++ b ∷ []) (taken_same c.taken c'.taken slot is.0 is'.0 same.taken is.1 is'.1);
        taken = set_same c.taken c'.taken slot None None same.taken refl;
      }))
  same_finished slot (Err f) decided is is' = same_refused slot f (decided_as f decided) is is'
    where
      decided_as : (f : ArchiveFault) → IsDecided {T = ℕ} (Err f) → IsDecided {T = Unit {0}} (Err f)
      decided_as OutOfMemory x = x
      decided_as Disk x = x
      decided_as _ x = tt

  pub same_gone : (s : ArchiveState) (seqs : List ℕ) (r : Result (Unit {0}) ArchiveFault) → IsDecided r → DropBytes s c seqs r d → DropBytes s c' seqs r d' → SameBytes d d'
  same_gone s seqs (Ok u) decided is is' =
      subst (λ (x : Contents). SameBytes x d') (sym is)
      (subst (SameBytes (record c { images = images_without seqs s.cases c.images })) (sym is') (record { images = ap (images_without seqs s.cases) same.images; taken = same.taken }))
  same_gone s seqs (Err f) decided is is' = same_unmoved f decided is is'
