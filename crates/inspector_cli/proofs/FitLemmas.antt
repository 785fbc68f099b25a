-- Bytes that are taken while cases go.
use Rattle.std.proofs.Common.{◌≡◌, inl, inr, ℕ, zero, suc, ◌<◌, ◌≤◌, Bool, true, false, cond, List, [], ◌∷◌, ◌++◌, length, Option, Some, None, Result, Ok, Err, refl, sym, ap, subst, ◌∙◌, arith, append_assoc}
use Rattle.std.proofs.lemmas.List.{append-nil}
use Rattle.std.proofs.lemmas.Bool.{true≢false}
use Rattle.std.specs.List.{find, flat_map}
use Rattle.std.specs.Io.KnownBytes.{Consumes}
use Rattle.std.specs.Prelude.{slice_set, map, option_map, IsTrue}
use Rattle.journal_layout.specs.Case.{Case, case_of}
use Rattle.journal_layout.specs.declared.entry.Entry.{Entry}
use Rattle.disk_model.specs.declared.disk.Disk as disk
use Rattle.intake.specs.declared.faults.ArchiveFault.{ArchiveFault}
use Rattle.intake.specs.Calls.{DeleteCall}
use Rattle.intake.specs.Contents.{Contents, Taken}
use Rattle.intake.specs.Parts.{Parts, state_of, contents_of}
use Rattle.intake.specs.Slots.{stream_at}
use Rattle.intake.specs.State.{ArchiveState, StreamFacts}
use Rattle.intake.specs.StayLaws.{stays_none}
use Rattle.intake.specs.Step.{longer}
use Rattle.script_streams.specs.Replies.{PrintsText}
use Rattle.script_streams.specs.Printing.{Sink}
use Rattle.script_streams.specs.PrintLaws.{prints_then, prints_as, prints_nothing}
use Rattle.inspector_cli.specs.declared.session.Order.{Order}
use Rattle.inspector_cli.specs.declared.session.Order.TheVariants.{Oldest}
use Rattle.inspector_cli.specs.declared.store.TakeStop.{TakeStop}
use Rattle.inspector_cli.specs.declared.store.TakeStop.TheVariants.{File, Refused, Cut, Differs}
use Rattle.inspector_cli.specs.declared.stated.Difference.TheVariants.{Short, Long, Digest}
use Rattle.inspector_cli.specs.Reply.{TakeStep, TakeBytes, Takes}
use Rattle.inspector_cli.specs.Fitting.{Going, IsGoing, IsNext, GoesOn, TakesWhile, going_text, goes, goes_first, may_go, may_go_first, next_core, next_to_go, or_else}
use Rattle.inspector_cli.specs.Storing.{LooksPast, TakesMore, AfterRoom, MakesRoom, GoesNext, TakesNext}
use Rattle.inspector_cli.proofs.SlotLemmas.{at_set}

-- the first of these entries that is so, as a case
pub find_mapped : (p : Case → Bool) (es : List Entry) → find p (map case_of es) ≡ option_map case_of (find (λ (e : Entry). p (case_of e)) es)
find_mapped p [] = refl
find_mapped p (e ∷ es) = elim (p (case_of e)) as (λ t. cond t (Some (case_of e)) (find p (map case_of es)) ≡ option_map case_of (cond t (Some e) (find (λ (x : Entry). p (case_of x)) es))) [ true ↦ refl | false ↦ find_mapped p es ]

-- the core that goes next, of the oldest
mapped_twice : {X : Type 0} (f : X → Entry) (o : Option X) → option_map (λ x. case_of (f x)) o ≡ option_map case_of (option_map f o)
mapped_twice f None = refl
mapped_twice f (Some x) = refl

pub oldest_core : {X : Type 0} (f : X → Entry) (es : List Entry) (o : Option X) → option_map f o ≡ find goes_first es → option_map (λ x. case_of (f x)) o ≡ next_core Oldest (map case_of es)
oldest_core f es o is = mapped_twice f o ∙ ap (option_map case_of) is ∙ sym (find_mapped may_go_first es)

-- the core that goes next, or the executable, or none
pub core_goes : (order : Order) (es : List Entry) (e : Entry) → Some (case_of e) ≡ next_core order (map case_of es) → IsNext order (map case_of es) e.seq
core_goes order es e is = (case_of e, ap (λ (o : Option Case). or_else o (find may_go (map case_of es))) (sym is), refl)

pub case_goes : (order : Order) (es : List Entry) (e : Entry) → None ≡ next_core order (map case_of es) → Some e ≡ find goes es → IsNext order (map case_of es) e.seq
case_goes order es e none is =
    (case_of e, ap (λ (o : Option Case). or_else o (find may_go (map case_of es))) (sym none) ∙ find_mapped may_go es ∙ ap (option_map case_of) (sym is), refl)

pub none_goes : (order : Order) (es : List Entry) → None ≡ next_core order (map case_of es) → None ≡ find goes es → next_to_go order (map case_of es) ≡ None
none_goes order es none other =
    ap (λ (o : Option Case). or_else o (find may_go (map case_of es))) (sym none) ∙ find_mapped may_go es ∙ ap (option_map case_of) (sym other)

ok_err : (u : Unit {0}) (f : ArchiveFault) → ◌≡◌ {A = Result (Unit {0}) ArchiveFault} (Ok u) (Err f) → ⊥
ok_err u f is = cc

-- what follows a case that went
pub on : {D : Type 0} (a : Result (Unit {0}) ArchiveFault) (ws : List (Going D)) (rest : List ℕ) (after mid : Parts D) (T : Type 0) → GoesOn a ws rest (Ok tt) after mid T → T
on (Ok u) ws rest after mid T goes = goes
on (Err f) ws rest after mid T goes = absurd (ok_err tt f goes.2)

back : {D : Type 0} (a v : Result (Unit {0}) ArchiveFault) (ws ws' : List (Going D)) (rest rest' : List ℕ) (after mid new : Parts D) (T T' : Type 0) → GoesOn a ws rest (Ok tt) after mid T → T' → GoesOn a ws' rest' v after new T'
back (Ok u) v ws ws' rest rest' after mid new T T' goes t = t
back (Err f) v ws ws' rest rest' after mid new T T' goes t = absurd (ok_err tt f goes.2)

-- a case that is followed by bytes that are taken went
pub answered : {D : Type 0} (a : Result (Unit {0}) ArchiveFault) (ws : List (Going D)) (rest : List ℕ) (after mid : Parts D) (T : Type 0) → GoesOn a ws rest (Ok tt) after mid T → (u : Unit {0}) × (a ≡ Ok u)
answered (Ok u) ws rest after mid T goes = (u, refl)
answered (Err f) ws rest after mid T goes = absurd (ok_err tt f goes.2)

-- what follows a case that went, or could not be deleted
pub either : {D : Type 0} (a v : Result (Unit {0}) ArchiveFault) (ws : List (Going D)) (rest : List ℕ) (after new : Parts D) (T R : Type 0) → GoesOn a ws rest v after new T → (T → R) → (ws ≡ [] → new ≡ after → R) → R
either (Ok u) v ws rest after new T R goes f h = f goes
either (Err e) v ws rest after new T R goes f h = h goes.0 goes.3

module _ (file file' : Option (List ℕ)) (fails fails' : ℕ) (A : List ℕ → Type 0) (T T' : List ℕ → Result (Unit {0}) ArchiveFault → Type 0) (front rest : List ℕ) (more : (x : List ℕ) (v : Result (Unit {0}) ArchiveFault) → T x v → T' (front ++ x) v) where
  map_more : (result : Result ℕ TakeStop) → TakesMore file file' fails fails' rest A T result → TakesMore file file' fails fails' (front ++ rest) A T' result
  map_more (Ok (suc n)) (raw, c, some, same, t, added) = (raw, c, some, same, subst (λ (x : List ℕ). T' x (Ok tt)) (sym (append_assoc front rest raw)) (more (rest ++ raw) (Ok tt) t), added)
  map_more (Ok zero) (c, ends, same, t, added) = (c, ends, same, more rest (Ok tt) t, added)
  map_more (Err File) (c, rose, t) = (c, rose, more rest (Ok tt) t)
  map_more (Err (Refused f)) (raw, c, same, t) = (raw, c, same, subst (λ (x : List ℕ). T' x (Err f)) (sym (append_assoc front rest raw)) (more (rest ++ raw) (Err f) t))
  map_more (Err (Cut kept)) (raw, c, some, same, t) = (raw, c, some, same, more rest (Ok tt) t)
  map_more (Err (Differs Long)) (raw, c, some, same, t) = (raw, c, some, same, more rest (Ok tt) t)
  map_more (Err (Differs Short)) t = absurd t
  map_more (Err (Differs Digest)) t = absurd t

-- some bytes are taken
pub took_some : (file file' : Option (List ℕ)) (fails fails' : ℕ) (so_far : List ℕ) (A : List ℕ → Type 0) (T : List ℕ → Result (Unit {0}) ArchiveFault → Type 0) (n : ℕ) → (n ≡ 0 → ⊥)
    → (raw : List ℕ) × Consumes file file' raw × (length raw ≡ n) × (fails' ≡ fails) × T (so_far ++ raw) (Ok tt) × A raw → TakesMore file file' fails fails' so_far A T (Ok n)
took_some file file' fails fails' so_far A T zero some t = absurd (some refl)
took_some file file' fails fails' so_far A T (suc n) some t = t

module _ {D : Type 0} (g : disk.Ghosts D) (order : Order) where
  -- the last bytes, which were taken since the last case went
  pub last_takes : (gone : List (Going D)) (old mid : Parts D) (raw : List ℕ) → TakesWhile g order old raw gone (Ok tt) mid → (begun : Parts D) × (so_far : List ℕ) × Takes g begun 0 so_far (Ok tt) mid
  last_takes [] old mid raw takes = (old, raw, takes)
  last_takes (w ∷ ws) old mid raw takes = last_takes ws w.after mid takes.1 (on w.answer ws takes.1 w.after mid (TakesWhile g order w.after takes.1 ws (Ok tt) mid) takes.5)

  -- a step of the stream alone is one while cases go
  pub lift_more : (file file' : Option (List ℕ)) (fails fails' : ℕ) (A : List ℕ → Type 0) (gone : List (Going D)) (old mid new : Parts D) (raw : List ℕ) (result : Result ℕ TakeStop) → TakesWhile g order old raw gone (Ok tt) mid
      → ((begun : Parts D) (so_far : List ℕ) → Takes g begun 0 so_far (Ok tt) mid → TakesMore file file' fails fails' so_far A (λ x v. Takes g begun 0 x v new) result)
      → TakesMore file file' fails fails' raw A (λ x v. TakesWhile g order old x gone v new) result
  lift_more file file' fails fails' A [] old mid new raw result takes step = step old raw takes
  lift_more file file' fails fails' A (w ∷ ws) old mid new raw result takes step =
      let tail = on w.answer ws takes.1 w.after mid (TakesWhile g order w.after takes.1 ws (Ok tt) mid) takes.5 in
      subst (λ (x : List ℕ). TakesMore file file' fails fails' x A (λ y v. TakesWhile g order old y (w ∷ ws) v new) result) (sym takes.2)
      (map_more file file' fails fails' A (λ x v. TakesWhile g order w.after x ws v new) (λ y v. TakesWhile g order old y (w ∷ ws) v new) takes.0 takes.1
      (λ x v t. (takes.0, x, refl, takes.3, takes.4, back w.answer v ws ws takes.1 x w.after mid new (TakesWhile g order w.after takes.1 ws (Ok tt) mid) (TakesWhile g order w.after x ws v new) takes.5 t))
      result (lift_more file file' fails fails' A ws w.after mid new takes.1 result tail step))

  -- one case more goes
  add_gone : (gone : List (Going D)) (old new : Parts D) (raw : List ℕ) (w : Going D) (v : Result (Unit {0}) ArchiveFault) → TakesWhile g order old raw gone (Ok tt) w.before → IsGoing g order w
      → GoesOn w.answer [] [] v w.after new (Takes g w.after 0 [] v new) → TakesWhile g order old raw (gone ++ w ∷ []) v new
  add_gone [] old new raw w v takes going last = (raw, [], sym (append-nil raw), takes, going, last)
  add_gone (x ∷ xs) old new raw w v takes going last =
      let tail = on x.answer xs takes.1 x.after w.before (TakesWhile g order x.after takes.1 xs (Ok tt) w.before) takes.5 in (
        takes.0,
        takes.1,
        takes.2,
        takes.3,
        takes.4,
        back x.answer v xs (xs ++ w ∷ []) takes.1 takes.1 x.after w.before new (TakesWhile g order x.after takes.1 xs (Ok tt) w.before) (TakesWhile g order x.after takes.1 (xs ++ w ∷ []) v new) takes.5
            (add_gone xs x.after new takes.1 w v tail going last),
      )

at_again : {X : Type 0} (xs : List (Option X)) (slot : ℕ) (x : X) → stream_at xs slot ≡ Some x → slice_set xs slot (Some x) ≡ xs
at_again [] slot x is = refl
at_again (y ∷ ys) zero x is = ap (λ (o : Option _). o ∷ ys) (sym is)
at_again (y ∷ ys) (suc slot) x is = ap (λ zs. y ∷ zs) (at_again ys slot x is)

-- an open stream has taken no bytes since now
open_step : (a : ArchiveState) (s : StreamFacts) → a.stopped ≡ false → stream_at a.streams 0 ≡ Some s → s.len ≤ a.limit → TakeStep a 0 0 (Ok tt) a
open_step a s runs there small = (
  s,
  (runs, there),
  (omega (arith, small), λ m wall. omega (arith, wall.1)),
  s.blocks,
  ap (λ (xs : List (Option StreamFacts)). record a { streams = xs })
      (sym (ap (λ (n : ℕ). slice_set a.streams 0 (Some (record s { len = n }))) (omega arith) ∙ at_again a.streams 0 s there)),
  (0, omega arith, refl),
)

open_bytes : (c : Contents) (t : Taken) → stream_at c.taken 0 ≡ Some t → TakeBytes c 0 [] (Ok tt) c
open_bytes c t there = (
  t,
  t.free,
  there,
  ap (λ (xs : List (Option Taken)). record c { taken = xs })
      (sym (ap (λ (bs : List ℕ). slice_set c.taken 0 (Some (record { bytes = bs; free = t.free }))) (append-nil t.bytes) ∙ at_again c.taken 0 t there)),
)

module _ {D : Type 0} (g : disk.Ghosts D) (begun before after : Parts D) (so_far : List ℕ) (seq : ℕ) (u : Unit {0}) (takes : Takes g begun 0 so_far (Ok tt) before) (deletes : DeleteCall g before seq (Ok u) after) where
  -- the stream that takes bytes
  abbrev stream : StreamFacts
  stream = longer takes.step.0 (length so_far) takes.step.3

  there_before : stream_at (state_of before).streams 0 ≡ Some stream
  there_before =
      ap (λ (x : ArchiveState). stream_at x.streams 0) takes.step.4 ∙ at_set (state_of begun).streams 0 takes.step.0 (Some stream) takes.step.1.1

  state_then : TakeStep (state_of after) 0 0 (Ok tt) (state_of after)
  state_then =
      let e = deletes.step.4 in
      open_step (state_of after) stream
      (ap (λ (x : ArchiveState). x.stopped) e ∙ ap (λ (x : ArchiveState). x.stopped) takes.step.4 ∙ takes.step.1.0)
      (ap (λ (x : ArchiveState). stream_at x.streams 0) e ∙ there_before)
      (let small = takes.step.2.0 in let limit : (state_of after).limit ≡ (state_of begun).limit = ap (λ (x : ArchiveState). x.limit) e ∙ ap (λ (x : ArchiveState). x.limit) takes.step.4 in omega (arith, small, limit))

  bytes_then : IsTrue (g.is_honest before.disk) → IsTrue (g.is_honest begun.disk) → TakeBytes (contents_of g.seen after) 0 [] (Ok tt) (contents_of g.seen after)
  bytes_then honest first =
      let b = takes.bytes first in
      let t : Taken = record { bytes = b.0.bytes ++ so_far; free = b.1 } in
      open_bytes (contents_of g.seen after) (record { bytes = b.0.bytes ++ so_far; free = b.1 })
      (ap (λ (x : Contents). stream_at x.taken 0) (deletes.bytes honest) ∙ ap (λ (x : Contents). stream_at x.taken 0) b.3
      ∙ at_set (contents_of g.seen begun).taken 0 b.0 (Some (record { bytes = b.0.bytes ++ so_far; free = b.1 })) b.2)

  pub still_takes : Takes g after 0 [] (Ok tt) after
  still_takes = record {
    step = state_then;
    bytes = λ honest.
        (let was : IsTrue (g.is_honest before.disk) = sym deletes.changes.disk.honesty ∙ honest in
        bytes_then was (sym takes.stays.honesty ∙ was));
    cause = λ fault. absurd fault;
    stays = stays_none g after;
  }

-- the answer after the byte, where room was made or was not
abbrev pub first_then : ℕ → Result (Unit {0}) TakeStop → Result ℕ TakeStop
first_then n (Ok u) = Ok n
first_then n (Err stop) = Err stop

pub texts_more : {D : Type 0} (xs ys : List (Going D)) → flat_map going_text (xs ++ ys) ≡ flat_map going_text xs ++ flat_map going_text ys
texts_more [] ys = refl
texts_more (x ∷ xs) ys = ap (λ (t : List ℕ). going_text x ++ t) (texts_more xs ys) ∙ sym (append_assoc (going_text x) (flat_map going_text xs) (flat_map going_text ys))

-- nothing was lacking
pub room_none : {D : Type 0} (g : disk.Ghosts D) (order : Order) (begun : Parts D) (so_far : List ℕ) (gone : List (Going D)) (a : Sink) (mid : Parts D) → TakesWhile g order begun so_far gone (Ok tt) mid
    → MakesRoom g order begun so_far gone (record { before = a; after = a }) mid (Ok tt)
room_none {D} g order begun so_far gone a mid takes = ([], prints_nothing, subst (λ (l : List (Going D)). TakesWhile g order begun so_far l (Ok tt) mid) (sym (append-nil gone)) takes)

module _ {D : Type 0} (g : disk.Ghosts D) (order : Order) (begun : Parts D) (so_far : List ℕ) (gone : List (Going D)) (a b : Sink) (mid new : Parts D) (seq : ℕ) (takes : TakesWhile g order begun so_far gone (Ok tt) mid) where
  -- a case goes
  pub one_gone : (u : Unit {0}) → IsGoing g order (record { before = mid; seq = seq; answer = Ok u; after = new })
      → PrintsText (record { before = a; after = b }) (going_text (record { before = mid; seq = seq; answer = Ok u; after = new })) → GoesNext g order begun so_far gone (record { before = a; after = b }) new (Ok true)
  one_gone u going states =
      let l = last_takes g order gone begun mid so_far takes in (
        record { before = mid; seq = seq; answer = Ok u; after = new } ∷ [],
        prints_as (sym (append-nil (going_text (record { before = mid; seq = seq; answer = Ok u; after = new })))) states,
        add_gone g order gone begun new so_far (record { before = mid; seq = seq; answer = Ok u; after = new }) (Ok tt) takes going
            (still_takes g l.0 mid new l.1 seq u l.2 going.deletes),
      )

  -- a case could not be deleted
  pub one_stuck : (f : ArchiveFault) → IsGoing g order (record { before = mid; seq = seq; answer = Err f; after = new })
      → GoesNext g order begun so_far gone (record { before = a; after = a }) new (Err (Refused f))
  one_stuck f going = (
    record { before = mid; seq = seq; answer = Err f; after = new } ∷ [],
    prints_nothing,
    add_gone g order gone begun new so_far (record { before = mid; seq = seq; answer = Err f; after = new }) (Err f) takes going (refl, refl, refl, refl),
  )

-- what is taken next
module _ {D : Type 0} (g : disk.Ghosts D) (order : Order) (file file' : Option (List ℕ)) (fails fails' : ℕ) (begun old mid new : Parts D) (so_far : List ℕ) (gone : List (Going D)) (fit : Bool) (A : List ℕ → Type 0) where
  more_as : (xs ys : List (Going D)) (a : Parts D) → xs ≡ ys → (x : List ℕ) (r : Result ℕ TakeStop) → TakesMore file file' fails fails' x A (λ y v. TakesWhile g order begun y xs v a) r → TakesMore file file' fails fails' x A (λ y v. TakesWhile g order begun y ys v a) r
  more_as xs ys a is x r t = subst (λ (l : List (Going D)). TakesMore file file' fails fails' x A (λ y v. TakesWhile g order begun y l v a) r) is t

  -- nothing goes
  pub next_alone : (a : Sink) (r : Result ℕ TakeStop) → TakesWhile g order begun so_far gone (Ok tt) old
      → ((b : Parts D) (x : List ℕ) → Takes g b 0 x (Ok tt) old → TakesMore file file' fails fails' x A (λ y v. Takes g b 0 y v new) r)
      → TakesNext g order file file' fails fails' begun so_far gone fit A (record { before = a; after = a }) new r
  next_alone a r takes step =
      ([], prints_nothing, more_as gone (gone ++ []) new (sym (append-nil gone)) so_far r (lift_more g order file file' fails fails' A gone begun old new so_far r takes step), λ no. refl)

  -- a look at whether more follow, and what it may stop a file for
  abbrev pub StopsBehind : TakeStop → Type 0
  StopsBehind File = ⊥
  StopsBehind (Refused f) = ⊥
  StopsBehind (Cut kept) = Unit {0}
  StopsBehind (Differs Short) = ⊥
  StopsBehind (Differs Long) = Unit {0}
  StopsBehind (Differs Digest) = ⊥

  went_on : (l : List (Going D)) → TakesWhile g order begun so_far l (Ok tt) old → (stop : TakeStop) → StopsBehind stop → (raw : List ℕ) × Consumes file file' raw × (0 < length raw) × (fails' ≡ fails) → TakesMore file file' fails fails' so_far A (λ y v. TakesWhile g order begun y l v old) (Err stop)
  went_on l takes File behind look = absurd behind
  went_on l takes (Refused f) behind look = absurd behind
  went_on l takes (Cut kept) behind (raw, c, some, same) = (raw, c, some, same, takes)
  went_on l takes (Differs Short) behind look = absurd behind
  went_on l takes (Differs Digest) behind look = absurd behind
  went_on l takes (Differs Long) behind (raw, c, some, same) = (raw, c, some, same, takes)

  looked : (stop : TakeStop) → StopsBehind stop → A [] → (l : List (Going D)) → TakesWhile g order begun so_far l (Ok tt) old → (r : Result ℕ TakeStop) → LooksPast file file' fails fails' stop r → TakesMore file file' fails fails' so_far A (λ y v. TakesWhile g order begun y l v old) r
  looked stop behind added l takes (Ok zero) (is, none, ends, same) = (none, ends, same, takes, added)
  looked stop behind added l takes (Ok (suc n)) (is, none, ends, same) = absurd (omega (arith, is))
  looked stop behind added l takes (Err why) (inl (is, none, rose)) = subst (λ (w : TakeStop). TakesMore file file' fails fails' so_far A (λ y v. TakesWhile g order begun y l v old) (Err w)) (sym is) (none, rose, takes)
  looked stop behind added l takes (Err why) (inr (is, raw, c, some, same)) = subst (λ (w : TakeStop). TakesMore file file' fails fails' so_far A (λ y v. TakesWhile g order begun y l v old) (Err w)) (sym is) (went_on l takes stop behind (raw, c, some, same))

  pub look_next : (stop : TakeStop) → StopsBehind stop → A [] → (a : Sink) (r : Result ℕ TakeStop) → TakesWhile g order begun so_far gone (Ok tt) old → LooksPast file file' fails fails' stop r
      → TakesNext g order file file' fails fails' begun so_far gone fit A (record { before = a; after = a }) old r
  look_next stop behind added a r takes look = ([], prints_nothing, looked stop behind added (gone ++ []) (subst (λ (l : List (Going D)). TakesWhile g order begun so_far l (Ok tt) old) (sym (append-nil gone)) takes) r look, λ no. refl)

  -- cases may go
  pub next_as : (a b : Sink) (r : Result ℕ TakeStop) → fit ≡ true → TakesNext g order file file' fails fails' begun so_far gone true A (record { before = a; after = b }) new r
      → TakesNext g order file file' fails fails' begun so_far gone fit A (record { before = a; after = b }) new r
  next_as a b r is next = subst (λ (f : Bool). TakesNext g order file file' fails fails' begun so_far gone f A (record { before = a; after = b }) new r) (sym is) next

  -- one byte is taken, and then cases go
  room_then_next : (n : ℕ) (a b : Sink) (r : Result (Unit {0}) TakeStop) (first : TakesMore file file' fails fails' so_far A (λ y v. TakesWhile g order begun y gone v mid) (Ok (suc n)))
      → MakesRoom g order begun (so_far ++ first.0) gone (record { before = a; after = b }) new r → TakesNext g order file file' fails fails' begun so_far gone true A (record { before = a; after = b }) new (first_then (suc n) r)
  room_then_next n a b (Ok u) first room = (room.0, room.1, (first.0, first.1, first.2, first.3, room.2, first.5), λ no. absurd (true≢false no))
  room_then_next n a b (Err File) first room = absurd room.2
  room_then_next n a b (Err (Cut kept)) first room = absurd room.2
  room_then_next n a b (Err (Differs f)) first room = absurd room.2
  room_then_next n a b (Err (Refused f)) first room = (room.0, room.1, (first.0, first.1, first.3, room.2), λ no. absurd (true≢false no))

  pub next_then : (n : ℕ) → (n ≡ 0 → ⊥) → (a b : Sink) (r : Result (Unit {0}) TakeStop) → TakesWhile g order begun so_far gone (Ok tt) old
      → ((x : Parts D) (s : List ℕ) → Takes g x 0 s (Ok tt) old → TakesMore file file' fails fails' s A (λ y v. Takes g x 0 y v mid) (Ok n))
      → ((x : Parts D) (s : List ℕ) (l : List (Going D)) → TakesWhile g order x s l (Ok tt) mid → MakesRoom g order x s l (record { before = a; after = b }) new r)
      → TakesNext g order file file' fails fails' begun so_far gone true A (record { before = a; after = b }) new (first_then n r)
  next_then zero some a b r takes step room = absurd (some refl)
  next_then (suc n) some a b r takes step room =
      let first = lift_more g order file file' fails fails' A gone begun old mid so_far (Ok (suc n)) takes step in
      room_then_next n a b r first (room begun (so_far ++ first.0) gone first.4)

module _ {D : Type 0} (g : disk.Ghosts D) (order : Order) (begun : Parts D) (so_far : List ℕ) (gone : List (Going D)) (a b c : Sink) (new : Parts D) where
  after_as : (xs ys : List (Going D)) → xs ≡ ys → (r : Result (Unit {0}) TakeStop) → AfterRoom (λ raw v. TakesWhile g order begun raw xs v new) so_far r → AfterRoom (λ raw v. TakesWhile g order begun raw ys v new) so_far r
  after_as xs ys is r t = subst (λ (l : List (Going D)). AfterRoom (λ raw v. TakesWhile g order begun raw l v new) so_far r) is t

  -- room that is made in two steps
  pub room_then : (r : Result (Unit {0}) TakeStop) (first : List (Going D)) → PrintsText (record { before = a; after = b }) (flat_map going_text first)
      → MakesRoom g order begun so_far (gone ++ first) (record { before = b; after = c }) new r → MakesRoom g order begun so_far gone (record { before = a; after = c }) new r
  room_then r first states more = (
    first ++ more.0,
    prints_as (sym (texts_more first more.0)) (prints_then states more.1),
    after_as ((gone ++ first) ++ more.0) (gone ++ (first ++ more.0)) (append_assoc gone first more.0) r more.2,
  )
