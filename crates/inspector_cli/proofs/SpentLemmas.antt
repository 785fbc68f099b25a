-- A stream for which cases may go is refused for want of room only where none may go any more.
use Rattle.std.proofs.Common.{◌≡◌, inl, inr, ⊎_elim, ◌⊎◌, ℕ, zero, suc, ◌+◌, ◌/◌, ◌%◌, ◌<◌, ◌≤◌, Bool, true, false, not, cond, ◌==◌, ◌||◌, nat_eq, List, [], ◌∷◌, ◌++◌, length, length-take-le, min, take, Option, Some, None, Result, Ok, Err, refl, sym, ap, subst, ◌∙◌, arith}
use Rattle.std.proofs.lemmas.Bool.{cases_eq, cond_both, eq-eqb, ne_eqb, ltb-true, eqb-false, false≢true, true≢false}
use Rattle.std.proofs.lemmas.List.Sums.{sum_by-cons, sum_by_push}
use Rattle.std.proofs.Math.Dec.{eqb}
use Rattle.std.specs.List.{filter}
use Rattle.std.specs.Prelude.{codes, option_map, sum_by, nat_lt}
use Rattle.extents.specs.declared.run_list.Run.{Run}
use Rattle.extents.specs.Runs.{runs_of, with_first}
use Rattle.journal_layout.specs.Case.{Case}
use Rattle.journal_layout.specs.Folding.{is_among, dropped}
use Rattle.journal_layout.specs.Layout.{half_length}
use Rattle.journal_layout.specs.Soundness.{case_numbered}
use Rattle.intake.specs.declared.faults.ArchiveFault.{ArchiveFault}
use Rattle.intake.specs.declared.faults.ArchiveFault.TheVariants.{Stopped, BadSlot, SlotBusy, NameTaken, NoStream, TooLong, SpaceFull, NoCase, Pinned, JournalFull, NumbersSpent, OutOfMemory, Disk, OldVersion}
use Rattle.intake.specs.Needs.{has_record_room, lacks_room_for, longest_record}
use Rattle.intake.specs.Parts.{Parts, StreamParts, state_of, stream_facts}
use Rattle.intake.specs.Room.{FitsFree, room_left}
use Rattle.intake.specs.Slots.{stream_at}
use Rattle.intake.specs.State.{ArchiveState, StreamFacts, blocks_in, blocks_for}
use Rattle.intake.specs.Step.{AdvanceStep, DeleteStep, FillsBlocks, FinishStep, IsFull, IsLastGeneration, TakesLowest, case_from, case_size, cases_with, cases_without, drop_size, longer, snapshot_size, stream_size, with_stream, without_cases}
use Rattle.script_streams.specs.Replies.{no_reply}
use Rattle.archive_replies.specs.Reasons.{reason_of}
use Rattle.archive_replies.specs.Texts.{end_reply}
use Rattle.inspector_cli.specs.declared.fitting.Need.{Need}
use Rattle.inspector_cli.specs.declared.fitting.Need.TheVariants.{Block, Record}
use Rattle.inspector_cli.specs.declared.session.Order.{Order}
use Rattle.inspector_cli.specs.declared.store.TakeStop.{TakeStop}
use Rattle.inspector_cli.specs.declared.store.TakeStop.TheVariants.{File, Refused, Cut, Differs}
use Rattle.inspector_cli.specs.declared.stated.Stated.{Stated}
use Rattle.inspector_cli.specs.declared.stated.Difference.{Difference}
use Rattle.inspector_cli.specs.declared.stated.Difference.TheVariants.{Short, Long, Digest}
use Rattle.inspector_cli.specs.Storing.{difference_reason}
use Rattle.inspector_cli.specs.Fitting.{EndsAt, IsNext, NoneMayGo, IsSpent, RefusedIfSpent, FillsWhole, IsServed, HasMadeRoom, FitsPart, Advances, AdvancesBy, ServesOn, DropsOne, DropsAll, FillsServed}
use Rattle.inspector_cli.proofs.GoingLemmas.{next_may}
use Rattle.inspector_cli.proofs.RoomLemmas.{states_agree}
use Rattle.inspector_cli.proofs.SlotLemmas.{at_mapped, at_set, sum_set}

none_some : (c : Case) → ◌≡◌ {A = Option Case} None (Some c) → ⊥
none_some c is = cc

-- the blocks of a case
abbrev size_of : Case → ℕ
size_of c = blocks_for c.len

-- some of the cases are no more, and have no more blocks
left_less : (p : Case → Bool) (cs : List Case) → (length (filter p cs) ≤ length cs) × (sum_by size_of (filter p cs) ≤ sum_by size_of cs)
left_less p [] = (omega arith, omega arith)
left_less p (c ∷ cs) =
    let m = left_less p cs in
    let a = sum_by-cons size_of c (filter p cs) in
    let b = sum_by-cons size_of c cs in
    let few = m.0 in
    let small = m.1 in
    elim (p c) as (λ t. (length (cond t (c ∷ filter p cs) (filter p cs)) ≤ length (c ∷ cs)) × (sum_by size_of (cond t (c ∷ filter p cs) (filter p cs)) ≤ sum_by size_of (c ∷ cs))) [
      | true ↦ (omega (arith, few), omega (arith, small, a, b))
      | false ↦ (omega (arith, few), omega (arith, small, b))
    ]

-- where one of these cases goes, there are fewer
fewer_left : (seq : ℕ) (cs : List Case) (c : Case) → case_numbered seq cs ≡ Some c → length (dropped (seq ∷ []) cs) < length cs
fewer_left seq [] c found = absurd (none_some c found)
fewer_left seq (d ∷ rest) c found =
    elim (cases_eq d.seq seq) as (λ _. length (dropped (seq ∷ []) (d ∷ rest)) < length (d ∷ rest)) [
      | inl same ↦ here (ap (is_among (seq ∷ [])) same ∙ among)
      | inr other ↦ there (fewer_left seq rest c (rw (ne_eqb d.seq seq other) at found))
    ]
  where
    first : (t : Bool) → nat_eq seq seq ≡ true → (nat_eq seq seq || t) ≡ true
    first t e = rw e refl

    among : is_among (seq ∷ []) seq ≡ true
    among = first false (eq-eqb seq seq refl)

    less : length (dropped (seq ∷ []) rest) ≤ length rest
    less = (left_less (λ (e : Case). not (is_among (seq ∷ []) e.seq)) rest).0

    here : is_among (seq ∷ []) d.seq ≡ true → length (dropped (seq ∷ []) (d ∷ rest)) < length (d ∷ rest)
    here gone = rw gone (omega (arith, less))

    there : length (dropped (seq ∷ []) rest) < length rest → length (dropped (seq ∷ []) (d ∷ rest)) < length (d ∷ rest)
    there more =
        cond_both (not (is_among (seq ∷ []) d.seq)) (d ∷ dropped (seq ∷ []) rest) (dropped (seq ∷ []) rest) (λ (l : List Case). length l < length (d ∷ rest))
        (λ _. omega (arith, more)) (λ _. omega (arith, more))

-- a case goes
pub delete_serves : (order : Order) (s s' : ArchiveState) (seq : ℕ) (u : Unit {0}) → IsNext order s.cases seq → DeleteStep s seq (Ok u) s' → (IsServed s → IsServed s') × (length s'.cases < length s.cases)
delete_serves order s s' seq u next step =
    subst (λ (x : ArchiveState). (IsServed s → IsServed x) × (length x.cases < length s.cases)) (sym step.4) (served, fewer_left seq s.cases step.0 step.1.1)
  where
    served : IsServed s → IsServed (without_cases s (seq ∷ []))
    served was awake full =
        let less = (left_less (λ (e : Case). not (is_among (seq ∷ []) e.seq)) s.cases).1 in
        ⊎_elim (λ none. absurd (next_may order s.cases next.0 next.1 none)) (λ whole. inr whole) (was awake (omega (arith, full, less)))

-- or can't
pub delete_refused : (order : Order) (s s' : ArchiveState) (seq : ℕ) (f : ArchiveFault) → IsNext order s.cases seq → DeleteStep s seq (Err f) s' → IsSpent order f s'
delete_refused order s s' seq JournalFull next step =
    subst (IsSpent order JournalFull) (sym step.4)
    (inr (inr (next.0, next.1, subst (λ (n : ℕ). IsFull s (drop_size 1) (cases_without s (n ∷ []))) (sym next.2) step.3)))
delete_refused order s s' seq SpaceFull next step = absurd step
delete_refused order s s' seq _ next step = tt

-- steps that let cases go, one by one
pub gone_then : (order : Order) (need : Need) (s s' : ArchiveState) (gone : Bool) → gone ≡ true → DropsOne order need s (Ok gone) s' → (IsServed s → IsServed s') × (length s'.cases < length s.cases)
gone_then order need s s' true is step = step
gone_then order need s s' false is step = absurd (false≢true is)

pub made_then : (order : Order) (need : Need) (first s s' : ArchiveState) (gone : Bool) → gone ≡ false → (IsServed first → IsServed s) → DropsOne order need s (Ok gone) s' → DropsAll order need first (Ok tt) s'
made_then order need first s s' true is so_far step = absurd (true≢false is)
made_then order need first s s' false is so_far step = (λ was. subst IsServed (sym step.0) (so_far was), step.1)

pub stuck_then : (order : Order) (need : Need) (first s s' : ArchiveState) (stop : TakeStop) → DropsOne order need s (Err stop) s' → DropsAll order need first (Err stop) s'
stuck_then order need first s s' File step = tt
stuck_then order need first s s' (Cut kept) step = step
stuck_then order need first s s' (Differs f) step = step
stuck_then order need first s s' (Refused f) step = step

-- room that was made for a block
pub made_serves : (s : ArchiveState) → HasMadeRoom Block s → IsServed s
made_serves s (inl none) awake full = inl (none awake)
made_serves s (inr finds) awake full = let some = finds awake in absurd (omega (arith, some, full))

-- the blocks in use once bytes are taken
used_then : (s : ArchiveState) (x : StreamFacts) (n : ℕ) (blocks : List ℕ) → stream_at s.streams 0 ≡ Some x
    → blocks_in (with_stream s 0 (Some (longer x n blocks))) + x.len / 4096 ≡ blocks_in s + (x.len + n) / 4096
used_then s x n blocks is =
    let e = sum_set s.streams 0 x (longer x n blocks) is in
    omega (arith, e)

fills_numbers : (len n used used' all : ℕ) → len % 4096 + n ≤ 4096 → used < all → all ≤ used' → used' + len / 4096 ≡ used + (len + n) / 4096 → (len + n) % 4096 ≡ 0
fills_numbers len n used used' all fits some full grown = omega arith

-- bytes where a block is free
pub free_serves : (order : Order) (most : ℕ) (s s' : ArchiveState) (r : Result ℕ TakeStop) → (s.stopped ≡ false → blocks_in s < s.shape.data_blocks) → Advances most s r s' → ServesOn order r s'
free_serves order most s s' (Ok (suc m)) some (n, few, fits, (x, may, never, blocks, is, fills)) =
    subst IsServed (sym is)
    (λ awake full.
    (let fit : x.len % 4096 + n ≤ 4096 = subst (λ (o : Option StreamFacts). FitsPart o n) may.1 fits in
    let e : (x.len + n) % 4096 ≡ 0 = fills_numbers x.len n (blocks_in s) (blocks_in (with_stream s 0 (Some (longer x n blocks)))) s.shape.data_blocks fit (some awake) full (used_then s x n blocks may.1) in
    inr (subst FillsWhole (sym (at_set s.streams 0 x (Some (longer x n blocks)) may.1)) e)))
free_serves order most s s' (Ok zero) some is = subst IsServed (sym is) (λ awake full. let free = some awake in absurd (omega (arith, free, full)))
free_serves order most s s' (Err File) some is = tt
free_serves order most s s' (Err (Cut kept)) some step = absurd step
free_serves order most s s' (Err (Differs f)) some step = absurd step
free_serves order most s s' (Err (Refused SpaceFull)) some (inl reply) = absurd reply
free_serves order most s s' (Err (Refused SpaceFull)) some (inr (n, few, fits, (x, may, full, is))) =
    let free = some may.0 in
    let none = full.2 in
    absurd (omega (arith, free, none))
free_serves order most s s' (Err (Refused JournalFull)) some (inl reply) = absurd reply
free_serves order most s s' (Err (Refused JournalFull)) some (inr (n, few, fits, step)) = absurd step
free_serves order most s s' (Err (Refused _)) some step = tt

-- what is taken of the room that was lent
part_fits : (o : Option StreamParts) (n m : ℕ) → n ≤ m → FitsFree o m → FitsPart (option_map stream_facts o) n
part_fits None n m few fits = tt
part_fits (Some x) n m few fits = omega (arith, few, fits)

pub advanced_by : {D : Type 0} (a : Parts D) (lent : Result (Unit {0}) ArchiveFault) (ws : List ℕ) (n most m : ℕ) (r : Result (Unit {0}) ArchiveFault) (s' : ArchiveState)
    → n ≤ m → n ≤ most → FitsFree (stream_at a.streams 0) m → AdvanceStep (state_of (room_left a 0 lent ws)) 0 n r s' → AdvancesBy most (state_of a) r s'
advanced_by a lent ws n most m r s' few low fits step = (
  n,
  low,
  subst (λ (o : Option StreamFacts). FitsPart o n) (sym (at_mapped stream_facts a.streams 0)) (part_fits (stream_at a.streams 0) n m few fits),
  subst (λ (s : ArchiveState). AdvanceStep s 0 n r s') (states_agree a 0 lent ws) step,
)

pub advanced_some : (most : ℕ) (s s' : ArchiveState) (n : ℕ) → (n ≡ 0 → ⊥) → AdvancesBy most s (Ok tt) s' → Advances most s (Ok n) s'
advanced_some most s s' zero some by = absurd (some refl)
advanced_some most s s' (suc n) some by = by

-- no more than was asked for is read
pub read_few : (into room : List ℕ) (size most n : ℕ) → length into ≡ length (take size room) → size ≡ min (length room) most → n ≤ length into → n ≤ most
read_few into room size most n same is few =
    let c = length-take-le size room (omega (arith, is)) in
    omega (arith, c, same, is, few)

-- one byte, or none, where none is free; room is made after it
abbrev pub OneServes : Order → Result ℕ TakeStop → ArchiveState → Type 0
OneServes order (Ok zero) s = IsServed s
OneServes order (Ok (suc n)) s = Unit {0}
OneServes order (Err (Cut kept)) s = ⊥
OneServes order (Err (Differs f)) s = ⊥
OneServes order (Err File) s = Unit {0}
OneServes order (Err (Refused f)) s = IsSpent order f s

one_numbers : (len n : ℕ) → len % 4096 ≡ 0 → n ≤ 1 → (n ≡ 0 → ⊥) → (len + n) % 4096 ≡ 0 → ⊥
one_numbers len n whole few some fills = some (omega arith)

pub one_serves : (order : Order) (s s' : ArchiveState) (r : Result ℕ TakeStop) → IsServed s → Advances 1 s r s' → OneServes order r s'
one_serves order s s' (Ok (suc m)) served step = tt
one_serves order s s' (Err (Cut kept)) served step = absurd step
one_serves order s s' (Err (Differs f)) served step = absurd step
one_serves order s s' (Ok zero) served is = subst IsServed (sym is) served
one_serves order s s' (Err File) served is = tt
one_serves order s s' (Err (Refused SpaceFull)) served (inl reply) = absurd reply
one_serves order s s' (Err (Refused SpaceFull)) served (inr (n, few, fits, (x, may, full, is))) =
    let none = full.2 in
    subst NoneMayGo (sym is)
    (⊎_elim (λ spent. spent) (λ whole. absurd (one_numbers x.len n (subst FillsWhole may.1 whole) few full.0 full.1)) (served may.0 (omega (arith, none))))
one_serves order s s' (Err (Refused JournalFull)) served (inl reply) = absurd reply
one_serves order s s' (Err (Refused JournalFull)) served (inr (n, few, fits, step)) = absurd step
one_serves order s s' (Err (Refused _)) served step = tt

-- room for a block after one byte
pub room_serves : (order : Order) (s s' : ArchiveState) (r : Result (Unit {0}) TakeStop) → DropsAll order Block s r s' → ServesOn order r s'
room_serves order s s' (Ok u) step = made_serves s' step.1
room_serves order s s' (Err File) step = tt
room_serves order s s' (Err (Cut kept)) step = absurd step
room_serves order s s' (Err (Differs f)) step = absurd step
room_serves order s s' (Err (Refused f)) step = step

-- a step that stops stops all
pub stop_serves : (order : Order) (s : ArchiveState) (stop : TakeStop) → OneServes order (Err stop) s → ServesOn {A = ℕ} order (Err stop) s
stop_serves order s File step = tt
stop_serves order s (Cut kept) step = absurd step
stop_serves order s (Differs f) step = absurd step
stop_serves order s (Refused f) step = step

pub end_serves : (order : Order) (s : ArchiveState) (count : ℕ) → count ≡ 0 → OneServes order (Ok count) s → ServesOn {A = ℕ} order (Ok 0) s
end_serves order s (suc n) is step = absurd (omega (arith, is))
end_serves order s zero is step = step

-- and so does one that is refused within another
pub stop_as : (order : Order) (A : Type 0) (B : Type 0) (s : ArchiveState) (stop : TakeStop) → ServesOn {A = A} order (Err stop) s → ServesOn {A = B} order (Err stop) s
stop_as order A B s File step = tt
stop_as order A B s (Cut kept) step = step
stop_as order A B s (Differs f) step = step
stop_as order A B s (Refused f) step = step

-- room for the record
pub record_serves : (order : Order) (s s' : ArchiveState) (r : Result (Unit {0}) TakeStop) → IsServed s → DropsAll order Record s r s' → FillsServed order r s'
record_serves order s s' (Ok u) served step = (step.0 served, step.1)
record_serves order s s' (Err File) served step = tt
record_serves order s s' (Err (Cut kept)) served step = absurd step
record_serves order s s' (Err (Differs f)) served step = absurd step
record_serves order s s' (Err (Refused f)) served step = step

-- Runs of blocks: whether a block before others begins one more.
abbrev jumps : ℕ → List ℕ → ℕ
jumps b [] = 1
jumps b (x ∷ xs) = cond (b + 1 == x) 0 1

jumps_few : (b : ℕ) (xs : List ℕ) → jumps b xs ≤ 1
jumps_few b [] = omega arith
jumps_few b (x ∷ xs) = elim (b + 1 == x) as (λ t. cond t 0 1 ≤ 1) [ true ↦ omega arith | false ↦ omega arith ]

record StartsAt (x : ℕ) (rs : List Run) : Type 0 where
  first : Run
  rest : List Run
  is : rs ≡ first ∷ rest
  start : first.start ≡ x

starts_at : (x : ℕ) (rs : List Run) → StartsAt x (with_first x rs)
starts_at x [] = record { first = record { start = x; count = 1 }; rest = []; is = refl; start = refl }
starts_at x (r ∷ rs) =
    elim (x + 1 == r.start) as (λ t. StartsAt x (cond t (record { start = x; count = r.count + 1 } ∷ rs) (record { start = x; count = 1 } ∷ r ∷ rs))) [
      | true ↦ record { first = record { start = x; count = r.count + 1 }; rest = rs; is = refl; start = refl }
      | false ↦ record { first = record { start = x; count = 1 }; rest = r ∷ rs; is = refl; start = refl }
    ]

count_first : (b : ℕ) (xs : List ℕ) → length (runs_of (b ∷ xs)) ≡ length (runs_of xs) + jumps b xs
count_first b [] = refl
count_first b (x ∷ xs) =
    let s = starts_at x (runs_of xs) in
    subst (λ (l : List Run). length (with_first b l) ≡ length l + jumps b (x ∷ xs)) (sym s.is)
    (subst (λ (y : ℕ). length (with_first b (s.first ∷ s.rest)) ≡ length (s.first ∷ s.rest) + cond (b + 1 == y) 0 1) s.start
    (elim (b + 1 == s.first.start) as (λ t. length (cond t (record { start = b; count = s.first.count + 1 } ∷ s.rest) (record { start = b; count = 1 } ∷ s.first ∷ s.rest)) ≡ length (s.first ∷ s.rest) + cond t 0 1)
    [ true ↦ omega arith | false ↦ omega arith ]))

-- one block more is one run more at most
runs_push : (bs : List ℕ) (k : ℕ) → length (runs_of (bs ++ k ∷ [])) ≤ length (runs_of bs) + 1
runs_push [] k = omega arith
runs_push (b ∷ []) k =
    let a = count_first b (k ∷ []) in
    let few = jumps_few b (k ∷ []) in
    omega (arith, a, few)
runs_push (b ∷ x ∷ xs) k =
    let a = count_first b (x ∷ (xs ++ k ∷ [])) in
    let c = count_first b (x ∷ xs) in
    let more = runs_push (x ∷ xs) k in
    omega (arith, a, c, more)

-- the blocks of a stream that ends are at most one more
runs_then : (s : ArchiveState) (have : List ℕ) (count : ℕ) (blocks : List ℕ) → count ≤ 1 → TakesLowest s have count blocks → length (runs_of blocks) ≤ length (runs_of have) + 1
runs_then s have zero blocks few takes = let e = ap (λ (b : List ℕ). length (runs_of b)) takes in omega (arith, e)
runs_then s have (suc zero) blocks few takes =
    let e = ap (λ (b : List ℕ). length (runs_of b)) takes.2 in
    let more = runs_push have takes.0 in
    omega (arith, e, more)
runs_then s have (suc (suc n)) blocks few takes = absurd (omega (arith, few))

-- the record of the case is no longer than was looked for
size_within : (s : ArchiveState) (x : StreamFacts) (blocks : List ℕ) → FillsBlocks s 0 x (blocks_for x.len) blocks → stream_size x blocks ≤ longest_record x
size_within s x blocks (count, whole, takes) =
    let runs = runs_then (with_stream s 0 None) x.blocks count blocks (omega (arith, whole)) takes in
    omega (arith, runs)

either_true : (a b : Bool) → (a || b) ≡ true → (a ≡ true) ⊎ (b ≡ true)
either_true true b is = inl refl
either_true false b is = inr is

not_false : (t : Bool) → not t ≡ false → t ≡ true
not_false true is = refl
not_false false is = absurd (true≢false is)

-- a record that has room, and yet has none: the journal was written anew as often as it can be
last_only : (s : ArchiveState) (x : StreamFacts) (blocks : List ℕ) → has_record_room s (longest_record x) ≡ true → stream_size x blocks ≤ longest_record x → IsFull s (stream_size x blocks) (cases_with s x blocks) → IsLastGeneration s
last_only s x blocks has small full =
    ⊎_elim (λ fits. (let low = ltb-true (s.used + longest_record x) (half_length s.shape) fits in let over = full.0 in absurd (omega (arith, low, over, small))))
    (λ fits.
    (let low = ltb-true (snapshot_size s.cases + longest_record x) (half_length s.shape) fits in
    ⊎_elim
    (λ over.
    (let sum = sum_by_push case_size s.cases (case_from x s.next blocks) in
    absurd (omega (arith, low, over, small, sum))))
    (λ last. last) full.1))
    (either_true (nat_lt (s.used + longest_record x) (half_length s.shape)) (nat_lt (snapshot_size s.cases + longest_record x) (half_length s.shape)) has)

-- the end of a stream that is refused for want of room
pub finish_spent : (order : Order) (s s' : ArchiveState) (f : ArchiveFault) → IsServed s → HasMadeRoom Record s → FinishStep s 0 (Err f) s' → IsSpent order f s
finish_spent order s s' SpaceFull served made (x, awake, at, part, full, is) =
    ⊎_elim (λ none. none) (λ whole. absurd (part (subst FillsWhole at whole))) (served awake (omega (arith, full)))
finish_spent order s s' JournalFull served made (x, blocks, may, runs, full, is, fills) =
    ⊎_elim (λ none. inl (none may.0))
    (λ room.
    (let has = not_false (has_record_room s (longest_record x)) (subst (λ (o : Option StreamFacts). lacks_room_for s o ≡ false) may.1 room) in
    inr (inl (last_only s x blocks has (size_within s x blocks fills) full)))) made
finish_spent order s s' _ served made step = tt

-- the first byte of a reply, and the fourth and the fifth
abbrev first_of : List ℕ → ℕ
first_of [] = 0
first_of (a ∷ rest) = a

abbrev fourth_of : List ℕ → ℕ
fourth_of (a ∷ b ∷ c ∷ d ∷ rest) = d
fourth_of _ = 0

abbrev fifth_of : List ℕ → ℕ
fifth_of (a ∷ b ∷ c ∷ d ∷ e ∷ rest) = e
fifth_of _ = 0

apart_by : (place : List ℕ → ℕ) (a b : List ℕ) → eqb (place a) (place b) ≡ false → a ≡ b → ⊥
apart_by place a b apart is = eqb-false (place a) (place b) apart (ap place is)

-- which refusal is told as one of the two
told_as_space : (f : ArchiveFault) → no_reply (reason_of f) ≡ no_reply (codes "SpaceFull") → f ≡ SpaceFull
told_as_space SpaceFull is = refl
told_as_space Stopped is = absurd (apart_by fifth_of (no_reply (codes "Stopped")) (no_reply (codes "SpaceFull")) refl is)
told_as_space BadSlot is = absurd (apart_by fifth_of (no_reply (codes "BadSlot")) (no_reply (codes "SpaceFull")) refl is)
told_as_space SlotBusy is = absurd (apart_by fifth_of (no_reply (codes "SlotBusy")) (no_reply (codes "SpaceFull")) refl is)
told_as_space NameTaken is = absurd (apart_by fifth_of (no_reply (codes "NameTaken")) (no_reply (codes "SpaceFull")) refl is)
told_as_space NoStream is = absurd (apart_by fifth_of (no_reply (codes "NoStream")) (no_reply (codes "SpaceFull")) refl is)
told_as_space TooLong is = absurd (apart_by fifth_of (no_reply (codes "TooLong")) (no_reply (codes "SpaceFull")) refl is)
told_as_space NoCase is = absurd (apart_by fifth_of (no_reply (codes "NoCase")) (no_reply (codes "SpaceFull")) refl is)
told_as_space Pinned is = absurd (apart_by fifth_of (no_reply (codes "Pinned")) (no_reply (codes "SpaceFull")) refl is)
told_as_space JournalFull is = absurd (apart_by fifth_of (no_reply (codes "JournalFull")) (no_reply (codes "SpaceFull")) refl is)
told_as_space NumbersSpent is = absurd (apart_by fifth_of (no_reply (codes "NumbersSpent")) (no_reply (codes "SpaceFull")) refl is)
told_as_space OutOfMemory is = absurd (apart_by fifth_of (no_reply (codes "OutOfMemory")) (no_reply (codes "SpaceFull")) refl is)
told_as_space Disk is = absurd (apart_by fifth_of (no_reply (codes "Disk")) (no_reply (codes "SpaceFull")) refl is)
told_as_space OldVersion is = absurd (apart_by fifth_of (no_reply (codes "OldVersion")) (no_reply (codes "SpaceFull")) refl is)

told_as_journal : (f : ArchiveFault) → no_reply (reason_of f) ≡ no_reply (codes "JournalFull") → f ≡ JournalFull
told_as_journal JournalFull is = refl
told_as_journal SpaceFull is = absurd (apart_by fourth_of (no_reply (codes "SpaceFull")) (no_reply (codes "JournalFull")) refl is)
told_as_journal Stopped is = absurd (apart_by fourth_of (no_reply (codes "Stopped")) (no_reply (codes "JournalFull")) refl is)
told_as_journal BadSlot is = absurd (apart_by fourth_of (no_reply (codes "BadSlot")) (no_reply (codes "JournalFull")) refl is)
told_as_journal SlotBusy is = absurd (apart_by fourth_of (no_reply (codes "SlotBusy")) (no_reply (codes "JournalFull")) refl is)
told_as_journal NameTaken is = absurd (apart_by fourth_of (no_reply (codes "NameTaken")) (no_reply (codes "JournalFull")) refl is)
told_as_journal NoStream is = absurd (apart_by fourth_of (no_reply (codes "NoStream")) (no_reply (codes "JournalFull")) refl is)
told_as_journal TooLong is = absurd (apart_by fourth_of (no_reply (codes "TooLong")) (no_reply (codes "JournalFull")) refl is)
told_as_journal NoCase is = absurd (apart_by fourth_of (no_reply (codes "NoCase")) (no_reply (codes "JournalFull")) refl is)
told_as_journal Pinned is = absurd (apart_by fourth_of (no_reply (codes "Pinned")) (no_reply (codes "JournalFull")) refl is)
told_as_journal NumbersSpent is = absurd (apart_by fourth_of (no_reply (codes "NumbersSpent")) (no_reply (codes "JournalFull")) refl is)
told_as_journal OutOfMemory is = absurd (apart_by fourth_of (no_reply (codes "OutOfMemory")) (no_reply (codes "JournalFull")) refl is)
told_as_journal Disk is = absurd (apart_by fourth_of (no_reply (codes "Disk")) (no_reply (codes "JournalFull")) refl is)
told_as_journal OldVersion is = absurd (apart_by fourth_of (no_reply (codes "OldVersion")) (no_reply (codes "JournalFull")) refl is)

-- a refusal that is as it may be
pub refused_spent : (order : Order) (f : ArchiveFault) (s : ArchiveState) → IsSpent order f s → RefusedIfSpent order (no_reply (reason_of f)) s
refused_spent order f s spent SpaceFull is = subst (λ (e : ArchiveFault). IsSpent order e s) (told_as_space f is) spent
refused_spent order f s spent JournalFull is = subst (λ (e : ArchiveFault). IsSpent order e s) (told_as_journal f is) spent
refused_spent order f s spent _ is = tt

-- a file that can't be read is another refusal
pub file_unspent : (order : Order) (s : ArchiveState) → RefusedIfSpent order (no_reply (codes "File")) s
file_unspent order s SpaceFull is = absurd (apart_by fourth_of (no_reply (codes "File")) (no_reply (codes "SpaceFull")) refl is)
file_unspent order s JournalFull is = absurd (apart_by fourth_of (no_reply (codes "File")) (no_reply (codes "JournalFull")) refl is)
file_unspent order s _ is = tt

-- and so is one that is not as was stated
pub difference_unspent : (order : Order) (f : Difference) (s : ArchiveState) → RefusedIfSpent order (no_reply (difference_reason f)) s
difference_unspent order Short s SpaceFull is = absurd (apart_by fifth_of (no_reply (codes "Short")) (no_reply (codes "SpaceFull")) refl is)
difference_unspent order Short s JournalFull is = absurd (apart_by fourth_of (no_reply (codes "Short")) (no_reply (codes "JournalFull")) refl is)
difference_unspent order Short s _ is = tt
difference_unspent order Long s SpaceFull is = absurd (apart_by fifth_of (no_reply (codes "TooLong")) (no_reply (codes "SpaceFull")) refl is)
difference_unspent order Long s JournalFull is = absurd (apart_by fourth_of (no_reply (codes "TooLong")) (no_reply (codes "JournalFull")) refl is)
difference_unspent order Long s _ is = tt
difference_unspent order Digest s SpaceFull is = absurd (apart_by fourth_of (no_reply (codes "Differs")) (no_reply (codes "SpaceFull")) refl is)
difference_unspent order Digest s JournalFull is = absurd (apart_by fourth_of (no_reply (codes "Differs")) (no_reply (codes "JournalFull")) refl is)
difference_unspent order Digest s _ is = tt

-- a file that has ended, as was stated or not
pub end_serves_all : (order : Order) (want : Stated) (taken : List ℕ) (s : ArchiveState) (r : Result (Unit {0}) TakeStop) → EndsAt want taken r → IsServed s → ServesOn order r s
end_serves_all order want taken s (Ok u) ends served = served
end_serves_all order want taken s (Err File) ends served = absurd ends
end_serves_all order want taken s (Err (Refused f)) ends served = absurd ends
end_serves_all order want taken s (Err (Cut kept)) ends served = absurd ends
end_serves_all order want taken s (Err (Differs f)) ends served = tt

-- and so is no reply
pub silence_unspent : (order : Order) (s : ArchiveState) → RefusedIfSpent order [] s
silence_unspent order s SpaceFull is = absurd (apart_by first_of [] (no_reply (codes "SpaceFull")) refl is)
silence_unspent order s JournalFull is = absurd (apart_by first_of [] (no_reply (codes "JournalFull")) refl is)
silence_unspent order s _ is = tt

-- the reply to the end of a stream
pub ended_spent : (order : Order) (s s' : ArchiveState) (r : Result ℕ ArchiveFault) → IsServed s → HasMadeRoom Record s → FinishStep s 0 r s' → RefusedIfSpent order (end_reply r) s
ended_spent order s s' (Ok seq) served made step SpaceFull is = absurd (apart_by first_of (end_reply (Ok seq)) (no_reply (codes "SpaceFull")) refl is)
ended_spent order s s' (Ok seq) served made step JournalFull is = absurd (apart_by first_of (end_reply (Ok seq)) (no_reply (codes "JournalFull")) refl is)
ended_spent order s s' (Ok seq) served made step _ is = tt
ended_spent order s s' (Err f) served made step fault is = refused_spent order f s (finish_spent order s s' f served made step) fault is
