-- One stream that is stored from its own input, with cases retired before it, and the label and the pin of its case.
use Rattle.std.proofs.Common.{◌≡◌, inl, inr, ℕ, zero, suc, ◌+◌, ◌%◌, ◌<◌, ◌≤◌, Bool, true, false, List, [], ◌∷◌, ◌++◌, length, Option, Some, None, Result, Ok, Err, is_ok, refl, sym, ap, subst, ◌∙◌, arith, length-append}
use Rattle.std.proofs.lemmas.List.{append-nil, length-map}
use Rattle.std.proofs.KnownBytes.{Consumes-trans}
use Rattle.std.specs.Io.KnownBytes.{Consumes, IsAtEnd}
use Rattle.std.specs.List.{flat_map}
use Rattle.std.proofs.lemmas.Bool.{true≢false}
use Rattle.std.specs.Prelude.{slice_set, option_map}
use Rattle.intake.specs.declared.faults.ArchiveFault.{ArchiveFault}
use Rattle.intake.specs.Slots.{stream_at}
use Rattle.intake.specs.State.{ArchiveState, StreamFacts}
use Rattle.disk_model.specs.declared.disk.Disk as disk
use Rattle.intake.specs.Calls.{ChangesNoCase, BeginCall, AbandonCall}
use Rattle.intake.specs.Contents.{Contents, Taken, BeginBytes, empty_taken, zero_block}
use Rattle.intake.specs.Durable.{Durable}
use Rattle.intake.specs.Marks.{FoundAfterAStop}
use Rattle.intake.specs.Parts.{Parts, state_of, stream_facts, contents_of, taken_in}
use Rattle.intake.specs.Step.{BeginStep, with_stream, longer}
use Rattle.diagnostics.specs.Counts.{HasRisen}
use Rattle.script_streams.specs.Printing.{Sink, Told, IsDelivered}
use Rattle.script_streams.specs.declared.streams.StreamFault.{StreamFault}
use Rattle.script_lines.specs.Said.{silence, end_of}
use Rattle.archive_replies.specs.Texts.{plain_reply}
use Rattle.inspector_cli.specs.Fitting.{CutsBehind, CutsWell, EndsAt, FillsWhole, Going, IsServed, IsShort, IsUnder, IsWithin, MeetsLength, TakesWhile, going_text}
use Rattle.inspector_cli.proofs.SpentLemmas.{silence_unspent}
use Rattle.inspector_cli.proofs.FitLemmas.{texts_more, either}
use Rattle.intake.specs.Marks.{Mark, IsRunOfMarks, Passes}
use Rattle.std.specs.Prelude.{map}
use Rattle.inspector_cli.specs.Reply.{Begins, TakeStep, TakeBytes, Takes}
use Rattle.std.specs.Borrow.{Bor}
use Rattle.stream_names.specs.Commands.{stream_found}
use Rattle.stream_names.specs.declared.names.NewStream.{NewStream}
use Rattle.inspector_cli.specs.declared.session.Order.{Order}
use Rattle.inspector_cli.specs.declared.session.SessionFault.TheVariants.{WriteFailed}
use Rattle.inspector_cli.specs.declared.session.StoreOutcome.{StoreOutcome}
use Rattle.retention.specs.declared.Policy.{Policy}
use Rattle.inspector_cli.specs.declared.store.TakeStop.{TakeStop}
use Rattle.inspector_cli.specs.declared.store.TakeStop.TheVariants.{File, Refused, Cut, Differs}
use Rattle.inspector_cli.specs.declared.stated.Stated.{Stated}
use Rattle.inspector_cli.specs.declared.stated.Difference.TheVariants.{Short, Long, Digest}
use Rattle.script_streams.specs.Replies.{Printing, PrintsReply, PrintsText}
use Rattle.inspector_cli.specs.Stages.{Stage, mark_at, marks_of}
use Rattle.inspector_cli.specs.Session.{Streams}
use Rattle.inspector_cli.specs.Storing.{FillsAll, FillsFile, TakesNext, TakesAll, MakesRoom, FillsAndEnds, GoneStages, FileReplies, RestReplies, StoresStream, RetiresFirst, RetiresForStream, PinsCase, LabelsCase, Options, Stores, stated_in, retire_line, said_pin, said_label, StoreStages, StoreEnds}
use Rattle.intake.specs.StayLaws.{stays_none, stays_as, stays_then}
use Rattle.inspector_cli.proofs.StageLemmas.{Laws, Reaches, stage_of, ends_moves, deletes_moves, pins_moves, labels_moves, retires_moves, still, begins_stays}
use Rattle.script_streams.specs.PrintLaws.{prints_as, prints_then}
use Rattle.inspector_cli.proofs.SlotLemmas.{set_again}

-- the stream, if there is one, has no bytes yet
abbrev pub IsFresh : Result StreamFacts (List ℕ) → Type 0
IsFresh (Ok s) = s.len ≡ 0
IsFresh (Err reason) = Unit {0}

pub found_fresh : (r : Result NewStream (Bor (List ℕ))) → IsFresh (stream_found r)
found_fresh (Ok stream) = refl
found_fresh (Err reason) = tt

pub set_there : {X : Type 0} (xs : List (Option X)) (slot : ℕ) (a : Option X) → slot < length xs → stream_at (slice_set xs slot a) slot ≡ a
set_there [] slot a there = absurd (omega arith)
set_there (x ∷ xs) zero a there = refl
set_there (x ∷ xs) (suc slot) a there = set_there xs slot a (omega arith)

-- a stream with no bytes has taken none
fresh_takes : (old : ArchiveState) (slot : ℕ) (s : StreamFacts) → s.len ≡ 0 → old.stopped ≡ false → slot < length old.streams
    → TakeStep (with_stream old slot (Some s)) slot 0 (Ok tt) (with_stream old slot (Some s))
fresh_takes old slot s none runs there = (
  s,
  (runs, set_there old.streams slot (Some s) there),
  (omega (arith, none), λ m wall. omega (arith, wall.1, none)),
  s.blocks,
  ap (λ (xs : List (Option StreamFacts)). record old { streams = xs })
      (sym (set_again old.streams slot (Some s) (Some (longer s 0 s.blocks)) ∙ ap (λ (n : ℕ). slice_set old.streams slot (Some (record s { len = n }))) (omega arith))),
  (0, omega arith, refl),
)

begun_step : (old new : ArchiveState) (slot : ℕ) (s : StreamFacts) → s.len ≡ 0 → BeginStep old slot s (Ok tt) new → TakeStep new slot 0 (Ok tt) new
begun_step old new slot s none step = subst (λ (b : ArchiveState). TakeStep b slot 0 (Ok tt) b) (sym step.1) (fresh_takes old slot s none step.0.0 step.0.1)

-- what stands in a slot has taken what it has
at_again : {X : Type 0} (xs : List (Option X)) (slot : ℕ) (x : X) → stream_at xs slot ≡ Some x → slice_set xs slot (Some x) ≡ xs
at_again [] slot x is = refl
at_again (y ∷ ys) zero x is = ap (λ (o : Option _). o ∷ ys) (sym is)
at_again (y ∷ ys) (suc slot) x is = ap (λ zs. y ∷ zs) (at_again ys slot x is)

module _ {D : Type 0} (g : disk.Ghosts D) (old new : Parts D) (slot : ℕ) where
  begun_bytes : slot < length (state_of old).streams → BeginBytes (contents_of g.seen old) slot (Ok tt) (contents_of g.seen new)
      → TakeBytes (contents_of g.seen new) slot [] (Ok tt) (contents_of g.seen new)
  begun_bytes there bytes =
      let here : stream_at (contents_of g.seen new).taken slot ≡ Some empty_taken =
      ap (λ (c : Contents). stream_at c.taken slot) bytes
      ∙ set_there (contents_of g.seen old).taken slot (Some empty_taken) (there_too there) in
      (empty_taken, zero_block, here, ap (λ (l : List (Option Taken)). record (contents_of g.seen new) { taken = l }) (sym (at_again (contents_of g.seen new).taken slot empty_taken here)))
    where
      there_too : slot < length (state_of old).streams → slot < length (contents_of g.seen old).taken
      there_too below =
          let a = length-map old.streams (option_map stream_facts) in
          let b = length-map old.streams (option_map (taken_in old.journal (g.seen old.disk))) in
          omega (arith, a, b, below)

  ok_takes : (s : StreamFacts) (r : Result (Unit {0}) ArchiveFault) → s.len ≡ 0 → BeginCall g old slot s r new → true ≡ is_ok r → Takes g new slot [] (Ok tt) new
  ok_takes s (Ok u) none call is = record {
    step = begun_step (state_of old) (state_of new) slot s none call.step;
    bytes = λ honest. begun_bytes call.step.0.1 call.bytes;
    cause = λ fault. absurd fault;
    stays = stays_none g new;
  }
  ok_takes s (Err fault) none call is = absurd (true≢false is)

  pub begun_takes : (found : Result StreamFacts (List ℕ)) (text : List ℕ) (accepted : Bool) → IsFresh found
      → Begins g old slot found text new accepted → accepted ≡ true → Takes g new slot [] (Ok tt) new
  begun_takes (Ok s) text accepted none begins is = ok_takes s begins.0 none begins.1 (sym is ∙ begins.3)
  begun_takes (Err reason) text accepted none begins is = absurd (true≢false (sym is ∙ begins.2))

  -- a stream that has begun wants no block
  ok_serves : (s : StreamFacts) (r : Result (Unit {0}) ArchiveFault) → s.len ≡ 0 → BeginCall g old 0 s r new → true ≡ is_ok r → IsServed (state_of new)
  ok_serves s (Ok u) none call is = λ awake full.
      inr (subst FillsWhole (sym (ap (λ (b : ArchiveState). stream_at b.streams 0) call.step.1 ∙ set_there (state_of old).streams 0 (Some s) call.step.0.1)) (ap (λ (n : ℕ). n % 4096) none))
  ok_serves s (Err fault) none call is = absurd (true≢false is)

  pub begun_serves : (found : Result StreamFacts (List ℕ)) (text : List ℕ) (accepted : Bool) → IsFresh found
      → Begins g old 0 found text new accepted → accepted ≡ true → IsServed (state_of new)
  begun_serves (Ok s) text accepted none begins is = ok_serves s begins.0 none begins.1 (sym is ∙ begins.3)
  begun_serves (Err reason) text accepted none begins is = absurd (true≢false (sym is ∙ begins.2))

-- each of a number of reads gave a byte, and the bytes are taken, while cases went and were told
abbrev pub FileAlong : {D : Type 0} → disk.Ghosts D → Order → Bool → Option (List ℕ) → Option (List ℕ) → ℕ → ℕ → Parts D → ℕ → Printing → Parts D → Type 0
FileAlong {D} g order fit file file' fails fails' old reads t new =
    (gone : List (Going D)) × PrintsText t (flat_map going_text gone) × (raw : List ℕ) × Consumes file file' raw × (reads ≤ length raw) × (fails' ≡ fails) × TakesWhile g order old raw gone (Ok tt) new × (fit ≡ false → gone ≡ [])

-- if a file is cut, or goes on behind the length that was stated, it does so behind this many bytes
abbrev pub StopsAfter : Option ℕ → ℕ → TakeStop → Type 0
StopsAfter want n File = Unit {0}
StopsAfter want n (Refused fault) = Unit {0}
StopsAfter want n (Cut kept) = (kept ≡ n) × (0 < kept) × IsUnder want kept
StopsAfter want n (Differs Short) = ⊥
StopsAfter want n (Differs Long) = want ≡ Some n
StopsAfter want n (Differs Digest) = ⊥

pub behind_after : (fit : Bool) (most want : Option ℕ) (taken n : ℕ) (s : ArchiveState) (stop : TakeStop) → taken ≡ n → CutsBehind {A = ℕ} fit most taken (Err stop) s → MeetsLength {A = ℕ} want taken (Err stop) → StopsAfter want n stop
behind_after fit most want taken n s File is behind meets = tt
behind_after fit most want taken n s (Refused fault) is behind meets = tt
behind_after fit most want taken n s (Cut kept) is behind meets = (behind.0 ∙ is, behind.1, subst (IsUnder want) (sym behind.0) meets)
behind_after fit most want taken n s (Differs Short) is behind meets = absurd meets
behind_after fit most want taken n s (Differs Digest) is behind meets = absurd meets
behind_after fit most want taken n s (Differs Long) is behind meets = meets ∙ ap (λ (m : ℕ). Some m) is

pub behind_well : (fit : Bool) (most : Option ℕ) (taken : ℕ) (s : ArchiveState) (stop : TakeStop) → CutsBehind {A = ℕ} fit most taken (Err stop) s → CutsWell {A = Unit {0}} fit most (Err stop) s
behind_well fit most taken s File behind = tt
behind_well fit most taken s (Refused fault) behind = tt
behind_well fit most taken s (Cut kept) behind = (behind.2, behind.3, behind.4, behind.5)
behind_well fit most taken s (Differs f) behind = tt

-- a file that has ended is not cut
pub end_well : (fit : Bool) (most : Option ℕ) (want : Stated) (taken : List ℕ) (s : ArchiveState) (r : Result (Unit {0}) TakeStop) → EndsAt want taken r → CutsWell fit most r s
end_well fit most want taken s (Ok u) ends = tt
end_well fit most want taken s (Err File) ends = tt
end_well fit most want taken s (Err (Refused fault)) ends = tt
end_well fit most want taken s (Err (Cut kept)) ends = absurd ends
end_well fit most want taken s (Err (Differs f)) ends = tt

-- bounds of no byte
pub under_within : (bound : Option ℕ) → IsUnder bound 0 → IsWithin bound 0
under_within None under = tt
under_within (Some n) under = omega arith

pub within_none : (bound : Option ℕ) → IsWithin bound 0
within_none None = tt
within_none (Some n) = omega arith

consumes_none : (a b c : Option (List ℕ)) (raw : List ℕ) → Consumes a b raw → Consumes b c [] → Consumes a c raw
consumes_none a b c raw p q = subst (Consumes a c) (append-nil raw) (Consumes-trans a b c raw [] p q)

module _ {D : Type 0} (g : disk.Ghosts D) (order : Order) (fit : Bool) (file mid file' : Option (List ℕ)) (fails fails' fails'' : ℕ) (a b c : Sink) (old now new : Parts D) (reads : ℕ) (want : Stated) (A : List ℕ → Type 0)
    (so_far : FileAlong g order fit file mid fails fails' old reads (record { before = a; after = b }) now) where
  none_both : (more : List (Going D)) → (fit ≡ false → more ≡ []) → fit ≡ false → so_far.0 ++ more ≡ []
  none_both more none is = ap (λ (l : List (Going D)). l ++ more) (so_far.7 is) ∙ none is

  told_both : (more : List (Going D)) → PrintsText (record { before = b; after = c }) (flat_map going_text more) → PrintsText (record { before = a; after = c }) (flat_map going_text (so_far.0 ++ more))
  told_both more states = prints_as (sym (texts_more so_far.0 more)) (prints_then so_far.1 states)

  pub file_went_on : (count : ℕ) → (count ≡ 0 → ⊥) → TakesNext g order mid file' fails' fails'' old so_far.2 so_far.0 fit A (record { before = b; after = c }) new (Ok count)
      → (more : FileAlong g order fit file file' fails fails'' old (reads + 1) (record { before = a; after = c }) new) × (length more.2 ≡ length so_far.2 + count) × (added : List ℕ) × (more.2 ≡ so_far.2 ++ added) × A added
  file_went_on (suc n) is (gone, states, more, none) =
      let size = length-append so_far.2 more.0 in
      let count = so_far.4 in
      let some = more.2 in (
        (so_far.0 ++ gone, told_both gone states, so_far.2 ++ more.0, Consumes-trans file mid file' so_far.2 more.0 so_far.3 more.1, omega (arith, count, some, size), more.3 ∙ so_far.5, more.4, none_both gone none),
        omega (arith, some, size),
        more.0,
        refl,
        more.5,
      )
  file_went_on zero is more = absurd (is refl)

  -- as was stated, or not
  ended_so : (gone : List (Going D)) → PrintsText (record { before = b; after = c }) (flat_map going_text gone) → Consumes mid file' [] → IsAtEnd file' → TakesWhile g order old so_far.2 (so_far.0 ++ gone) (Ok tt) new → (fit ≡ false → gone ≡ [])
      → (r : Result (Unit {0}) TakeStop) → EndsAt want so_far.2 r → TakesAll g order fit want file file' fails fails'' old (record { before = a; after = c }) new r
  ended_so gone states none ends takes unasked (Ok u) at = (so_far.0 ++ gone, told_both gone states, (so_far.2, consumes_none file mid file' so_far.2 so_far.3 none, ends, takes, at), none_both gone unasked)
  ended_so gone states none ends takes unasked (Err File) at = absurd at
  ended_so gone states none ends takes unasked (Err (Refused fault)) at = absurd at
  ended_so gone states none ends takes unasked (Err (Cut kept)) at = absurd at
  ended_so gone states none ends takes unasked (Err (Differs Short)) at =
      (so_far.0 ++ gone, told_both gone states, (so_far.2, (consumes_none file mid file' so_far.2 so_far.3 none, ends, at.0, at.1, at.2), takes), none_both gone unasked)
  ended_so gone states none ends takes unasked (Err (Differs Long)) at = absurd at
  ended_so gone states none ends takes unasked (Err (Differs Digest)) at =
      (so_far.0 ++ gone, told_both gone states, (so_far.2, (consumes_none file mid file' so_far.2 so_far.3 none, ends, at), takes), none_both gone unasked)

  pub file_ended : (count : ℕ) → count ≡ 0 → TakesNext g order mid file' fails' fails'' old so_far.2 so_far.0 fit A (record { before = b; after = c }) new (Ok count)
      → (r : Result (Unit {0}) TakeStop) → EndsAt want so_far.2 r → TakesAll g order fit want file file' fails fails'' old (record { before = a; after = c }) new r
  file_ended (suc n) is more r at = absurd (omega (arith, is))
  file_ended zero is (gone, states, more, none) r at = ended_so gone states more.0 more.1 more.3 none r at

  pub file_stopped : (stop : TakeStop) → StopsAfter want.length (length so_far.2) stop → TakesNext g order mid file' fails' fails'' old so_far.2 so_far.0 fit A (record { before = b; after = c }) new (Err stop)
      → TakesAll g order fit want file file' fails fails'' old (record { before = a; after = c }) new (Err stop)
  file_stopped (Cut kept) behind (gone, states, more, none) = (
    so_far.0 ++ gone,
    told_both gone states,
    (so_far.2, (more.0, Consumes-trans file mid file' so_far.2 more.0 so_far.3 more.1, more.2, sym behind.0, behind.1, behind.2), more.4),
    none_both gone none,
  )
  file_stopped (Differs Short) behind more = absurd behind
  file_stopped (Differs Digest) behind more = absurd behind
  file_stopped (Differs Long) behind (gone, states, more, none) = (
    so_far.0 ++ gone,
    told_both gone states,
    (so_far.2, (more.0, Consumes-trans file mid file' so_far.2 more.0 so_far.3 more.1, more.2, behind), more.4),
    none_both gone none,
  )
  file_stopped File behind (gone, states, more, none) = (
    so_far.0 ++ gone,
    told_both gone states,
    (so_far.2, consumes_none file mid file' so_far.2 so_far.3 more.0, inl (subst (λ (n : ℕ). HasRisen n fails'') so_far.5 more.1), more.2),
    none_both gone none,
  )
  file_stopped (Refused fault) behind (gone, states, more, none) =
      (so_far.0 ++ gone, told_both gone states, (so_far.2 ++ more.0, Consumes-trans file mid file' so_far.2 more.0 so_far.3 more.1, more.3), none_both gone none)

-- how a file is cut, behind all that went so far, and then more
pub cut_there : {D : Type 0} (g : disk.Ghosts D) (order : Order) (fit : Bool) (most : Option ℕ) (old at : Parts D) (raw : List ℕ) (first later : List (Going D)) (kept : ℕ) → TakesWhile g order old raw first (Ok tt) at → length raw ≡ kept
    → CutsWell {A = Unit {0}} fit most (Err (Cut kept)) (state_of at) → IsShort g order fit most old (first ++ later) (Some kept)
cut_there g order fit most old at raw first later kept takes same well =
    record { n = well.0; asked = well.1; within = well.2; at = at; raw = raw; first = first; later = later; all = refl; takes = takes; length = same; no_more = well.3 }

-- nothing goes for the record
pub filled_as : {D : Type 0} (g : disk.Ghosts D) (order : Order) (fit : Bool) (most : Option ℕ) (want : Stated) (file file' : Option (List ℕ)) (fails fails' : ℕ) (t : Printing) (old new : Parts D) (r : Result (Unit {0}) TakeStop)
    → TakesAll g order fit want file file' fails fails' old t new r → CutsWell fit most r (state_of new) → FillsAll g order fit most want file file' fails fails' old t new r
filled_as g order fit most want file file' fails fails' t old new (Ok u) (gone, states, takes, none) well = (gone, states, takes, none, tt)
filled_as g order fit most want file file' fails fails' t old new (Err File) (gone, states, takes, none) well = (gone, states, takes, none, tt)
filled_as g order fit most want file file' fails fails' t old new (Err (Refused fault)) (gone, states, takes, none) well = (gone, states, inl takes, none, tt)
filled_as g order fit most want file file' fails fails' t old new (Err (Cut kept)) (gone, states, takes, none) well = (
  gone,
  states,
  takes,
  none,
  subst (λ (l : List (Going _)). IsShort g order fit most old l (Some kept)) (append-nil gone) (cut_there g order fit most old new takes.0 gone [] kept takes.2 takes.1.3 well),
)
filled_as g order fit most want file file' fails fails' t old new (Err (Differs f)) (gone, states, takes, none) well = (gone, states, takes, none, tt)

-- the answer where room is made for the record of a file that is cut
abbrev pub then_cut : ℕ → Result (Unit {0}) TakeStop → Result (Unit {0}) TakeStop
then_cut kept (Ok u) = Err (Cut kept)
then_cut kept (Err stop) = Err stop

pub room_at_cut : {D : Type 0} (g : disk.Ghosts D) (order : Order) (fit : Bool) (most : Option ℕ) (want : Stated) (file file' : Option (List ℕ)) (fails fails' : ℕ) (a b c : Sink) (old mid new : Parts D) (kept : ℕ) → fit ≡ true
    → TakesAll g order fit want file file' fails fails' old (record { before = a; after = b }) mid (Err (Cut kept)) → CutsWell {A = Unit {0}} fit most (Err (Cut kept)) (state_of mid) → (r : Result (Unit {0}) TakeStop)
    → ((begun : Parts D) (so_far : List ℕ) (gone : List (Going D)) → TakesWhile g order begun so_far gone (Ok tt) mid → MakesRoom g order begun so_far gone (record { before = b; after = c }) new r)
    → FillsAll g order fit most want file file' fails fails' old (record { before = a; after = c }) new (then_cut kept r)
room_at_cut {D} g order fit most want file file' fails fails' a b c old mid new kept asked (gone, states, taken, none) well r room =
    made r (room old taken.0 gone taken.2)
  where
    made : (r : Result (Unit {0}) TakeStop) → MakesRoom g order old taken.0 gone (record { before = b; after = c }) new r → FillsAll g order fit most want file file' fails fails' old (record { before = a; after = c }) new (then_cut kept r)
    made (Ok u) (more, told, takes) = (
      gone ++ more,
      prints_as (sym (texts_more gone more)) (prints_then states told),
      (taken.0, taken.1, takes),
      λ never. absurd (true≢false (sym asked ∙ never)),
      cut_there g order fit most old mid taken.0 gone more kept taken.2 taken.1.3 well,
    )
    made (Err File) (more, told, takes) = absurd takes
    made (Err (Cut other)) (more, told, takes) = absurd takes
    made (Err (Differs f)) (more, told, takes) = absurd takes
    made (Err (Refused fault)) (more, told, takes) =
        (gone ++ more, prints_as (sym (texts_more gone more)) (prints_then states told), inr (well.0, well.1, kept, taken.0, taken.1, takes), λ never. absurd (true≢false (sym asked ∙ never)), tt)

-- room for the record, once all bytes are taken
pub room_at_end : {D : Type 0} (g : disk.Ghosts D) (order : Order) (fit : Bool) (most : Option ℕ) (want : Stated) (file file' : Option (List ℕ)) (fails fails' : ℕ) (a b c : Sink) (old mid new : Parts D) → fit ≡ true
    → TakesAll g order fit want file file' fails fails' old (record { before = a; after = b }) mid (Ok tt) → (r : Result (Unit {0}) TakeStop)
    → ((begun : Parts D) (so_far : List ℕ) (gone : List (Going D)) → TakesWhile g order begun so_far gone (Ok tt) mid → MakesRoom g order begun so_far gone (record { before = b; after = c }) new r)
    → FillsAll g order fit most want file file' fails fails' old (record { before = a; after = c }) new r
room_at_end g order fit most want file file' fails fails' a b c old mid new asked (gone, states, taken, none) r room =
    made r (room old taken.0 gone taken.3)
  where
    made : (r : Result (Unit {0}) TakeStop) → MakesRoom g order old taken.0 gone (record { before = b; after = c }) new r → FillsAll g order fit most want file file' fails fails' old (record { before = a; after = c }) new r
    made (Ok u) (more, told, takes) =
        (gone ++ more, prints_as (sym (texts_more gone more)) (prints_then states told), (taken.0, taken.1, taken.2, takes, taken.4), λ never. absurd (true≢false (sym asked ∙ never)), tt)
    made (Err File) (more, told, takes) = absurd takes
    made (Err (Cut kept)) (more, told, takes) = absurd takes
    made (Err (Differs f)) (more, told, takes) = absurd takes
    made (Err (Refused fault)) (more, told, takes) =
        (gone ++ more, prints_as (sym (texts_more gone more)) (prints_then states told), inl (taken.0, taken.1, takes), λ never. absurd (true≢false (sym asked ∙ never)), tt)

module _ {D : Type 0} (g : disk.Ghosts D) (order : Order) where
  -- a stream that is begun, and its file
  pub stores : (fit : Bool) (most : Option ℕ) (want : Stated) (found : Result StreamFacts (List ℕ)) (file file' : Option (List ℕ)) (fails fails' : ℕ) (o p q : Sink) (old mid new : Parts D) (stored : Option ℕ)
      → PrintsReply (record { before = o; after = p }) (λ text. Begins g old 0 found text mid true)
      → IsServed (state_of mid)
      → PrintsReply (record { before = p; after = q }) (λ text. FillsAndEnds g order fit most want file file' fails fails' mid text new stored)
      → PrintsReply (record { before = o; after = q }) (λ text. StoresStream g order fit most want file file' fails fails' old found text new stored)
  stores fit most want found file file' fails fails' o p q old mid new stored first served rest = (
    first.0 ++ rest.0,
    record {
      first = first.0;
      mid = mid;
      accepted = true;
      begins = first.1;
      gone = rest.1.0;
      unasked = rest.1.5;
      cut = rest.1.1;
      filled = rest.1.2;
      rest = rest.1.3;
      goes_on = rest.1.6;
      spent = λ fits. rest.1.7 fits served;
      short = rest.1.8;
      text = ap (λ (t : List ℕ). first.0 ++ t) rest.1.4;
    },
    prints_then first.2 rest.2,
  )

  pub stores_none : (fit : Bool) (most : Option ℕ) (want : Stated) (found : Result StreamFacts (List ℕ)) (file : Option (List ℕ)) (fails : ℕ) (t : Printing) (old new : Parts D)
      → PrintsReply t (λ text. Begins g old 0 found text new false)
      → PrintsReply t (λ text. StoresStream g order fit most want file file fails fails old found text new None)
  stores_none fit most want found file fails t old new first = (
    first.0,
    record {
      first = first.0;
      mid = new;
      accepted = false;
      begins = first.1;
      gone = [];
      unasked = λ no. refl;
      cut = None;
      filled = new;
      rest = [];
      goes_on = (refl, refl, refl, refl, refl, refl, refl, refl);
      short = tt;
      spent = λ fits. silence_unspent order (state_of new);
      text = sym (append-nil first.0);
    },
    first.2,
  )

  -- the stages while bytes are taken
  abbrev pub Filling : (gone : List (Going D)) → Stage D → Parts D → Type 0
  Filling gone old filled = (stages : List (Stage D)) × (doubt : List Durable) × GoneStages g order old gone stages (stage_of filled doubt)

  pub filling : (laws : Laws g) (gone : List (Going D)) (old : Stage D) (raw : List ℕ) (v : Result (Unit {0}) ArchiveFault) (filled : Parts D) → TakesWhile g order old.archive raw gone v filled → Filling gone old filled
  filling laws [] old raw v filled takes = ([], old.in_doubt, (takes.stays, refl))
  filling laws (w ∷ ws) old raw v filled takes =
      let before : Stage D = stage_of w.before old.in_doubt in
      let d = deletes_moves g laws (stage_of w.before old.in_doubt) w.after w.seq (plain_reply w.answer) (w.answer, takes.4.deletes, refl) in
      let m : Filling ws (stage_of w.after (d.0 ++ old.in_doubt)) filled =
      either w.answer v ws takes.1 w.after filled (TakesWhile g order w.after takes.1 ws v filled) (Filling ws (stage_of w.after (d.0 ++ old.in_doubt)) filled) takes.5
      (λ t. filling laws ws (stage_of w.after (d.0 ++ old.in_doubt)) takes.1 v filled t)
      (λ none same. subst (λ (l : List (Going D)). Filling l (stage_of w.after (d.0 ++ old.in_doubt)) filled) (sym none) ([], d.0 ++ old.in_doubt, (stays_as g w.after filled same, refl)))
      in
      (stage_of w.before old.in_doubt ∷ stage_of w.after (d.0 ++ old.in_doubt) ∷ m.0, m.1, (takes.3.stays, refl, refl, takes.4, d.1, refl, m.2))

  -- bytes that are taken, or refused, from any stage on
  file_filling : (laws : Laws g) (most : Option ℕ) (want : Stated) (file file' : Option (List ℕ)) (fails fails' : ℕ) (gone : List (Going D)) (old : Stage D) (filled : Parts D) (r : Result (Unit {0}) TakeStop) → FillsFile most want file file' fails fails' (λ raw v. TakesWhile g order old.archive raw gone v filled) r → Filling gone old filled
  file_filling laws most want file file' fails fails' gone old filled (Ok u) takes = filling laws gone old takes.0 (Ok tt) filled takes.3
  file_filling laws most want file file' fails fails' gone old filled (Err File) takes = filling laws gone old takes.0 (Ok tt) filled takes.3
  file_filling laws most want file file' fails fails' gone old filled (Err (Refused fault)) (inl takes) = filling laws gone old takes.0 (Err fault) filled takes.2
  file_filling laws most want file file' fails fails' gone old filled (Err (Refused fault)) (inr takes) = filling laws gone old takes.3 (Err fault) filled takes.5
  file_filling laws most want file file' fails fails' gone old filled (Err (Cut kept)) takes = filling laws gone old takes.0 (Ok tt) filled takes.2
  file_filling laws most want file file' fails fails' gone old filled (Err (Differs f)) takes = filling laws gone old takes.0 (Ok tt) filled takes.2

  -- the same from a stage before on that has the same cases
  pub earlier : (gone : List (Going D)) (old : Stage D) (mid filled : Parts D) → ChangesNoCase g old.archive mid → Filling gone (stage_of mid old.in_doubt) filled → Filling gone old filled
  earlier [] old mid filled stays (([], doubt, all)) = ([], doubt, (stays_then g old.archive mid filled stays all.0, all.1))
  earlier [] old mid filled stays ((s ∷ ss, doubt, all)) = absurd all
  earlier (w ∷ ws) old mid filled stays (([], doubt, all)) = absurd all
  earlier (w ∷ ws) old mid filled stays ((s ∷ [], doubt, all)) = absurd all
  earlier (w ∷ ws) old mid filled stays ((s ∷ t ∷ ss, doubt, all)) = (s ∷ t ∷ ss, doubt, (stays_then g old.archive mid s.archive stays all.0, all.1, all.2, all.3, all.4, all.5, all.6))

  -- these stages are a run of marks
  pub filling_runs : (laws : Laws g) (gone : List (Going D)) (old : Stage D) (stages : List (Stage D)) (filled : Stage D) (later : List (Stage D)) (tail : List (Mark D)) → GoneStages g order old gone stages filled
      → IsRunOfMarks g (mark_at g.seen filled) (map (mark_at g.seen) later ++ tail) → IsRunOfMarks g (mark_at g.seen old) (map (mark_at g.seen) (stages ++ filled ∷ later) ++ tail)
  filling_runs laws [] old [] filled later tail all run =
      (subst (λ (d : List Durable). Passes g (mark_at g.seen old) (mark_at g.seen (stage_of filled.archive d))) (sym all.1) (laws.stays old.archive filled.archive old.in_doubt all.0), run)
  filling_runs laws [] old (s ∷ ss) filled later tail all run = absurd all
  filling_runs laws (w ∷ ws) old [] filled later tail all run = absurd all
  filling_runs laws (w ∷ ws) old (s ∷ []) filled later tail all run = absurd all
  filling_runs laws (w ∷ ws) old (s ∷ t ∷ ss) filled later tail all run = (
    subst (λ (d : List Durable). Passes g (mark_at g.seen old) (mark_at g.seen (stage_of s.archive d))) (sym all.1) (laws.stays old.archive s.archive old.in_doubt all.0),
    (all.4.passes, filling_runs laws ws t ss filled later tail all.6 run),
  )

  module _ (laws : Laws g) (old : Stage D) (new : Parts D) where
    -- the end of a stream, or why it has none
    end_reaches : (r : Result (Unit {0}) TakeStop) (reply : List ℕ) (stored : Option ℕ) → FileReplies g old.archive r reply new stored → Reaches g laws old new (end_of 0) reply
    end_reaches (Ok u) reply stored ends = ends_moves g laws old new 0 reply stored ends
    end_reaches (Err File) reply stored ends = still g laws old new (end_of 0) reply (stays_as g old.archive new ends.1)
    end_reaches (Err (Differs f)) reply stored ends = still g laws old new (end_of 0) reply (stays_as g old.archive new ends.1)
    end_reaches (Err (Cut kept)) reply stored ends = ends_moves g laws old new 0 reply stored ends
    end_reaches (Err (Refused fault)) reply stored ends = still g laws old new (end_of 0) reply (stays_as g old.archive new ends.1)

    -- what is retired, or nothing
    pub retiring_moves : (policy : Option Policy) (told : List ℕ) (made : Bool) → RetiresFirst g old.archive policy told new made → Reaches g laws old new (retire_line policy) told
    retiring_moves None told made makes = still g laws old new silence told (stays_as g old.archive new makes.1)
    retiring_moves (Some policy) told made makes = retires_moves g laws old new policy told makes.0

    -- the label of the case, or none
    pub label_moves : (stored : Option ℕ) (label : Option (List ℕ)) (last : List ℕ) (done : Bool) → LabelsCase g old.archive stored label last new done → Reaches g laws old new (said_label stored label) last
    label_moves (Some seq) (Some label) last done labels = labels_moves g laws old new seq label last labels.0
    label_moves (Some seq) None last done labels = still g laws old new silence last (stays_as g old.archive new labels.1)
    label_moves None label last done labels = still g laws old new silence last (stays_as g old.archive new labels.1)

    -- the pin of the case, or none
    pub pin_moves : (stored : Option ℕ) (pin : Bool) (last : List ℕ) (done : Bool) → PinsCase g old.archive stored pin last new done → Reaches g laws old new (said_pin stored pin) last
    pin_moves (Some seq) true last done pins = pins_moves g laws old new seq true last pins.0
    pin_moves (Some seq) false last done pins = still g laws old new silence last (stays_as g old.archive new pins.1)
    pin_moves None pin last done pins = still g laws old new silence last (stays_as g old.archive new pins.1)

  rest_moves : (laws : Laws g) (most : Option ℕ) (want : Stated) (file file' : Option (List ℕ)) (fails fails' : ℕ) (old : Stage D) (mid : Parts D) (gone : List (Going D)) (cut : Option ℕ) (filled new : Parts D) (accepted : Bool) (rest : List ℕ) (stored : Option ℕ) → ChangesNoCase g old.archive mid
      → RestReplies g order most want file file' fails fails' mid accepted gone cut filled rest new stored → (f : Filling gone old filled) × Reaches g laws (stage_of filled f.1) new (end_of 0) rest
  rest_moves laws most want file file' fails fails' old mid gone cut filled new true rest stored begun goes =
      let f = earlier gone old mid filled begun (file_filling laws most want file file' fails fails' gone (stage_of mid old.in_doubt) filled goes.0 goes.1) in (
        f,
        end_reaches laws (stage_of filled f.1) new goes.0 rest stored goes.2,
      )
  rest_moves laws most want file file' fails fails' old mid gone cut filled new false rest stored begun goes = (
    subst (λ (l : List (Going D)). Filling l old filled) (sym goes.6) ([], old.in_doubt, (stays_then g old.archive mid filled begun (stays_as g mid filled goes.2), refl)),
    still g laws (stage_of filled _) new (end_of 0) rest (stays_as g filled new (goes.4 ∙ sym goes.2)),
  )

module _ {D : Type 0} (g : disk.Ghosts D) where
  pub stages_of : (laws : Laws g) → FoundAfterAStop g → (file file' : Option (List ℕ)) (fails fails' : ℕ) (old : Stage D) (asked : Option Policy) (found : Result StreamFacts (List ℕ)) (options : Options)
      (replies : List ℕ) (end : Parts D) (outcome : StoreOutcome) (new : Parts D)
      → (s : Stores g file file' fails fails' old.archive asked found options replies end outcome) → ChangesNoCase g end new
      → (in_doubt : List Durable) × StoreStages g options.order old s.retires_first.policy s.told s.retired s.stores.gone s.stores.filled s.stores.rest s.ended (said_label outcome.stored options.label) s.named s.labelled (said_pin outcome.stored options.pin) s.last (stage_of end in_doubt) new
  stages_of laws law file file' fails fails' old asked found options replies end outcome new s closes =
      let r = retiring_moves g options.order laws old s.retired s.retires_first.policy s.told outcome.retired_first s.retires_first.retires_first in
      let t = s.stores in
      let doubts : List Durable = r.0 ++ old.in_doubt in
      let m =
      rest_moves g options.order laws options.cut (stated_in options) file file' fails fails' (stage_of s.retired doubts) t.mid t.gone t.cut t.filled s.ended t.accepted t.rest outcome.stored
      (begins_stays g s.retired t.mid 0 found t.first t.accepted t.begins) t.goes_on in
      let later : List Durable = m.1.0 ++ m.0.1 in
      let l = label_moves g options.order laws (stage_of s.ended later) s.labelled outcome.stored options.label s.named outcome.labelled s.labels in
      let last : List Durable = l.0 ++ later in
      let p = pin_moves g options.order laws (stage_of s.labelled last) end outcome.stored options.pin s.last outcome.pinned s.pins in (
        p.0 ++ last,
        record {
          in_doubt = doubts;
          retires_first = r.1;
          stages = m.0.0;
          filled_doubt = m.0.1;
          goes = m.0.2;
          later_doubt = later;
          moves = m.1.1;
          named_doubt = last;
          gives_label = l.1;
          gives_pin = p.1;
          found = λ honest settled.
              law (mark_at g.seen old) (marks_of g.seen (stage_of s.retired doubts ∷ (m.0.0 ++ (stage_of t.filled m.0.1 ∷ stage_of s.ended later ∷ stage_of s.labelled last ∷ []))) (stage_of end (p.0 ++ last)) new) honest settled
              (r.1.passes, filling_runs g options.order laws t.gone (stage_of s.retired doubts) m.0.0 (stage_of t.filled m.0.1) (stage_of s.ended later ∷ stage_of s.labelled last ∷ []) _ m.0.2 (m.1.1.passes, (l.1.passes, (p.1.passes, (laws.stays end new (p.0 ++ last) closes, tt)))));
        },
      )

  -- what is retired, the stream, its label and its pin
  pub stores_all : (file file' : Option (List ℕ)) (fails fails' : ℕ) (o p q r z : Sink) (old retired ended named new : Parts D) (asked : Option Policy) (found : Result StreamFacts (List ℕ)) (options : Options)
      (made : Bool) (stored : Option ℕ) (labelled pinned : Bool)
      → PrintsReply (record { before = o; after = p }) (λ text. RetiresForStream g old asked found text retired made)
      → PrintsReply (record { before = p; after = q }) (λ text. StoresStream g options.order options.fit options.cut (stated_in options) file file' fails fails' retired found text ended stored)
      → PrintsReply (record { before = q; after = r }) (λ text. LabelsCase g ended stored options.label text named labelled)
      → PrintsReply (record { before = r; after = z }) (λ text. PinsCase g named stored options.pin text new pinned)
      → PrintsReply (record { before = o; after = z })
      (λ text. Stores g file file' fails fails' old asked found options text new (record { retired_first = made; stored = stored; labelled = labelled; pinned = pinned }))
  stores_all file file' fails fails' o p q r z old retired ended named new asked found options made stored labelled pinned first rest label last = (
    first.0 ++ (rest.0 ++ (label.0 ++ last.0)),
    record {
      told = first.0;
      retired = retired;
      retires_first = first.1;
      more = rest.0;
      ended = ended;
      stores = rest.1;
      named = label.0;
      labelled = named;
      labels = label.1;
      last = last.0;
      pins = last.1;
      all = refl;
    },
    prints_then first.2 (prints_then rest.2 (prints_then label.2 last.2)),
  )

-- what was told is written, or a front of it
module _ {D : Type 0} (g : disk.Ghosts D) (laws : Laws g) (law : FoundAfterAStop g) (file file' : Option (List ℕ)) (fails fails' : ℕ) (start : Option (List ℕ)) (count name : ℕ) (o p : Sink) (q : Option (List ℕ)) (h : ℕ)
    (old : Stage D) (end new : Parts D) (asked : Option Policy) (found : Result StreamFacts (List ℕ)) (options : Options) (outcome : StoreOutcome)
    (dropped : Result (Unit {0}) ArchiveFault) (begun : Told start count name o [])
    (told : PrintsReply (record { before = o; after = p }) (λ text. Stores g file file' fails fails' old.archive asked found options text end outcome))
    (drops : AbandonCall g end 0 dropped new) where
  abbrev pub streams : Streams
  streams = record { input = file; input' = file'; fails = fails; fails' = fails'; taken = start; taken' = q; lost = count; lost' = h }

  abbrev pub WritesOut : Result (Unit {0}) StreamFault → Type 0
  WritesOut r = (text : List ℕ) → Told start count name p text → IsDelivered start count q h text r

  pub store_written : (s : Unit {0}) → WritesOut (Ok s) → StoreEnds g streams old asked found options new (Ok outcome)
  store_written s d =
      let stages = stages_of g laws law file file' fails fails' old asked found options told.0 end outcome new told.1 drops.stays in
      (told.0, stage_of end stages.0, dropped, told.1, drops, d told.0 (told.2 start count name [] begun), stages.1)

  pub store_failed : (fault : StreamFault) → WritesOut (Err fault) → StoreEnds g streams old asked found options new (Err WriteFailed)
  store_failed fault d =
      let t = d told.0 (told.2 start count name [] begun) in
      let same = subst (λ (text : List ℕ). Stores g file file' fails fails' old.archive asked found options text end outcome) (sym t.2) told.1 in
      let stages = stages_of g laws law file file' fails fails' old asked found options (t.0 ++ t.1) end outcome new same drops.stays in
      (t.0, t.1, stage_of end stages.0, outcome, dropped, same, drops, t.3, t.4, stages.1)
