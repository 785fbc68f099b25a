-- How a session ends, from how its script was answered and what its output took.
use Rattle.std.proofs.Common.{◌≡◌, ◌⊎◌, inl, inr, false, refl, append_assoc, ℕ, ◌^◌, ◌≤◌, List, [], ◌++◌, length, Option, Result, Ok, Err, sym, ap, subst, ◌∙◌, arith}
use Rattle.std.proofs.lemmas.Bool.{false≢true}
use Rattle.std.proofs.lemmas.List.{append-nil}
use Rattle.std.proofs.KnownBytes.{Appends-trans}
use Rattle.std.specs.Io.KnownBytes.{Appends, Consumes}
use Rattle.disk_model.specs.declared.disk.Disk as disk
use Rattle.intake.specs.Marks.{FoundAfterAStop}
use Rattle.intake.specs.Parts.{Parts}
use Rattle.diagnostics.specs.Counts.{HasRisen}
use Rattle.script_streams.specs.Reading.{Gives, held_bytes, reads_made}
use Rattle.script_streams.specs.Printing.{Sink, Told, IsDelivered}
use Rattle.script_streams.specs.declared.reader.ScriptBuffer.{ScriptBuffer}
use Rattle.script_streams.specs.declared.reader.ReadStop.TheVariants as stop
use Rattle.script_streams.specs.declared.streams.StreamFault.{StreamFault}
use Rattle.inspector_cli.specs.declared.script.ScriptStop.{ScriptStop}
use Rattle.inspector_cli.specs.declared.script.ScriptStop.TheVariants.{Read, Unheard}
use Rattle.inspector_cli.specs.declared.session.SessionFault.TheVariants.{ReadFailed, WriteFailed, TooManyReads}
use Rattle.stream_names.specs.declared.naming.Naming.{Naming}
use Rattle.inspector_cli.specs.Stages.{Stage, IsFoundAfterAStop}
use Rattle.inspector_cli.specs.Heard.{TakesFrontOf}
use Rattle.inspector_cli.specs.Session.{AnswersAll, AnswersWhole, ButTheLast, DropsStreams, IsHeard, Item, Streams, SessionEnds, complete}
use Rattle.inspector_cli.proofs.HeardLemmas.{longer, taken_on, told_rest}
use Rattle.script_streams.specs.Replies.{Printing}
use Rattle.inspector_cli.specs.Answering.{Reading, Halts, ScriptEnds, session_fault}
use Rattle.inspector_cli.proofs.StageLemmas.{Laws, found_after}

same_bytes : (a b : Option (List ℕ)) (old new : ScriptBuffer) (given : List ℕ) → held_bytes old ≡ [] → held_bytes new ≡ [] → (gives : Gives a b old new given) → gives.read ≡ given
same_bytes a b old new given empty up gives =
    ap (λ h. h ++ gives.read) (sym empty) ∙ gives.bytes ∙ ap (λ h. given ++ h) up ∙ append-nil given

consumed : (a b : Option (List ℕ)) (old new : ScriptBuffer) (given : List ℕ) → held_bytes old ≡ [] → held_bytes new ≡ [] → Gives a b old new given → Consumes a b given
consumed a b old new given empty up gives = subst (Consumes a b) (same_bytes a b old new given empty up gives) gives.consumed

counted : (a b : Option (List ℕ)) (old new : ScriptBuffer) (given : List ℕ) → held_bytes old ≡ [] → held_bytes new ≡ [] → reads_made old ≡ 0 → reads_made new ≡ 2 ^ 40 → Gives a b old new given
    → 2 ^ 40 ≤ length given
counted a b old new given empty up none most gives =
    let e = ap length (same_bytes a b old new given empty up gives) in let n = gives.counted in omega (arith, e, n, none, most)

module _ {D : Type 0} (g : disk.Ghosts D) (laws : Laws g) (law : FoundAfterAStop g) (naming : Naming) (a b : Option (List ℕ)) (x y : ScriptBuffer) (fails fails' : ℕ) (start : Option (List ℕ)) (count name : ℕ) (o p : Sink) (q : Option (List ℕ)) (h : ℕ)
    (old : Stage D) (mid new : Parts D) (empty : held_bytes x ≡ []) (unread : reads_made x ≡ 0) (begun : Told start count name o []) (closes : DropsStreams g mid new) where
  abbrev pub reading : Reading
  reading = record { before = a; after = b; buffer = x; buffer' = y }

  abbrev pub printing : Printing
  printing = record { before = o; after = p }

  abbrev pub streams : Streams
  streams = record { input = a; input' = b; fails = fails; fails' = fails'; taken = start; taken' = q; lost = count; lost' = h }

  -- what the output was told, it took, or a front of it
  abbrev pub Delivers : Result (Unit {0}) StreamFault → Type 0
  Delivers r = (from : Option (List ℕ)) (told : List ℕ) → Told from count name p told → IsDelivered from count q h told r

  closes_from : (end : Stage D) → end.archive ≡ mid → DropsStreams g end.archive new
  closes_from end is = subst (λ (m : Parts D). DropsStreams g m new) (sym is) closes

  all_found : (read out : List ℕ) (stages : List (Stage D)) (end : Stage D) → end.archive ≡ mid → AnswersAll g naming read out old stages end → IsFoundAfterAStop g old stages end new
  all_found read out stages end is all =
      found_after g laws law naming old all.items all.replies stages end new all.run all.moves.passes (closes_from end is).stays

  whole_found : (read out : List ℕ) (stages : List (Stage D)) (end : Stage D) → end.archive ≡ mid → AnswersWhole g naming read out old stages end → IsFoundAfterAStop g old stages end new
  whole_found read out stages end is whole =
      found_after g laws law naming old whole.items out stages end new whole.run whole.moves.passes (closes_from end is).stays

  pub ended : (s : Unit {0}) → ScriptEnds g naming reading printing old mid (Ok tt) → Delivers (Ok s) → SessionEnds g naming streams old new (Ok tt)
  ended s e d = (
    e.0,
    e.1,
    e.2,
    e.3,
    consumed a b x y e.0 empty e.5.1 e.4,
    e.5.0,
    d start e.1 (e.8 start count name [] begun),
    e.6,
    closes_from e.3 e.7,
    all_found e.0 e.1 e.2 e.3 e.7 e.6,
  )

  read_failed : (s : Unit {0}) → ScriptEnds g naming reading printing old mid (Err (Read stop.ReadFailed)) → Delivers (Ok s) → HasRisen fails fails' → SessionEnds g naming streams old new (Err ReadFailed)
  read_failed s e d rose = (
    e.0,
    e.1,
    e.2,
    e.3,
    consumed a b x y e.0 empty e.5 e.4,
    d start e.1 (e.8 start count name [] begun),
    e.6,
    closes_from e.3 e.7,
    whole_found e.0 e.1 e.2 e.3 e.7 e.6,
    rose,
  )

  too_many : (s : Unit {0}) → ScriptEnds g naming reading printing old mid (Err (Read stop.TooManyReads)) → Delivers (Ok s) → reads_made y ≡ 2 ^ 40
      → SessionEnds g naming streams old new (Err TooManyReads)
  too_many s e d most = (
    e.0,
    e.1,
    e.2,
    e.3,
    consumed a b x y e.0 empty e.5 e.4,
    d start e.1 (e.8 start count name [] begun),
    e.6,
    closes_from e.3 e.7,
    whole_found e.0 e.1 e.2 e.3 e.7 e.6,
    counted a b x y e.0 empty e.5 unread most e.4,
  )

  -- all that was taken from the input, where some of it is held
  taken_from : (read more : List ℕ) → Gives a b x y (read ++ more) → Consumes a b (read ++ (more ++ held_bytes y))
  taken_from read more gives =
      subst (Consumes a b) (ap (λ (h : List ℕ). h ++ gives.read) (sym empty) ∙ gives.bytes ∙ append_assoc read more (held_bytes y)) gives.consumed

  -- A front of all that was told is taken in the end: this one but for at most 8,192 bytes.
  record Ends (fault : StreamFault) (all front : List ℕ) : Type 0 where
    out : List ℕ
    rest : List ℕ
    split : out ++ rest ≡ all
    appended : Appends start q out
    lost : HasRisen count h
    heard : IsHeard (length out) front

  taken_last : (fault : StreamFault) (all front : List ℕ) → TakesFrontOf printing all front → Delivers (Err fault) → Ends fault all front
  taken_last fault all front takes d =
      let t = takes start count name begun in
      let v = d p.taken t.0.rest (told_rest start count name p all t.0) in
      let few = t.1 in
      let more = longer t.0.out v.0 in
      record {
        out = t.0.out ++ v.0;
        rest = v.1;
        split = taken_on t.0.out t.0.rest v.0 v.1 all t.0.split v.2;
        appended = Appends-trans start p.taken q t.0.out v.0 t.0.appended v.3;
        lost = v.4;
        heard = omega (arith, few, more);
      }

  -- what was carried out of a whole script, by the replies as they were told
  all_carried : (read more out text : List ℕ) (stages : List (Stage D)) (end : Stage D) (n : ℕ) → more ≡ [] → out ≡ text → (all : AnswersAll g naming read out old stages end) → IsHeard n all.replies
      → (a : AnswersAll g naming read text old stages end) × (more ≡ []) × ButTheLast g naming old a.items a.replies (IsHeard n) × ((a.ending ≡ complete) ⊎ IsHeard n a.replies)
  all_carried read more out text stages end n none is all heard =
      subst (λ (z : List ℕ). (a : AnswersAll g naming read z old stages end) × (more ≡ []) × ButTheLast g naming old a.items a.replies (IsHeard n) × ((a.ending ≡ complete) ⊎ IsHeard n a.replies)) is (
        all,
        none,
        record { front = all.items; last = []; all = sym (append-nil all.items); one = omega arith; before = all.replies; after = []; split = sym (append-nil all.replies); stages = stages; run = all.run; holds = heard },
        inr heard,
      )

  -- the same of a front of it
  front_carried : (read more out text : List ℕ) (stages : List (Stage D)) (end : Stage D) (n : ℕ) → out ≡ text → (w : AnswersWhole g naming read out old stages end) → (more ≡ []) ⊎ (w.rest ≡ []) → ButTheLast g naming old w.items out (IsHeard n)
      → (v : AnswersWhole g naming read text old stages end) × ((more ≡ []) ⊎ (v.rest ≡ [])) × ButTheLast g naming old v.items text (IsHeard n)
  front_carried read more out text stages end n is w none heard =
      subst (λ (z : List ℕ). (v : AnswersWhole g naming read z old stages end) × ((more ≡ []) ⊎ (v.rest ≡ [])) × ButTheLast g naming old v.items z (IsHeard n)) is (w, none, heard)

  -- by what was taken in the end
  heard_last : (items : List Item) (out : List ℕ) (n : ℕ) (b : ButTheLast g naming old items out (TakesFrontOf printing out)) → IsHeard n b.before → ButTheLast g naming old items out (IsHeard n)
  heard_last items out n b heard = record { front = b.front; last = b.last; all = b.all; one = b.one; before = b.before; after = b.after; split = b.split; stages = b.stages; run = b.run; holds = heard }

  pub write_failed : (fault : StreamFault) (r : Result (Unit {0}) ScriptStop) → ScriptEnds g naming reading printing old mid r → Delivers (Err fault) → SessionEnds g naming streams old new (Err WriteFailed)
  write_failed fault (Ok s) e d =
      let t = taken_last fault e.1 e.6.replies e.9 d in
      record {
        read = e.0;
        more = [];
        out = t.out;
        rest = t.rest;
        stages = e.2;
        end = e.3;
        consumed = subst (Consumes a b) (sym (append-nil e.0)) (consumed a b x y e.0 empty e.5.1 e.4);
        appended = t.appended;
        carried = inl (all_carried e.0 [] e.1 (t.out ++ t.rest) e.2 e.3 (length t.out) refl (sym t.split) e.6 t.heard);
        drops = closes_from e.3 e.7;
        found = all_found e.0 e.1 e.2 e.3 e.7 e.6;
        lost = t.lost;
      }
  write_failed fault (Err (Read s)) e d =
      let t = taken_last fault e.1 e.9.before e.9.holds d in
      record {
        read = e.0;
        more = [];
        out = t.out;
        rest = t.rest;
        stages = e.2;
        end = e.3;
        consumed = subst (Consumes a b) (sym (append-nil e.0)) (consumed a b x y e.0 empty e.5 e.4);
        appended = t.appended;
        carried = inr (front_carried e.0 [] e.1 (t.out ++ t.rest) e.2 e.3 (length t.out) (sym t.split) e.6 (inl refl) (heard_last e.6.items e.1 (length t.out) e.9 t.heard));
        drops = closes_from e.3 e.7;
        found = whole_found e.0 e.1 e.2 e.3 e.7 e.6;
        lost = t.lost;
      }
  write_failed fault (Err Unheard) e d =
      let t = taken_last fault e.2 e.11.before e.11.holds d in
      record {
        read = e.0;
        more = e.1 ++ held_bytes y;
        out = t.out;
        rest = t.rest;
        stages = e.3;
        end = e.4;
        consumed = taken_from e.0 e.1 e.5;
        appended = t.appended;
        carried = inr (front_carried e.0 (e.1 ++ held_bytes y) e.2 (t.out ++ t.rest) e.3 e.4 (length t.out) (sym t.split) e.6 (inr e.7) (heard_last e.6.items e.2 (length t.out) e.11 t.heard));
        drops = closes_from e.4 e.8;
        found = whole_found e.0 e.2 e.3 e.4 e.8 e.6;
        lost = t.lost;
      }

  pub read_stopped : (s : Unit {0}) (why : ScriptStop) → p.unwritten.failed ≡ false → ScriptEnds g naming reading printing old mid (Err why) → Delivers (Ok s) → Halts {T = Unit {0}} fails fails' y (Err why)
      → SessionEnds g naming streams old new (Err (session_fault why))
  read_stopped s (Read stop.ReadFailed) running e d stops = read_failed s e d stops
  read_stopped s (Read stop.TooManyReads) running e d stops = too_many s e d stops.1
  read_stopped s Unheard running e d stops = absurd (false≢true (sym running ∙ e.9))
