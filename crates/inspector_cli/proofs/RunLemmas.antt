-- The commands of a script, one after the other.
use Rattle.std.proofs.Common.{◌≡◌, inl, ℕ, true, false, Bool, List, [], ◌∷◌, ◌++◌, Option, Result, Ok, Err, refl, sym, ap, subst, ◌∙◌, append_assoc}
use Rattle.std.proofs.lemmas.List.{append-nil}
use Rattle.std.specs.List.{flat_map, AllByRecursion}
use Rattle.disk_model.specs.declared.disk.Disk as disk
use Rattle.intake.specs.Parts.{Parts}
use Rattle.script_streams.specs.Reading.{Gives}
use Rattle.script_streams.specs.Printing.{Sink}
use Rattle.script_streams.specs.declared.reader.ScriptBuffer.{ScriptBuffer}
use Rattle.script_streams.specs.declared.reader.ReadStop.{ReadStop}
use Rattle.intake.specs.StayLaws.{stays_as}
use Rattle.inspector_cli.specs.declared.script.ScriptStop.{ScriptStop}
use Rattle.inspector_cli.specs.declared.script.ScriptStop.TheVariants.{Read, Unheard}
use Rattle.stream_names.specs.declared.naming.Naming.{Naming}
use Rattle.script_lines.specs.Said.{said, silence}
use Rattle.inspector_cli.specs.Stages.{Stage}
use Rattle.inspector_cli.specs.Session.{Item, IsItem, spelled, AnswersItems, ButTheLast, last_stage, ending_text}
use Rattle.inspector_cli.specs.Heard.{TakesFrontOf}
use Rattle.inspector_cli.proofs.HeardLemmas.{heard_all, heard_none, heard_one, heard_still}
use Rattle.script_streams.specs.Replies.{Printing, PrintsText}
use Rattle.inspector_cli.specs.Answering.{Reading, CommandEnds, ScriptEnds}
use Rattle.inspector_cli.proofs.GiveLemmas.{gives_nothing, gives_then, gives_as}
use Rattle.inspector_cli.proofs.StageLemmas.{Laws, stage_of, line_moves, end_moves, still, broken_stays, run_then, last_then}
use Rattle.script_streams.specs.PrintLaws.{prints_nothing, prints_then}

all_then : (is : List Item) (i : Item) → AllByRecursion IsItem is → IsItem i → AllByRecursion IsItem (is ++ i ∷ [])
all_then [] i all one = (one, tt)
all_then (j ∷ js) i all one = (all.0, all_then js i all.1 one)

text_then : (is : List Item) (i : Item) → flat_map spelled is ++ spelled i ≡ flat_map spelled (is ++ i ∷ [])
text_then [] i = sym (append-nil (spelled i))
text_then (j ∷ js) i = append_assoc (spelled j) (flat_map spelled js) (spelled i) ∙ ap (λ x. spelled j ++ x) (text_then js i)

-- the commands so far, or all of them
abbrev pub Along : {D : Type 0} → disk.Ghosts D → Naming → Reading → Printing → Stage D → Parts D → Bool → Type 0
Along {D} g naming r t old new true =
    (items : List Item) × (out : List ℕ) × (stages : List (Stage D)) × AllByRecursion IsItem items × Gives r.before r.after r.buffer r.buffer' (flat_map spelled items)
    × AnswersItems g naming old items out stages × ((last_stage old stages).archive ≡ new) × PrintsText t out
    × ButTheLast g naming old items out (TakesFrontOf t out)
Along g naming r t old new false = ScriptEnds g naming r t old new (Ok tt)

module _ {D : Type 0} (g : disk.Ghosts D) where
  pub begun : (naming : Naming) (a : Option (List ℕ)) (b : ScriptBuffer) (o : Sink) (s : Stage D)
      → Along g naming (record { before = a; after = a; buffer = b; buffer' = b }) (record { before = o; after = o }) s s.archive true
  begun naming a b o s = ([], [], [], tt, gives_nothing a b, refl, refl, prints_nothing, heard_none g naming s o)

  module _ (laws : Laws g) (naming : Naming) (a b c : Option (List ℕ)) (x y z : ScriptBuffer) (o p q : Sink) (old : Stage D) (mid new : Parts D)
      (so_far : Along g naming (record { before = a; after = b; buffer = x; buffer' = y }) (record { before = o; after = p }) old mid true) where
    abbrev next_reading : Reading
    next_reading = record { before = b; after = c; buffer = y; buffer' = z }

    abbrev next_telling : Printing
    next_telling = record { before = p; after = q }

    abbrev all_reading : Reading
    all_reading = record { before = a; after = c; buffer = x; buffer' = z }

    abbrev all_telling : Printing
    all_telling = record { before = o; after = q }

    -- where the commands so far have led
    abbrev here : Stage D
    here = last_stage old so_far.2

    from_here : (r : Result Bool ScriptStop) → CommandEnds g naming next_reading next_telling mid new r → CommandEnds g naming next_reading next_telling here.archive new r
    from_here r e = subst (λ (m : Parts D). CommandEnds g naming next_reading next_telling m new r) (sym so_far.6) e

    item_answered : CommandEnds g naming next_reading next_telling here.archive new (Ok true) → Along g naming all_reading all_telling old new true
    item_answered e =
        let m = line_moves g laws here new naming (said e.0.line) e.0.raw e.3.0 e.3.1 in
        let s = stage_of new (m.0 ++ here.in_doubt) in (
          so_far.0 ++ e.0 ∷ [],
          so_far.1 ++ e.3.0,
          so_far.2 ++ s ∷ [],
          all_then so_far.0 e.0 so_far.3 e.1,
          gives_as a c x z (flat_map spelled so_far.0 ++ spelled e.0) (flat_map spelled (so_far.0 ++ e.0 ∷ [])) (text_then so_far.0 e.0)
              (gives_then a b c x y z (flat_map spelled so_far.0) (spelled e.0) so_far.4 e.2),
          run_then g naming old so_far.0 so_far.1 so_far.2 e.0 e.3.0 s so_far.5 e.3.1 m.1,
          ap (λ (t : Stage D). t.archive) (last_then g old s so_far.2),
          prints_then so_far.7 e.3.2,
          heard_one g naming old o p q so_far.0 e.0 so_far.1 e.3.0 so_far.2 so_far.5 so_far.7 e.4,
        )

    script_answered : CommandEnds g naming next_reading next_telling here.archive new (Ok false) → Along g naming all_reading all_telling old new false
    script_answered e =
        let m = end_moves g laws here new naming e.0 e.4 e.5 in (
          flat_map spelled so_far.0 ++ ending_text e.0,
          so_far.1 ++ e.4,
          so_far.2,
          stage_of new (m.0 ++ here.in_doubt),
          gives_then a b c x y z (flat_map spelled so_far.0) (ending_text e.0) so_far.4 e.2,
          e.3,
          record {
            items = so_far.0;
            each = so_far.3;
            ending = e.0;
            ends = e.1;
            cut = refl;
            replies = so_far.1;
            run = so_far.5;
            last = e.4;
            final = e.5;
            moves = m.1;
            text = refl;
          },
          refl,
          prints_then so_far.7 e.6,
          heard_all g naming old o p q so_far.1 e.4 so_far.7 e.7,
        )

    pub goes_along : (more : Bool) → CommandEnds g naming next_reading next_telling mid new (Ok more) → Along g naming all_reading all_telling old new more
    goes_along true e = item_answered (from_here (Ok true) e)
    goes_along false e = script_answered (from_here (Ok false) e)

    stopped_here : (stop : ReadStop) → CommandEnds g naming next_reading next_telling here.archive new (Err (Read stop)) → ScriptEnds g naming all_reading all_telling old new (Err (Read stop))
    stopped_here stop e =
        let m = still g laws here new silence [] (broken_stays g here.archive new e.0 e.3) in (
          flat_map spelled so_far.0 ++ e.0,
          so_far.1 ++ [],
          so_far.2,
          stage_of new (m.0 ++ here.in_doubt),
          gives_then a b c x y z (flat_map spelled so_far.0) e.0 so_far.4 e.1,
          e.2,
          record {
            items = so_far.0;
            each = so_far.3;
            rest = e.0;
            cut = refl;
            run = subst (λ (text : List ℕ). AnswersItems g naming old so_far.0 text so_far.2) (sym (append-nil so_far.1)) so_far.5;
            broken = e.3;
            moves = m.1;
          },
          refl,
          prints_then so_far.7 e.4,
          heard_still g naming old o p q so_far.0 so_far.1 so_far.8 e.4,
        )

    unheard_here : CommandEnds g naming next_reading next_telling here.archive new (Err Unheard) → ScriptEnds g naming all_reading all_telling old new (Err Unheard)
    unheard_here e =
        let m = still g laws here new silence [] (stays_as g here.archive new e.2) in (
          flat_map spelled so_far.0,
          e.0,
          so_far.1 ++ [],
          so_far.2,
          stage_of new (m.0 ++ here.in_doubt),
          gives_then a b c x y z (flat_map spelled so_far.0) e.0 so_far.4 e.1,
          record {
            items = so_far.0;
            each = so_far.3;
            rest = [];
            cut = sym (append-nil (flat_map spelled so_far.0));
            run = subst (λ (text : List ℕ). AnswersItems g naming old so_far.0 text so_far.2) (sym (append-nil so_far.1)) so_far.5;
            broken = inl (tt, e.2);
            moves = m.1;
          },
          refl,
          refl,
          e.3,
          prints_then so_far.7 e.4,
          heard_still g naming old o p q so_far.0 so_far.1 so_far.8 e.4,
        )

    pub stops_along : (stop : ScriptStop) → CommandEnds g naming next_reading next_telling mid new (Err stop) → ScriptEnds g naming all_reading all_telling old new (Err stop)
    stops_along (Read stop) e = stopped_here stop (from_here (Err (Read stop)) e)
    stops_along Unheard e = unheard_here (from_here (Err Unheard) e)

    pub stops_as : (stop other : ScriptStop) → other ≡ stop → CommandEnds g naming next_reading next_telling mid new (Err stop) → ScriptEnds g naming all_reading all_telling old new (Err other)
    stops_as stop other is e = subst (λ (s : ScriptStop). ScriptEnds g naming all_reading all_telling old new (Err s)) (sym is) (stops_along stop e)
