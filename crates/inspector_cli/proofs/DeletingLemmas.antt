-- Cases that are deleted one after the other, and the session of lines that this is.
use Rattle.std.proofs.Common.{◌≡◌, ◌<◌, true, Bool, ℕ, ◌+◌, List, [], ◌∷◌, ◌++◌, length, map, take, drop, get_or, Result, Ok, Err, refl, sym, ap, subst, ◌∙◌, append_assoc}
use Rattle.std.proofs.lemmas.Bool.{false≢true}
use Rattle.std.proofs.lemmas.Grind.{flat_map-append}
use Rattle.std.proofs.lemmas.List.{append-nil, take-append-drop, take_more}
use Rattle.std.specs.List.{AllByRecursion, flat_map}
use Rattle.std.specs.Prelude.{is_ok}
use Rattle.archive_replies.specs.Texts.{dropped_line, plain_reply}
use Rattle.disk_model.specs.declared.disk.Disk as disk
use Rattle.intake.specs.Calls.{DeleteCall}
use Rattle.intake.specs.Marks.{FoundAfterAStop}
use Rattle.intake.specs.Parts.{Parts}
use Rattle.intake.specs.StayLaws.{stays_as}
use Rattle.intake.specs.declared.faults.ArchiveFault.{ArchiveFault}
use Rattle.script_lines.specs.Said.{Said, delete_of, raw_length, said, silence}
use Rattle.script_streams.specs.Lines.{IsLine}
use Rattle.stream_names.specs.declared.naming.Naming.{Naming}
use Rattle.journal_layout.specs.declared.faults.OpenFault.{OpenFault}
use Rattle.inspector_cli.specs.declared.session.LifeFault.TheVariants.{Open}
use Rattle.inspector_cli.specs.Deleting.{AreLines, AreTried, DeletesEach, TriesEach, item_of, lines_streams}
use Rattle.inspector_cli.specs.Reply.{Replies}
use Rattle.inspector_cli.specs.Session.{AnswersAll, AnswersItems, DropsStreams, IsItem, SessionEnds, complete, last_stage, spelled}
use Rattle.inspector_cli.specs.Stages.{Stage, IsFoundAfterAStop}
use Rattle.inspector_cli.proofs.StageLemmas.{Laws, Reaches, found_after, line_moves, stage_of, still}

-- ---- One deletion more.

pub each_more : {D : Type 0} (g : disk.Ghosts D) (ns : List ℕ) (old mid new : Parts D) (n : ℕ) → DeletesEach g old ns mid → DeleteCall g mid n (Ok tt) new → DeletesEach g old (ns ++ n ∷ []) new
each_more g [] old mid new n is call = (new, subst (λ a. DeleteCall g a n (Ok tt) new) is call, refl)
each_more g (m ∷ ms) old mid new n deletes call = (deletes.0, deletes.1, each_more g ms deletes.0 mid new n deletes.2 call)

pub next_more : (all : List ℕ) (i : ℕ) → i < length all → take i all ++ get_or all i 0 ∷ [] ≡ take (i + 1) all
next_more all i within = sym (take_more all i 0 within)

-- the line of one more
pub line_more : (ns : List ℕ) (n : ℕ) → flat_map dropped_line ns ++ dropped_line n ≡ flat_map dropped_line (ns ++ n ∷ [])
line_more ns n = ap (λ t. flat_map dropped_line ns ++ t) (sym (append-nil (dropped_line n))) ∙ sym (flat_map-append dropped_line ns (n ∷ []))

-- those before it, it, and those after it
pub parted : (all : List ℕ) (i : ℕ) → i < length all → all ≡ take i all ++ get_or all i 0 ∷ drop (i + 1) all
parted all i within =
    sym (take-append-drop (i + 1) all) ∙ ap (λ ms. ms ++ drop (i + 1) all) (sym (next_more all i within)) ∙ append_assoc (take i all) (get_or all i 0 ∷ []) (drop (i + 1) all)

-- none is tried where the archive could not be opened
pub none_tried : (numbers : List ℕ) (f : OpenFault) → AreTried numbers [] (Err (Open f))
none_tried numbers f = record { rest = numbers; front = refl; all = λ yes. absurd (false≢true yes) }

-- ---- The lines.

all_front : (P : ℕ → Type 0) (xs ys : List ℕ) → AllByRecursion P (xs ++ ys) → AllByRecursion P xs
all_front P [] ys all = tt
all_front P (x ∷ xs) ys all = (all.0, all_front P xs ys all.1)

items_are : (line : ℕ → List ℕ) (ns : List ℕ) → AreLines line ns → AllByRecursion IsItem (map (item_of line) ns)
items_are line [] lines = tt
items_are line (n ∷ ns) lines = (record { line = lines.0.0; raw = sym (ap raw_length lines.0.1) }, items_are line ns lines.1)

-- what a session has done by the lines of these cases
pub record Ran {D : Type 0} (g : disk.Ghosts D) (naming : Naming) (line : ℕ → List ℕ) (old : Stage D) (numbers : List ℕ) (new : Parts D) : Type 0 where
  pub replies : List ℕ
  pub stages : List (Stage D)
  pub run : AnswersItems g naming old (map (item_of line) numbers) replies stages
  pub end : (last_stage old stages).archive ≡ new

-- The lines of those that were tried.
pub record Lines {D : Type 0} (g : disk.Ghosts D) (naming : Naming) (line : ℕ → List ℕ) (old : Stage D) (numbers : List ℕ) (done : Bool) (new : Parts D) : Type 0 where
  pub tried : List ℕ
  pub rest : List ℕ
  pub front : numbers ≡ tried ++ rest
  pub all : done ≡ true → tried ≡ numbers
  pub lines : AreLines line tried
  pub ran : Ran g naming line old tried new

module _ {D : Type 0} (g : disk.Ghosts D) (laws : Laws g) (naming : Naming) (line : ℕ → List ℕ) where
  -- a line, and those after it
  first : (old : Stage D) (n : ℕ) (ns : List ℕ) (r : Result (Unit {0}) ArchiveFault) (mid new : Parts D) → said (line n) ≡ delete_of n → DeleteCall g old.archive n r mid
      → ((after : Stage D) → after.archive ≡ mid → Ran g naming line after ns new) → Ran g naming line old (n ∷ ns) new
  first old n ns r mid new is call others =
      let replies : Replies g naming old.archive (said (line n)) [] (plain_reply r) mid = subst (λ (w : Said). Replies g naming old.archive w [] (plain_reply r) mid) (sym is) (r, call, refl) in
      let moved : Reaches g laws old mid (said (line n)) (plain_reply r) = line_moves g laws old mid naming (said (line n)) [] (plain_reply r) replies in
      let after = stage_of mid (moved.0 ++ old.in_doubt) in
      let more = others after refl in
      record {
        replies = plain_reply r ++ more.replies;
        stages = after ∷ more.stages;
        run = (plain_reply r, more.replies, replies, moved.1, more.run, refl);
        end = more.end;
      }

  none : (old : Stage D) (new : Parts D) → old.archive ≡ new → Ran g naming line old [] new
  none old new is = record { replies = []; stages = []; run = refl; end = is }

  ran_each : (ns : List ℕ) (old : Stage D) (new : Parts D) → DeletesEach g old.archive ns new → AreLines line ns → Ran g naming line old ns new
  ran_each [] old new is lines = none old new (sym is)
  ran_each (n ∷ ns) old new deletes lines =
      first old n ns (Ok tt) deletes.0 new lines.0.1 deletes.1 (λ after at. ran_each ns after new (subst (λ (a : Parts D). DeletesEach g a ns new) (sym at) deletes.2) lines.1)

  ran_to : (gone : List ℕ) (seq : ℕ) (f : ArchiveFault) (old : Stage D) (mid new : Parts D) → DeletesEach g old.archive gone mid → DeleteCall g mid seq (Err f) new → AreLines line (gone ++ seq ∷ [])
      → Ran g naming line old (gone ++ seq ∷ []) new
  ran_to [] seq f old mid new is call lines =
      first old seq [] (Err f) new new lines.0.1 (subst (λ (a : Parts D). DeleteCall g a seq (Err f) new) is call) (λ after at. none after new at)
  ran_to (n ∷ ns) seq f old mid new deletes call lines =
      first old n (ns ++ seq ∷ []) (Ok tt) deletes.0 new lines.0.1 deletes.1 (λ after at. ran_to ns seq f after mid new (subst (λ (a : Parts D). DeletesEach g a ns mid) (sym at) deletes.2) call lines.1)

  pub lines_tried : (old : Stage D) (numbers : List ℕ) (r : Result (Unit {0}) ArchiveFault) (gone : List ℕ) (done : Bool) (new : Parts D) → TriesEach g old.archive numbers r gone new → done ≡ is_ok r → AreLines line numbers
      → Lines g naming line old numbers done new
  lines_tried old numbers (Ok u) gone done new tries is lines =
      record { tried = numbers; rest = []; front = sym (append-nil numbers); all = λ yes. refl; lines = lines; ran = ran_each numbers old new tries.1 lines }
  lines_tried old numbers (Err f) gone done new x is lines =
      let front = x.all ∙ sym (append_assoc gone (x.seq ∷ []) x.rest) in
      let own = all_front (λ n. IsLine (line n) × (said (line n) ≡ delete_of n)) (gone ++ x.seq ∷ []) x.rest (subst (AreLines line) front lines) in
      record {
        tried = gone ++ x.seq ∷ [];
        rest = x.rest;
        front = front;
        all = λ yes. absurd (false≢true (sym is ∙ yes));
        lines = own;
        ran = ran_to gone x.seq f old x.mid new x.deleted x.refused own;
      }

  -- They are a whole session.
  module _ (law : FoundAfterAStop g) (old : Stage D) (tried : List ℕ) (mid new : Parts D) (lines : AreLines line tried) (ran : Ran g naming line old tried mid) (closes : DropsStreams g mid new) where
    abbrev script : List ℕ
    script = flat_map spelled (map (item_of line) tried)

    abbrev last : Stage D
    last = last_stage old ran.stages

    quiet : Reaches g laws last last.archive silence []
    quiet = still g laws last last.archive silence [] (stays_as g last.archive last.archive refl)

    abbrev end : Stage D
    end = stage_of last.archive (quiet.0 ++ last.in_doubt)

    all : AnswersAll g naming script ran.replies old ran.stages end
    all = record {
      items = map (item_of line) tried;
      each = items_are line tried lines;
      ending = complete;
      ends = tt;
      cut = sym (append-nil script);
      replies = ran.replies;
      run = ran.run;
      last = [];
      final = (refl, refl);
      moves = quiet.1;
      text = sym (append-nil ran.replies);
    }

    closed : DropsStreams g last.archive new
    closed = subst (λ (a : Parts D). DropsStreams g a new) (sym ran.end) closes

    found : IsFoundAfterAStop g old ran.stages end new
    found = found_after g laws law naming old (map (item_of line) tried) ran.replies ran.stages end new ran.run quiet.1.passes closed.stays

    pub session_of_lines : SessionEnds g naming (lines_streams line tried ran.replies) old new (Ok tt)
    session_of_lines = (script, ran.replies, ran.stages, end, sym (append-nil script), refl, refl, all, closed, found)
