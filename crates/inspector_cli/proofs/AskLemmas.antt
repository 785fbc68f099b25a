-- One line that is asked alone: its outcome, and the session that it is.
use Rattle.std.proofs.Common.{◌≡◌, ◌⊎◌, inl, true, false, true≢false, Bool, ℕ, List, [], ◌∷◌, ◌++◌, length, Option, Result, Ok, Err, refl, sym, subst, ◌∙◌, append_assoc, arith}
use Rattle.std.proofs.lemmas.Bool.{false≢true}
use Rattle.std.proofs.lemmas.List.{append-nil}
use Rattle.std.specs.Prelude.{is_ok, not, codes, decimal}
use Rattle.std.specs.Io.KnownBytes.{Appends}
use Rattle.std.specs.List.{flat_map}
use Rattle.disk_model.specs.declared.disk.Disk as disk
use Rattle.intake.specs.Marks.{FoundAfterAStop}
use Rattle.intake.specs.Parts.{Parts}
use Rattle.intake.specs.StayLaws.{stays_as}
use Rattle.intake.specs.declared.faults.ArchiveFault.{ArchiveFault}
use Rattle.intake.specs.declared.space.Space.{Space}
use Rattle.retention.specs.declared.Decision.{Decision}
use Rattle.archive_replies.specs.Reasons.{reason_of}
use Rattle.archive_replies.specs.Texts.{plain_reply, retire_reply, free_reply, list_reply, dropped_line, unmet_line, case_line}
use Rattle.script_lines.specs.Said.{said, raw_length, silence}
use Rattle.script_streams.specs.Lines.{IsLine}
use Rattle.script_streams.specs.Replies.{IsOutcome, ok_reply}
use Rattle.script_streams.specs.Printing.{IsDelivered}
use Rattle.script_streams.specs.declared.streams.StreamFault.{StreamFault}
use Rattle.stream_names.specs.declared.naming.Naming.{Naming}
use Rattle.inspector_cli.specs.Reply.{Replies}
use Rattle.inspector_cli.specs.Session.{Item, AnswersItems, AnswersAll, ButTheLast, DropsStreams, IsHeard, SessionEnds, complete}
use Rattle.inspector_cli.specs.Stages.{Stage, IsFoundAfterAStop}
use Rattle.inspector_cli.specs.Asking.{line_streams}
use Rattle.inspector_cli.specs.declared.session.LifeFault.TheVariants as life
use Rattle.inspector_cli.specs.declared.session.SessionFault.TheVariants.{WriteFailed}
use Rattle.inspector_cli.proofs.StageLemmas.{Laws, Reaches, stage_of, still, line_moves, found_after}
use Rattle.journal_layout.specs.Case.{Case}

-- the outcome of what was done, by its reply
pub plain_outcome : (r : Result (Unit {0}) ArchiveFault) (done : Bool) → done ≡ is_ok r → IsOutcome done (plain_reply r)
plain_outcome (Ok u) true is = ([], refl)
plain_outcome (Ok u) false is = absurd (false≢true is)
plain_outcome (Err f) true is = absurd (true≢false is)
plain_outcome (Err f) false is = (reason_of f, refl)

pub retire_outcome : (r : Result Decision ArchiveFault) (done : Bool) → done ≡ is_ok r → IsOutcome done (retire_reply r)
retire_outcome (Ok d) true is =
    (flat_map dropped_line d.dropped.items ++ unmet_line d.unmet, sym (append_assoc (flat_map dropped_line d.dropped.items) (unmet_line d.unmet) ok_reply))
retire_outcome (Ok d) false is = absurd (false≢true is)
retire_outcome (Err f) true is = absurd (true≢false is)
retire_outcome (Err f) false is = (reason_of f, refl)

pub free_outcome : (r : Result Space ArchiveFault) (done : Bool) → done ≡ is_ok r → IsOutcome done (free_reply r)
free_outcome (Ok space) true is = (codes "free " ++ (decimal space.free ++ (codes " of " ++ (decimal space.data_blocks ++ 10 ∷ []))), refl)
free_outcome (Ok space) false is = absurd (false≢true is)
free_outcome (Err f) true is = absurd (true≢false is)
free_outcome (Err f) false is = (reason_of f, refl)

pub list_outcome : (stopped : Bool) (version : ℕ) (cases : List Case) (done : Bool) → done ≡ not stopped → IsOutcome done (list_reply stopped version cases)
list_outcome false version cases true is = (flat_map (case_line version) cases, refl)
list_outcome false version cases false is = absurd (false≢true is)
list_outcome true version cases true is = absurd (true≢false is)
list_outcome true version cases false is = (codes "Stopped", refl)

-- the outcome of a reply that is this one
pub outcome_as : (done : Bool) (text reply : List ℕ) → text ≡ reply → IsOutcome done reply → IsOutcome done text
outcome_as done text reply is outcome = subst (IsOutcome done) (sym is) outcome

-- One line is a whole session.
module _ {D : Type 0} (g : disk.Ghosts D) (laws : Laws g) (law : FoundAfterAStop g) (naming : Naming) (line : List ℕ) (one : IsLine line) (none : raw_length (said line) ≡ 0)
    (old : Stage D) (mid new : Parts D) (text : List ℕ) (answers : Replies g naming old.archive (said line) [] text mid) (closes : DropsStreams g mid new) where
  abbrev item : Item
  item = record { line = line; raw = [] }

  abbrev script : List ℕ
  script = line ++ 10 ∷ []

  moved : Reaches g laws old mid (said line) text
  moved = line_moves g laws old mid naming (said line) [] text answers

  abbrev answered : Stage D
  answered = stage_of mid (moved.0 ++ old.in_doubt)

  quiet : Reaches g laws answered mid silence []
  quiet = still g laws answered mid silence [] (stays_as g mid mid refl)

  abbrev end : Stage D
  end = stage_of mid (quiet.0 ++ answered.in_doubt)

  run : AnswersItems g naming old (item ∷ []) text (answered ∷ [])
  run = (text, [], answers, moved.1, refl, sym (append-nil text))

  all : AnswersAll g naming script text old (answered ∷ []) end
  all = record {
    items = item ∷ [];
    each = (record { line = one; raw = sym none }, tt);
    ending = complete;
    ends = tt;
    cut = sym (append-nil script) ∙ sym (append-nil (script ++ []));
    replies = text;
    run = run;
    last = [];
    final = (refl, refl);
    moves = quiet.1;
    text = sym (append-nil text);
  }

  -- its only command is the last
  one_carried : (more out : List ℕ) (n : ℕ) → more ≡ [] → text ≡ out
      → (a : AnswersAll g naming script out old (answered ∷ []) end) × (more ≡ []) × ButTheLast g naming old a.items a.replies (IsHeard n) × ((a.ending ≡ complete) ⊎ IsHeard n a.replies)
  unfolding all
  one_carried more out n none is =
      subst (λ (z : List ℕ). (a : AnswersAll g naming script z old (answered ∷ []) end) × (more ≡ []) × ButTheLast g naming old a.items a.replies (IsHeard n) × ((a.ending ≡ complete) ⊎ IsHeard n a.replies)) is (
        all,
        none,
        record { front = []; last = item ∷ []; all = refl; one = omega arith; before = []; after = text; split = refl; stages = []; run = refl; holds = omega arith },
        inl refl,
      )

  found : IsFoundAfterAStop g old (answered ∷ []) end new
  found = found_after g laws law naming old (item ∷ []) text (answered ∷ []) end new run quiet.1.passes closes.stays

  module _ (taken taken' : Option (List ℕ)) (lost lost' : ℕ) where
    -- the reply is written
    pub line_written : (done : Bool) → Appends taken taken' text → SessionEnds g naming (line_streams line (Ok done) taken taken' lost lost') old new (Ok tt)
    line_written done written = (script, text, answered ∷ [], end, sym (append-nil script), refl, written, all, closes, found)

    -- or a front of it
    pub line_unwritten : (fault : StreamFault) → IsDelivered taken lost taken' lost' text (Err fault)
        → SessionEnds g naming (line_streams line (Err (life.Session WriteFailed)) taken taken' lost lost') old new (Err WriteFailed)
    line_unwritten fault d = record {
      read = script;
      more = [];
      out = d.0;
      rest = d.1;
      stages = answered ∷ [];
      end = end;
      consumed = sym (append-nil script) ∙ sym (append-nil (script ++ []));
      appended = d.3;
      carried = inl (one_carried [] (d.0 ++ d.1) (length d.0) refl (sym d.2));
      drops = closes;
      found = found;
      lost = d.4;
    }
