-- A line leads from stage to stage.
use Rattle.std.proofs.Common.{◌≡◌, ◌⊎◌, inl, inr, ⊎_elim, ℕ, zero, suc, Bool, List, [], ◌∷◌, ◌++◌, Option, Result, Ok, Err, refl, sym, ap, ◌∙◌, append_assoc}
use Rattle.std.proofs.lemmas.List.{append-nil}
use Rattle.std.specs.List.{AllByRecursion}
use Rattle.std.specs.Prelude.{codes}
use Rattle.disk_model.specs.declared.disk.Disk as disk
use Rattle.intake.specs.declared.faults.ArchiveFault.{ArchiveFault}
use Rattle.intake.specs.declared.faults.ArchiveFault.TheVariants as fault
use Rattle.intake.specs.Calls.{ChangesNoCase}
use Rattle.intake.specs.Durable.{Durable}
use Rattle.intake.specs.Growth.{IsDiskFault}
use Rattle.intake.specs.Marks.{Passes, IsRunOfMarks, LeadsToMark, doubted, mark_of, FoundAfterAStop, StaysLead, FinishLeads, DeleteLeads, PinLeads, LabelLeads, UpgradeLeads, RetireLeads}
use Rattle.intake.specs.Parts.{Parts}
use Rattle.intake.specs.State.{StreamFacts}
use Rattle.retention.specs.declared.Decision.{Decision}
use Rattle.retention.specs.declared.Policy.{Policy}
use Rattle.stream_names.specs.declared.naming.Naming.{Naming}
use Rattle.script_lines.specs.Said.{Said, silence, bad_line, long_line, begin_exec, begin_core, part_of, end_of, drop_of, delete_of, pin_of, label_of, retire_by, list_all_cases, count_free, upgrade_archive, inspect_of, said, raw_length}
use Rattle.script_streams.specs.Replies.{no_reply}
use Rattle.inspector_cli.specs.Reply.{Begins, Ends, Deletes, Pins, Labels, Retires, Replies, query_by}
use Rattle.archive_replies.specs.Texts.{end_reply, plain_reply, retire_reply}
use Rattle.stream_names.specs.Streams.{exec_stream, core_stream}
use Rattle.archive_replies.specs.Reasons.{reason_of}
use Rattle.inspector_cli.specs.Stages.{Stage, Moves, MayLeave, mark_at, marks_of, IsFoundAfterAStop}
use Rattle.inspector_cli.specs.Session.{Item, AnswersItems, last_stage, Ending, complete, last_line, cut_part, said_last, EndReplies, LastReplies, Truncates, TakesFront, BreaksOff}
use Rattle.intake.specs.StayLaws.{stays_as, stays_then}
use Rattle.case_queries.specs.InspectLaws.{inspects_leaves}

all_as : {P Q : Durable → Type 0} (xs : List Durable) → ((x : Durable) → P x → Q x) → AllByRecursion P xs → AllByRecursion Q xs
all_as [] f all = tt
all_as (x ∷ xs) f all = (f x all.0, all_as xs f all.1)

end_disk : (r : Result ℕ ArchiveFault) → IsDiskFault r → end_reply r ≡ no_reply (codes "Disk")
end_disk (Ok seq) is = absurd is
end_disk (Err f) is = ap (λ (x : ArchiveFault). no_reply (reason_of x)) is

plain_disk : (r : Result (Unit {0}) ArchiveFault) → IsDiskFault r → plain_reply r ≡ no_reply (codes "Disk")
plain_disk (Ok u) is = absurd is
plain_disk (Err f) is = ap (λ (x : ArchiveFault). no_reply (reason_of x)) is

retire_disk : (r : Result Decision ArchiveFault) → IsDiskFault r → retire_reply r ≡ no_reply (codes "Disk")
retire_disk (Ok d) is = absurd is
retire_disk (Err f) is = ap (λ (x : ArchiveFault). no_reply (reason_of x)) is

-- only an answer that the disk failed leaves anything in doubt
doubts_told : (T : Type 0) (r : Result T ArchiveFault) (reply : List ℕ) (P : Durable → Type 0) (more : List Durable) → (IsDiskFault r → reply ≡ no_reply (codes "Disk")) → AllByRecursion P more
    → (doubted {T = T} r more ≡ []) ⊎ ((reply ≡ no_reply (codes "Disk")) × AllByRecursion P (doubted {T = T} r more))
doubts_told T (Ok x) reply P more is all = inl refl
doubts_told T (Err fault.Disk) reply P more is all = inr (is refl, all)
doubts_told T (Err _) reply P more is all = inl refl

pub begins_stays : {D : Type 0} (g : disk.Ghosts D) (old new : Parts D) (slot : ℕ) (found : Result StreamFacts (List ℕ)) (reply : List ℕ) (accepted : Bool) → Begins g old slot found reply new accepted → ChangesNoCase g old new
begins_stays g old new slot (Ok s) reply accepted begins = begins.1.stays
begins_stays g old new slot (Err reason) reply accepted begins = stays_as g old new begins.1

pub truncates_stays : {D : Type 0} (g : disk.Ghosts D) (old new : Parts D) (what : Said) (raw reply : List ℕ) → Truncates g old what raw reply new → ChangesNoCase g old new
truncates_stays g old new (part_of slot n) raw reply cut = stays_then g old cut.0 new cut.3.stays cut.4.stays
truncates_stays g old new _ raw reply cut = absurd cut

front_stays : {D : Type 0} (g : disk.Ghosts D) (old new : Parts D) (what : Said) (raw : List ℕ) → TakesFront g old what raw new → ChangesNoCase g old new
front_stays g old new (part_of slot n) raw front = front.1.stays
front_stays g old new _ raw front = absurd front

pub broken_stays : {D : Type 0} (g : disk.Ghosts D) (old new : Parts D) (rest : List ℕ) → BreaksOff g old rest new → ChangesNoCase g old new
broken_stays g old new rest broken = ⊎_elim (λ none. stays_as g old new none.1) (λ cut. front_stays g old new (said cut.0) cut.1 cut.5) broken

abbrev pub stage_of : {D : Type 0} → Parts D → List Durable → Stage D
stage_of archive in_doubt = record { archive = archive; in_doubt = in_doubt }

-- the laws on marks
pub record Laws {D : Type 0} (g : disk.Ghosts D) : Type 0 where
  pub stays : StaysLead g
  pub finish : FinishLeads g
  pub delete : DeleteLeads g
  pub pin : PinLeads g
  pub label : LabelLeads g
  pub upgrade : UpgradeLeads g
  pub retire : RetireLeads g

pub laws_of : {D : Type 0} (g : disk.Ghosts D) → StaysLead g → FinishLeads g → DeleteLeads g → PinLeads g → LabelLeads g → UpgradeLeads g → RetireLeads g → Laws g
laws_of g stays finish delete pin label upgrade retire = record { stays = stays; finish = finish; delete = delete; pin = pin; label = label; upgrade = upgrade; retire = retire }

module _ {D : Type 0} (g : disk.Ghosts D) (laws : Laws g) (old : Stage D) (new : Parts D) where
  -- a stage that is reached, with this in doubt anew
  abbrev pub Reaches : Said → List ℕ → Type 0
  Reaches what reply = (more : List Durable) × Moves g old what reply (stage_of new (more ++ old.in_doubt))

  pub still : (what : Said) (reply : List ℕ) → ChangesNoCase g old.archive new → Reaches what reply
  still what reply stays = ([], record { doubts = []; in_doubt = refl; doubted = inl refl; passes = laws.stays old.archive new old.in_doubt stays })

  changed : (T : Type 0) (what : Said) (reply : List ℕ) (r : Result T ArchiveFault) (doubt : Durable → Type 0) → ((x : Durable) → doubt x → MayLeave g old.archive what x)
      → (IsDiskFault r → reply ≡ no_reply (codes "Disk")) → LeadsToMark T g old.archive r new doubt → Reaches what reply
  changed T what reply r doubt may is leads =
      let l = leads old.in_doubt in (
        doubted {T = T} r l.0,
        record {
          doubts = doubted {T = T} r l.0;
          in_doubt = refl;
          doubted = doubts_told T r reply (MayLeave g old.archive what) l.0 is (all_as l.0 may l.1);
          passes = l.2;
        },
      )

  pub ends_moves : (slot : ℕ) (reply : List ℕ) (stored : Option ℕ) → Ends g old.archive slot reply new stored → Reaches (end_of slot) reply
  ends_moves slot reply stored r =
      changed ℕ (end_of slot) reply r.0 _ (λ x may. may) (λ is. r.2 ∙ end_disk r.0 is) (laws.finish old.archive new slot r.0 r.1)

  pub deletes_moves : (seq : ℕ) (reply : List ℕ) → Deletes g old.archive seq reply new → Reaches (delete_of seq) reply
  deletes_moves seq reply r =
      changed (Unit {0}) (delete_of seq) reply r.0 _ (λ x may. may) (λ is. r.2 ∙ plain_disk r.0 is) (laws.delete old.archive new seq r.0 r.1)

  pub pins_moves : (seq : ℕ) (flag : Bool) (reply : List ℕ) → Pins g old.archive seq flag reply new → Reaches (pin_of seq flag) reply
  pins_moves seq flag reply r =
      changed (Unit {0}) (pin_of seq flag) reply r.0 _ (λ x may. may) (λ is. r.2 ∙ plain_disk r.0 is) (laws.pin old.archive new seq flag r.0 r.1)

  pub labels_moves : (seq : ℕ) (label reply : List ℕ) → Labels g old.archive seq label reply new → Reaches (label_of seq label) reply
  labels_moves seq label reply r =
      changed (Unit {0}) (label_of seq label) reply r.0 _ (λ x may. may) (λ is. r.2 ∙ plain_disk r.0 is) (laws.label old.archive new seq label r.0 r.1)

  pub retires_moves : (policy : Policy) (reply : List ℕ) → Retires g old.archive policy reply new → Reaches (retire_by policy) reply
  retires_moves policy reply r =
      changed Decision (retire_by policy) reply r.0 _ (λ x may. may) (λ is. r.2 ∙ retire_disk r.0 is) (laws.retire old.archive new policy r.0 r.1)

  pub line_moves : (naming : Naming) (what : Said) (raw reply : List ℕ) → Replies g naming old.archive what raw reply new → Reaches what reply
  line_moves naming silence raw reply r = still silence reply (stays_as g old.archive new r.1)
  line_moves naming bad_line raw reply r = still bad_line reply (stays_as g old.archive new r.1)
  line_moves naming long_line raw reply r = still long_line reply (stays_as g old.archive new r.1)
  line_moves naming (begin_exec slot name) raw reply r = still (begin_exec slot name) reply (begins_stays g old.archive new slot (exec_stream name) reply r.0 r.1)
  line_moves naming (begin_core slot process) raw reply r = still (begin_core slot process) reply (begins_stays g old.archive new slot (core_stream naming process) reply r.0 r.1)
  line_moves naming (part_of slot n) raw reply r = still (part_of slot n) reply r.1.stays
  line_moves naming (end_of slot) raw reply r = ends_moves slot reply r.0 r.1
  line_moves naming (drop_of slot) raw reply r = still (drop_of slot) reply r.1.stays
  line_moves naming (delete_of seq) raw reply r =
      changed (Unit {0}) (delete_of seq) reply r.0 _ (λ x may. may) (λ is. r.2 ∙ plain_disk r.0 is) (laws.delete old.archive new seq r.0 r.1)
  line_moves naming (pin_of seq flag) raw reply r =
      changed (Unit {0}) (pin_of seq flag) reply r.0 _ (λ x may. may) (λ is. r.2 ∙ plain_disk r.0 is) (laws.pin old.archive new seq flag r.0 r.1)
  line_moves naming (label_of seq label) raw reply r = labels_moves seq label reply r
  line_moves naming upgrade_archive raw reply r =
      changed (Unit {0}) upgrade_archive reply r.0 _ (λ x may. may) (λ is. r.2 ∙ plain_disk r.0 is) (laws.upgrade old.archive new r.0 r.1)
  line_moves naming (retire_by policy) raw reply r = retires_moves policy reply r
  line_moves naming list_all_cases raw reply r = still list_all_cases reply (stays_as g old.archive new r.1)
  line_moves naming count_free raw reply r = still count_free reply (stays_as g old.archive new r.3)
  line_moves naming (inspect_of seq query) raw reply r = still (inspect_of seq query) reply (inspects_leaves g old.archive seq (query_by naming query) reply new r).stays

  last_moves : (naming : Naming) (n : ℕ) (what : Said) (reply : List ℕ) → LastReplies g naming n old.archive what reply new → Reaches what reply
  last_moves naming zero what reply r = line_moves naming what [] reply r
  last_moves naming (suc n) what reply r = still what reply (truncates_stays g old.archive new what [] reply r)

  pub end_moves : (naming : Naming) (e : Ending) (reply : List ℕ) → EndReplies g naming old.archive e reply new → Reaches (said_last e) reply
  end_moves naming complete reply r = still silence reply (stays_as g old.archive new r.1)
  end_moves naming (last_line line) reply r = last_moves naming (raw_length (said line)) (said line) reply r
  end_moves naming (cut_part line raw) reply r = still (said line) reply (truncates_stays g old.archive new (said line) raw reply r)

module _ {D : Type 0} (g : disk.Ghosts D) where
  -- a run and one line more
  pub run_then : (naming : Naming) (old : Stage D) (is : List Item) (out : List ℕ) (ss : List (Stage D)) (i : Item) (reply : List ℕ) (s : Stage D) → AnswersItems g naming old is out ss
      → Replies g naming (last_stage old ss).archive (said i.line) i.raw reply s.archive → Moves g (last_stage old ss) (said i.line) reply s
      → AnswersItems g naming old (is ++ i ∷ []) (out ++ reply) (ss ++ s ∷ [])
  run_then naming old [] out [] i reply s run replies moves =
      (reply, [], replies, moves, refl, ap (λ x. x ++ reply) run ∙ sym (append-nil reply))
  run_then naming old [] out (t ∷ ts) i reply s run replies moves = absurd run
  run_then naming old (j ∷ js) out [] i reply s run replies moves = absurd run
  run_then naming old (j ∷ js) out (t ∷ ts) i reply s run replies moves =
      (run.0, run.1 ++ reply, run.2, run.3, run_then naming t js run.1 ts i reply s run.4 replies moves, ap (λ x. x ++ reply) run.5 ∙ append_assoc run.0 run.1 reply)

  pub last_then : (old s : Stage D) (ss : List (Stage D)) → last_stage old (ss ++ s ∷ []) ≡ s
  last_then old s [] = refl
  last_then old s (t ∷ ts) = last_then t s ts

  -- the stages of a session are a run of marks
  pub marks_run : (naming : Naming) (old : Stage D) (is : List Item) (out : List ℕ) (ss : List (Stage D)) (end : Stage D) (new : Parts D) → AnswersItems g naming old is out ss
      → Passes g (mark_at g.seen (last_stage old ss)) (mark_at g.seen end) → Passes g (mark_at g.seen end) (mark_of g.seen new end.in_doubt)
      → IsRunOfMarks g (mark_at g.seen old) (marks_of g.seen ss end new)
  marks_run naming old [] out [] end new run last closed = (last, (closed, tt))
  marks_run naming old [] out (t ∷ ts) end new run last closed = absurd run
  marks_run naming old (j ∷ js) out [] end new run last closed = absurd run
  marks_run naming old (j ∷ js) out (t ∷ ts) end new run last closed = (run.3.passes, marks_run naming t js run.1 ts end new run.4 last closed)

  pub found_after : (laws : Laws g) → FoundAfterAStop g → (naming : Naming) (old : Stage D) (is : List Item) (out : List ℕ) (ss : List (Stage D)) (end : Stage D) (new : Parts D)
      → AnswersItems g naming old is out ss → Passes g (mark_at g.seen (last_stage old ss)) (mark_at g.seen end) → ChangesNoCase g end.archive new → IsFoundAfterAStop g old ss end new
  found_after laws found naming old is out ss end new run last closes honest settled =
      found (mark_at g.seen old) (marks_of g.seen ss end new) honest settled (marks_run naming old is out ss end new run last (laws.stays end.archive new end.in_doubt closes))
