-- Lines that only look write no byte of the disk.
use Rattle.std.proofs.Common.{◌≡◌, ◌≤◌, ℕ, zero, suc, true, List, [], ◌∷◌, Ok}
use Rattle.std.proofs.lemmas.Bool.{false≢true}
use Rattle.std.specs.List.{AllByRecursion}
use Rattle.case_journal.specs.Viewing.{OnlyReads}
use Rattle.case_queries.specs.InspectLaws.{inspects_quiet}
use Rattle.case_queries.specs.LeaveLaws.{quiet_as}
use Rattle.disk_model.specs.declared.disk.Disk as disk
use Rattle.intake.specs.Calls.{OpenCall}
use Rattle.intake.specs.Parts.{Parts}
use Rattle.intake.specs.QuietLaws.{quiet_none, quiet_then}
use Rattle.stream_names.specs.declared.naming.Naming.{Naming}
use Rattle.script_lines.specs.Said.{Said, silence, bad_line, long_line, begin_exec, begin_core, part_of, end_of, drop_of, delete_of, pin_of, label_of, retire_by, list_all_cases, count_free, upgrade_archive, inspect_of, said, raw_length}
use Rattle.inspector_cli.specs.Headline.{is_idle}
use Rattle.inspector_cli.specs.Reply.{Replies, query_by}
use Rattle.inspector_cli.specs.Session.{Ending, complete, last_line, cut_part, said_last, last_stage, LastReplies, EndReplies, Truncates}
use Rattle.inspector_cli.specs.Stages.{Stage}
use Rattle.inspector_cli.specs.Told.{Answer, Answers, what_of}

module _ {D : Type 0} (g : disk.Ghosts D) (only : (d : D) (c : List ℕ) → g.left_since d (g.clock d) c → g.may_leave d c) (naming : Naming) where
  line_idle : (old new : Parts D) (what : Said) (raw reply : List ℕ) → is_idle what ≡ true → Replies g naming old what raw reply new → OnlyReads g old.disk new.disk
  line_idle old new silence raw reply idle r = quiet_as g only old new r.1
  line_idle old new bad_line raw reply idle r = quiet_as g only old new r.1
  line_idle old new long_line raw reply idle r = quiet_as g only old new r.1
  line_idle old new (begin_exec slot name) raw reply idle r = absurd (false≢true idle)
  line_idle old new (begin_core slot process) raw reply idle r = absurd (false≢true idle)
  line_idle old new (part_of slot n) raw reply idle r = absurd (false≢true idle)
  line_idle old new (end_of slot) raw reply idle r = absurd (false≢true idle)
  line_idle old new (drop_of slot) raw reply idle r = absurd (false≢true idle)
  line_idle old new (delete_of seq) raw reply idle r = absurd (false≢true idle)
  line_idle old new (pin_of seq flag) raw reply idle r = absurd (false≢true idle)
  line_idle old new (label_of seq label) raw reply idle r = absurd (false≢true idle)
  line_idle old new (retire_by policy) raw reply idle r = absurd (false≢true idle)
  line_idle old new upgrade_archive raw reply idle r = absurd (false≢true idle)
  line_idle old new list_all_cases raw reply idle r = quiet_as g only old new r.1
  line_idle old new count_free raw reply idle r = quiet_as g only old new r.3
  line_idle old new (inspect_of seq query) raw reply idle r = inspects_quiet g old seq (query_by naming query) reply new only r

  cut_idle : (old new : Parts D) (what : Said) (raw reply : List ℕ) → is_idle what ≡ true → Truncates g old what raw reply new → OnlyReads g old.disk new.disk
  cut_idle old new (part_of slot n) raw reply idle cut = absurd (false≢true idle)
  cut_idle old new _ raw reply idle cut = absurd cut

  pub lines_idle : (old : Stage D) (list : List Answer) (ss : List (Stage D)) → Answers g naming old list ss → AllByRecursion (λ (a : Answer). is_idle (what_of a) ≡ true) list → OnlyReads g old.archive.disk (last_stage old ss).archive.disk
  lines_idle old [] [] run idle = quiet_none g old.archive.disk (only old.archive.disk)
  lines_idle old [] (s ∷ ss) run idle = absurd run
  lines_idle old (a ∷ list) [] run idle = absurd run
  lines_idle old (a ∷ list) (s ∷ ss) run idle =
      quiet_then g old.archive.disk s.archive.disk (last_stage s ss).archive.disk (line_idle old.archive s.archive (what_of a) a.item.raw a.reply idle.0 run.0) (lines_idle s list ss run.2 idle.1)

  module _ (old new : Parts D) (reply : List ℕ) where
    last_idle : (what : Said) (n : ℕ) → is_idle what ≡ true → LastReplies g naming n old what reply new → OnlyReads g old.disk new.disk
    last_idle what zero idle r = line_idle old new what [] reply idle r
    last_idle what (suc n) idle cut = cut_idle old new what [] reply idle cut

    pub end_idle : (e : Ending) → is_idle (said_last e) ≡ true → EndReplies g naming old e reply new → OnlyReads g old.disk new.disk
    end_idle complete idle r = quiet_as g only old new r.1
    end_idle (last_line line) idle r = last_idle (said line) (raw_length (said line)) idle r
    end_idle (cut_part line raw) idle cut = cut_idle old new (said line) raw reply idle cut

-- an opening writes no byte
pub opening_idle : {D : Type 0} (g : disk.Ghosts D) (counts : (d : D) (t : ℕ) (c : List ℕ) → t ≤ g.clock d → g.may_leave d c → g.left_since d t c) (limit : ℕ) (before : D) (a : Parts D) → OpenCall g limit before (Ok a) → OnlyReads g before a.disk
opening_idle g counts limit before a call = record {
  seen = call.seen;
  crash = λ honest c may. (let leaves = call.any_moment honest in leaves.each c (counts a.disk (g.clock before) c leaves.later may));
  moments = call.any_moment;
  honesty = call.honesty;
  size = call.size;
}
