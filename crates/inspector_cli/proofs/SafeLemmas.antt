-- Each stop of the machine leaves what stood behind a stage, or a later one.
use Rattle.std.proofs.Common.{◌≡◌, ◌⊎◌, ◌≤◌, inl, inr, ⊎_elim, ℕ, List, [], ◌∷◌, ◌++◌, map, Option, arith, refl, sym, subst, ◌∙◌}
use Rattle.std.specs.Prelude.{codes, IsTrue}
use Rattle.std.specs.List.{AllByRecursion}
use Rattle.disk_model.specs.Moments.{LeavesOnly}
use Rattle.disk_model.specs.declared.disk.Disk as disk
use Rattle.intake.specs.Calls.{ChangesNoCase}
use Rattle.intake.specs.Durable.{Durable, durable_of}
use Rattle.intake.specs.Marks.{Mark, NothingElseIsLeft, IsRunOfMarks, IsMarkSettled, IsFoundFrom, IsFoundSince, FindsMark, FindsOne, mark_of, last_of}
use Rattle.intake.specs.Parts.{Parts}
use Rattle.intake.specs.State.{StreamFacts}
use Rattle.script_lines.specs.Said.{Said}
use Rattle.script_streams.specs.Replies.{no_reply}
use Rattle.inspector_cli.specs.Stages.{Stage, Moves, MayLeave, mark_at, marks_of}
use Rattle.inspector_cli.specs.Told.{Answer}
use Rattle.inspector_cli.specs.Headline.{Leads, WouldLeave, Moment, LeadsOn, FindsMoment, FindsSince, AreSafe}

-- how things stand at a stage
abbrev pub moment : {D : Type 0} → disk.Ghosts D → Stage D → Moment D
moment g s = record { disk = s.archive.disk; holds = durable_of g.seen s.archive; in_doubt = s.in_doubt }

module _ {D : Type 0} (g : disk.Ghosts D) (begins : Said → Option StreamFacts) (earlier : List Answer) (old new : Stage D) (what : Said) (reply : List ℕ) where
  all_would : ((x : Durable) → reply ≡ no_reply (codes "Disk") → MayLeave g old.archive what x → WouldLeave begins earlier what (durable_of g.seen old.archive) x)
      → (xs : List Durable) → reply ≡ no_reply (codes "Disk") → AllByRecursion (MayLeave g old.archive what) xs → AllByRecursion (WouldLeave begins earlier what (durable_of g.seen old.archive)) xs
  all_would would [] told all = tt
  all_would would (x ∷ xs) told all = (would x told all.0, all_would would xs told all.1)

  -- a line leads from moment to moment
  pub leads_on : Leads begins earlier what reply (durable_of g.seen old.archive) (durable_of g.seen new.archive)
      → ((x : Durable) → reply ≡ no_reply (codes "Disk") → MayLeave g old.archive what x → WouldLeave begins earlier what (durable_of g.seen old.archive) x) → Moves g old what reply new → LeadsOn begins earlier (moment g old) what reply (moment g new)
  leads_on leads would moves = record {
    leads = leads;
    doubts = moves.doubts;
    in_doubt = moves.in_doubt;
    doubted = ⊎_elim (λ none. inl none) (λ may. inr (may.0, all_would would moves.doubts may.0 may.1)) moves.doubted;
  }

-- from a stage on, to the close of the archive
module _ {D : Type 0} (g : disk.Ghosts D) (stays : (d : D) → IsTrue (g.is_honest d) → g.may_leave d (g.seen d)) (end : Stage D) (closed : Parts D) (honest_end : IsTrue (g.is_honest end.archive.disk)) (closes : ChangesNoCase g end.archive closed) where
  -- how things stand at a stage
  abbrev pub moment_at : Stage D → Moment D
  moment_at s = record { disk = s.archive.disk; holds = durable_of g.seen s.archive; in_doubt = s.in_doubt }

  abbrev closing : Mark D
  closing = mark_of g.seen closed end.in_doubt

  closing_found : (c : List ℕ) → FindsMark c closing → FindsMoment c (moment_at end)
  closing_found c found = subst (λ (x : Durable). FindsMoment {D = D} c (record { disk = end.archive.disk; holds = x; in_doubt = end.in_doubt })) (closes.durable honest_end) found

  pub found_since : (m : Stage D) (xs : List (Stage D)) (c : List ℕ) → FindsOne c (mark_at g.seen m) (marks_of g.seen xs end closed) → FindsSince c (moment_at m) (map moment_at xs ++ moment_at end ∷ [])
  found_since m [] c found = ⊎_elim (λ here. inl here) (λ there. inr (⊎_elim (λ at_end. at_end) (λ after. closing_found c after) there)) found
  found_since m (x ∷ xs) c found = ⊎_elim (λ here. inl here) (λ there. inr (found_since x xs c there)) found

  pub last_mark : (m : Mark D) (xs : List (Stage D)) → last_of m (marks_of g.seen xs end closed) ≡ closing
  last_mark m [] = refl
  last_mark m (x ∷ xs) = last_mark (mark_at g.seen x) xs

  from_mark : (m : Stage D) (xs : List (Stage D)) → IsFoundFrom g (mark_at g.seen m) (marks_of g.seen xs end closed)
      → (left : List ℕ) → g.left_since closed.disk (g.clock m.archive.disk) left → FindsSince left (moment_at m) (map moment_at xs ++ moment_at end ∷ [])
  from_mark m xs found left was =
      found_since m xs left (found left (subst (λ (k : Mark D). g.left_since k.disk (g.clock m.archive.disk) left) (sym (last_mark (mark_at g.seen m) xs)) was))

  from_end : IsFoundFrom g (mark_at g.seen end) (closing ∷ []) → (left : List ℕ) → g.left_since closed.disk (g.clock end.archive.disk) left → FindsSince left (moment_at end) []
  from_end found left was = ⊎_elim (λ here. here) (λ after. closing_found left after) (found left was)

  pub are_safe : (m : Stage D) (xs : List (Stage D)) → IsTrue (g.is_honest m.archive.disk) → IsMarkSettled g (mark_at g.seen m) → IsRunOfMarks g (mark_at g.seen m) (marks_of g.seen xs end closed)
      → IsFoundSince g (mark_at g.seen m) (marks_of g.seen xs end closed) → AreSafe g closed.disk (moment_at m) (map moment_at xs ++ moment_at end ∷ [])
  are_safe m [] honest settled run found = (
    record { reads = settled (g.seen m.archive.disk) (stays m.archive.disk honest); stops = from_mark m [] found.0 },
    record { reads = run.0.settled honest settled (g.seen end.archive.disk) (stays end.archive.disk (run.0.honesty ∙ honest)); stops = from_end found.1.0 },
  )
  are_safe m (x ∷ xs) honest settled run found = (
    record { reads = settled (g.seen m.archive.disk) (stays m.archive.disk honest); stops = from_mark m (x ∷ xs) found.0 },
    are_safe x xs (run.0.honesty ∙ honest) (run.0.settled honest settled) run.1 found.1,
  )

  -- a crash since the opening began
  pub since_opening : NothingElseIsLeft g → (old : Stage D) (ss : List (Stage D)) → IsTrue (g.is_honest old.archive.disk) → IsRunOfMarks g (mark_at g.seen old) (marks_of g.seen ss end closed) → (before : D) → LeavesOnly g before old.archive.disk (g.may_leave before)
      → (left : List ℕ) → g.left_since closed.disk (g.clock before) left → g.may_leave before left ⊎ FindsSince left (moment_at old) (map moment_at ss ++ moment_at end ∷ [])
  since_opening law old ss honest run before leaves left was =
      ⊎_elim (λ earlier. inl (leaves.each left earlier))
      (λ found. inr (found_since old ss left found))
      (law (mark_at g.seen old) (marks_of g.seen ss end closed) (g.clock before) left honest run leaves.later
      (subst (λ (k : Mark D). g.left_since k.disk (g.clock before) left) (sym (last_mark (mark_at g.seen old) ss)) was))

  -- a crash since a moment before the opening
  pub since_before : NothingElseIsLeft g → (old : Stage D) (ss : List (Stage D)) → IsTrue (g.is_honest old.archive.disk) → IsRunOfMarks g (mark_at g.seen old) (marks_of g.seen ss end closed) → (before : D) → LeavesOnly g before old.archive.disk (g.may_leave before)
      → (time : ℕ) (left : List ℕ) → time ≤ g.clock before → g.left_since closed.disk time left → g.left_since before time left ⊎ (g.may_leave before left ⊎ FindsSince left (moment_at old) (map moment_at ss ++ moment_at end ∷ []))
  since_before law old ss honest run before leaves time left early was =
      ⊎_elim (λ until. ⊎_elim inl (λ may. inr (inl may)) (leaves.before time left early until))
      (λ found. inr (inr (found_since old ss left found)))
      (law (mark_at g.seen old) (marks_of g.seen ss end closed) time left honest run (let later = leaves.later in omega arith)
      (subst (λ (k : Mark D). g.left_since k.disk time left) (sym (last_mark (mark_at g.seen old) ss)) was))
