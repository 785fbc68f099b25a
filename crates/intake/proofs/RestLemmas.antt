-- Disk calls that change none of an archive's cases.
use Rattle.std.proofs.Common.{◌≡◌, ℕ, false, List, refl, sym, ap, ◌∙◌, subst, arith}
use Rattle.std.specs.Prelude.{IsTrue}
use Rattle.disk_model.specs.Disk.{Elapses, Follows}
use Rattle.disk_model.specs.MomentLaws.{started, stays, then_again, weakened}
use Rattle.disk_model.specs.Places.{SameOutside}
use Rattle.disk_model.specs.declared.disk.Disk as disk
use Rattle.case_journal.specs.Journaled.{Journaled}
use Rattle.case_journal.specs.Keeping.{DataIsApart}
use Rattle.journal_snapshot.specs.Holding.{SameFront}
use Rattle.intake.specs.Blocks.{block_start}
use Rattle.intake.specs.Durable.{StandsFor, durable_in}
use Rattle.intake.specs.Guarding.{Guards, LeavesCases}
use Rattle.intake.specs.Live.{case_uses}
use Rattle.intake.proofs.DurableLemmas.{durable_spared}
use Rattle.intake.proofs.KeepLemmas.{keeps_apart}
use Rattle.case_journal.specs.DoubtLaws.{quiet_doubts}

module _ {D : Type 0} (g : disk.Ghosts D) where
  -- what a crash now leaves stands for the cases
  pub stands_now : (d : D) (j : Journaled) → Guards g d j → j.stopped ≡ false → IsTrue (g.is_honest d) → (c : List ℕ) → g.may_leave d c → StandsFor c (durable_in (g.seen d) j.standing)
  stands_now d j guards runs honest c may = record { standing = j.standing; stands = (guards.keeps.holds runs honest).stands c may; is = guards.whole runs honest c may }

  -- nothing is done
  pub rests_still : (d : D) (j : Journaled) → ((c : List ℕ) → g.left_since d (g.clock d) c → g.may_leave d c) → Guards g d j → LeavesCases g d d j
  rests_still d j only guards = record {
    guards = guards;
    same = λ runs honest. refl;
    moments = λ runs honest. started g d (λ c. StandsFor c (durable_in (g.seen d) j.standing)) (λ c was. stands_now d j guards runs honest c (only c was));
  }

  -- one disk call
  pub rests_call : (old new : D) (j : Journaled) → ((c : List ℕ) → g.left_since old (g.clock old) c → g.may_leave old c) → Guards g old j → Guards g new j → g.is_honest new ≡ g.is_honest old
      → Elapses g.clock g.may_leave g.left_since old new → (j.stopped ≡ false → IsTrue (g.is_honest old) → durable_in (g.seen new) j.standing ≡ durable_in (g.seen old) j.standing) → LeavesCases g old new j
  rests_call old new j only before after honesty time same = record {
    guards = after;
    same = same;
    moments = λ runs honest. stays g old new (λ c. StandsFor c (durable_in (g.seen old) j.standing))
        (λ c was. stands_now old j before runs honest c (only c was)) time
        (λ c may. subst (StandsFor c) (same runs honest) (stands_now new j after runs (honesty ∙ honest) c may));
  }

  -- one after the other
  pub rests_then : (old mid new : D) (j : Journaled) → g.is_honest mid ≡ g.is_honest old → LeavesCases g old mid j → LeavesCases g mid new j → LeavesCases g old new j
  rests_then old mid new j honesty first second = record {
    guards = second.guards;
    same = λ runs honest. second.same runs (honesty ∙ honest) ∙ first.same runs honest;
    moments = λ runs honest. then_again g old mid new (λ c. StandsFor c (durable_in (g.seen old) j.standing)) (first.moments runs honest)
        (weakened g mid new (λ c. StandsFor c (durable_in (g.seen mid) j.standing)) (λ c. StandsFor c (durable_in (g.seen old) j.standing))
        (λ c stands. subst (StandsFor c) (first.same runs honest) stands) (second.moments runs (honesty ∙ honest)));
  }

  -- a call that changes no byte, and after which a crash leaves nothing new
  pub rests_quiet : (old new : D) (j : Journaled) → ((c : List ℕ) → g.left_since old (g.clock old) c → g.may_leave old c) → g.size new ≡ g.size old → g.is_honest new ≡ g.is_honest old
      → (IsTrue (g.is_honest old) → g.seen new ≡ g.seen old) → (IsTrue (g.is_honest old) → (c : List ℕ) → g.may_leave new c → g.may_leave old c) → Elapses g.clock g.may_leave g.left_since old new
      → Guards g old j → LeavesCases g old new j
  rests_quiet old new j only size honesty seen crash time guards =
      rests_call old new j only guards (record {
        keeps = record {
          size = size ∙ guards.keeps.size;
          doubts = λ real. (
              let honest : IsTrue (g.is_honest old) = sym honesty ∙ real in
              quiet_doubts g old new j.standing.shape (seen honest) (crash honest) (guards.keeps.doubts honest));
          holds = λ runs real. (
              let honest : IsTrue (g.is_honest old) = sym honesty ∙ real in
              let holds = guards.keeps.holds runs honest in
              record {
                stands = λ c may. holds.stands c (crash honest c may);
                front = λ c may. subst (λ (b : List ℕ). SameFront j.standing.shape b c) (sym (seen honest)) (holds.front c (crash honest c may));
              });
        };
        whole = λ runs real c may. (
            let honest : IsTrue (g.is_honest old) = sym honesty ∙ real in
            guards.whole runs honest c (crash honest c may) ∙ ap (λ (b : List ℕ). durable_in b j.standing) (sym (seen honest)));
      }) honesty time (λ runs honest. ap (λ (b : List ℕ). durable_in b j.standing) (seen honest))

  -- a write of a data block that no case has
  pub rests_write : (old new : D) (j : Journaled) (at n k : ℕ) → DataIsApart → ((c : List ℕ) → g.left_since old (g.clock old) c → g.may_leave old c) → (IsTrue (g.is_honest old) → g.may_leave old (g.seen old))
      → g.size new ≡ g.size old → g.is_honest new ≡ g.is_honest old → (IsTrue (g.is_honest old) → Follows (SameOutside at n) (g.may_leave old) (g.may_leave new))
      → (IsTrue (g.is_honest old) → SameOutside at n (g.seen old) (g.seen new)) → Elapses g.clock g.may_leave g.left_since old new
      → at ≡ block_start j.standing.shape k → n ≡ 4096 → case_uses j.standing.cases k ≡ 0 → Guards g old j → LeavesCases g old new j
  rests_write old new j at n k apart only stays size honesty crash others time place long none guards =
      rests_call old new j only guards (record {
        keeps = keeps_apart g old new j at n apart guards.keeps stays size honesty crash others (omega (arith, place));
        whole = λ runs real c may. (
            let honest : IsTrue (g.is_honest old) = sym honesty ∙ real in
            let was = crash honest c may in
            spared was.0 c was.2 ∙ guards.whole runs honest was.0 was.1 ∙ sym (spared (g.seen old) (g.seen new) (others honest)));
      }) honesty time (λ runs honest. spared (g.seen old) (g.seen new) (others honest))
    where
      spared : (a b : List ℕ) → SameOutside at n a b → durable_in b j.standing ≡ durable_in a j.standing
      spared a b same = durable_spared j.standing k a b (subst (λ (m : ℕ). SameOutside (block_start j.standing.shape k) m a b) long (subst (λ (p : ℕ). SameOutside p n a b) place same)) none
