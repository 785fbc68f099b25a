-- What was told of an image, and that it is still that of its case.
use Rattle.std.proofs.Common.{◌≡◌, ℕ, List, Option, None, Some, Result, Ok, Err, refl, sym, subst}
use Rattle.std.specs.Prelude.{IfSome}
use Rattle.disk_model.specs.declared.disk.Disk as disk
use Rattle.intake.specs.Parts.{Parts}
use Rattle.intake.specs.declared.faults.ArchiveFault.{ArchiveFault}
use Rattle.journal_layout.specs.declared.entry.Kind.{Kind}
use Rattle.script_lines.specs.Queries.{QuerySaid}
use Rattle.script_streams.specs.Replies.{no_reply}
use Rattle.case_queries.specs.Inspecting.{reads_executables}
use Rattle.case_queries.specs.Steps.{Asks, Shows, ShowsSeen}
use Rattle.case_queries.specs.Keeping.{AreKept}
use Rattle.case_queries.specs.LeaveLaws.{own_still, shows_leaves}
use Rattle.case_queries.specs.Seeing.{LooksAt, IsKept}
use Rattle.case_queries.specs.declared.kept_image.KeptImage.{KeptImage}

module _ {D : Type 0} (g : disk.Ghosts D) where
  pub kept_still : (old new : Parts D) (kind : Kind) (q : QuerySaid) (image : List ℕ) (reply : List ℕ) (kept : KeptImage) → Shows g old kind q image reply new → IsKept g old (Some kept) → IsKept g new (Some kept)
  kept_still old new kind q image reply kept shows held =
      (held.0, own_still g old new kept.seq held.0 (shows_leaves g old new kind q image (reads_executables q) reply shows) held.1, held.2, held.3)

  -- an image that is kept, if it is
  pub held_if : (a : Parts D) (o : Option KeptImage) (k : KeptImage) → IfSome o (λ (x : KeptImage). x ≡ k) → IsKept g a (Some k) → IsKept g a o
  held_if a None k is held = tt
  held_if a (Some x) k is held = subst (λ (y : KeptImage). IsKept g a (Some y)) (sym is) held

  pub collected_if : (a : Parts D) (o : Option KeptImage) (k : KeptImage) → IfSome o (λ (x : KeptImage). x ≡ k) → AreKept g a (Some k) → AreKept g a o
  collected_if a None k is held = tt
  collected_if a (Some x) k is held = subst (λ (y : KeptImage). AreKept g a (Some y)) (sym is) held

  -- a reason, and an answer, as they were told
  pub reason_told : (a : Parts D) (seq : ℕ) (q : QuerySaid) (reason : List ℕ) (k : Result Kind (List ℕ)) → Err reason ≡ k → Asks g a seq q k (no_reply reason) a
  reason_told a seq q reason k is = subst (λ (x : Result Kind (List ℕ)). Asks g a seq q x (no_reply reason) a) is (refl, refl)

  pub answer_told : (old mid new : Parts D) (seq : ℕ) (q : QuerySaid) (kind : Kind) (k : Result Kind (List ℕ)) (r : Result (List ℕ) ArchiveFault) (reply : List ℕ) → Ok kind ≡ k → LooksAt g old seq r mid
      → ShowsSeen g mid kind q r reply new → Asks g old seq q k reply new
  answer_told old mid new seq q kind k r reply is looks shows = subst (λ (x : Result Kind (List ℕ)). Asks g old seq q x reply new) is (r, mid, looks, shows)

  -- what is asked of a case of a kind that may be asked
  pub kind_told : (old new : Parts D) (seq : ℕ) (q : QuerySaid) (kind : Kind) (k : Result Kind (List ℕ)) (reply : List ℕ) → Ok kind ≡ k → Asks g old seq q (Ok kind) reply new → Asks g old seq q k reply new
  kind_told old new seq q kind k reply is asks = subst (λ (x : Result Kind (List ℕ)). Asks g old seq q x reply new) is asks
