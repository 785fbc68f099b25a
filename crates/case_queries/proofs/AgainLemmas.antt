-- Executables that were gathered are gathered again with no byte read.
use Rattle.std.proofs.Common.{◌≡◌, inr, ⊎_elim, ℕ, Bool, true, false, List, [], ◌∷◌, Result, Ok, Err, Vec, Global, Option, None, Some, IfOk, map, refl, sym, ap, subst}
use Rattle.std.proofs.lemmas.Bool.{false≢true}
use Rattle.address_space.specs.Source.{ExecutableView}
use Rattle.case_journal.specs.Viewing.{OnlyReads}
use Rattle.disk_model.specs.MomentLaws.{started}
use Rattle.disk_model.specs.declared.disk.Disk as disk
use Rattle.intake.specs.Parts.{Parts}
use Rattle.intake.specs.StayLaws.{stays_none}
use Rattle.intake.specs.declared.faults.ArchiveFault.{ArchiveFault}
use Rattle.case_queries.specs.Collecting.{Collects, CollectsAll, Wanted, with_executable}
use Rattle.case_queries.specs.CollectingWords.{collected_view, executable_view, read_as}
use Rattle.case_queries.specs.Keeping.{StayCollected}
use Rattle.case_queries.specs.Seeing.{AreOfCase, SeesImage}
use Rattle.case_queries.specs.declared.collect_executables.StoredExecutable.{StoredExecutable}
use Rattle.case_queries.specs.LeaveLaws.{Leaves, leaves_as, leaves_then, looks_leaves, collects_leaves, own_still}

abbrev is_given : {A B : Type 0} → Result A B → Bool
is_given (Ok x) = true
is_given (Err f) = false

pub given_not : {A B : Type 0} (x : A) (f : B) → Ok x ≡ Err f → ⊥
given_not x f is = false≢true (sym (ap is_given is))

module _ {D : Type 0} (g : disk.Ghosts D) (now : Parts D) (only : (c : List ℕ) → g.left_since now.disk (g.clock now.disk) c → g.may_leave now.disk c) where
  quiet_still : OnlyReads g now.disk now.disk
  quiet_still = record {
    seen = λ honest. refl;
    crash = λ honest c may. may;
    moments = λ honest. started g now.disk (g.may_leave now.disk) only;
    honesty = refl;
    size = refl;
  }

  pub seen_again : (seq : ℕ) (image : List ℕ) → AreOfCase g now seq image → SeesImage g now seq image now
  seen_again seq image own = record { own = own; state = refl; contents = λ honest. refl; quiet = quiet_still; stays = stays_none g now }

  -- one more before those that are gathered again
  one_again : (old mid new : Parts D) (x : Wanted) (xs : List Wanted) (image : List ℕ) (views : List ExecutableView) (others : Result (List ExecutableView) ArchiveFault)
      → ((list : List ExecutableView) → Collects g mid xs (Ok list) new → Collects g now xs (Ok list) now)
      → SeesImage g old x.0 image mid → Leaves g new now → Collects g mid xs others new → Ok views ≡ with_executable x.1 image others → Collects g now (x ∷ xs) (Ok views) now
  one_again old mid new x xs image views (Ok list) more looks leaves collects is =
      let behind = leaves_then g mid new now (collects_leaves g mid new xs (Ok list) collects) leaves in
      let all = leaves_then g old mid now (looks_leaves g old mid x.0 (Ok image) looks) behind in
      (Ok image, now, seen_again x.0 image (own_still g old now x.0 image all looks.own), inr (Ok list, more list collects, is))
  one_again old mid new x xs image views (Err f) more looks leaves collects is = absurd (given_not views f is)

  pub again : (old new : Parts D) (xs : List Wanted) (views : List ExecutableView) → Leaves g new now → Collects g old xs (Ok views) new → Collects g now xs (Ok views) now
  again old new [] views leaves collects = (collects.0, refl)
  again old new (x ∷ xs) views leaves (Ok image, mid, looks, more) =
      ⊎_elim
      (λ short. absurd (given_not views _ short.0))
      (λ rest. one_again old mid new x xs image views rest.0 (λ list. again mid new xs list leaves) looks leaves rest.1 rest.2)
      more
  again old new (x ∷ xs) views leaves (Err f, mid, looks, more) = absurd (given_not views f more.0)

  -- what was gathered just now may be kept
  pub stay_collected : (old : Parts D) (ws : List Wanted) (v : Vec StoredExecutable Global) → map read_as v.items ≡ ws → Collects g old ws (Ok (map executable_view v.items)) now → StayCollected g now (Some v)
  stay_collected old ws v are collects =
      again old now (map read_as v.items) (map executable_view v.items) (leaves_as g now now refl)
      (subst (λ (xs : List Wanted). Collects g old xs (Ok (map executable_view v.items)) now) (sym are) collects)

  -- and what was gathered before may still be kept
  pub stay_after : (old : Parts D) (kept : Option (Vec StoredExecutable Global)) → Leaves g old now → StayCollected g old kept → StayCollected g now kept
  stay_after old None leaves stay = tt
  stay_after old (Some v) leaves stay = again old old (map read_as v.items) (map executable_view v.items) leaves stay

  pub stay_if : (old : Parts D) (ws : List Wanted) (r : Result (Vec StoredExecutable Global) ArchiveFault) → IfOk r (λ v. map read_as v.items ≡ ws) → Collects g old ws (collected_view r) now → IfOk r (λ v. StayCollected g now (Some v))
  stay_if old ws (Ok v) are collects = stay_collected old ws v are collects
  stay_if old ws (Err f) are collects = tt

  -- those that were gathered, without an end of memory, are gathered again
  pub debugs_again : (old last : Parts D) (ws : List Wanted) (views : List ExecutableView) → Leaves g last now → CollectsAll g old ws (Ok views) last → Collects g now ws (Ok views) now
  debugs_again old last ws views leaves all = ⊎_elim (λ short. absurd (given_not views _ short.0)) (λ collects. again old last ws views leaves collects) all
