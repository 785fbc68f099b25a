-- What is read for a line, where the debug files are known or there are none.
use Rattle.std.proofs.Common.{◌≡◌, inr, ℕ, List, [], Ok, Err, refl, sym, subst}
use Rattle.address_space.specs.Source.{ExecutableView}
use Rattle.disk_model.specs.declared.disk.Disk as disk
use Rattle.intake.specs.Parts.{Parts, state_of}
use Rattle.intake.specs.declared.faults.ArchiveFault.{ArchiveFault}
use Rattle.journal_layout.specs.declared.entry.Kind.{Kind}
use Rattle.script_lines.specs.Queries.{QuerySaid}
use Rattle.case_queries.specs.Collecting.{Collects, CollectsAll, GathersFor, Wanted, debugs_for, gathered_with, wanted_for}
use Rattle.case_queries.specs.Steps.{ShowsCore, ShowsGathered, ToldWithExecutables}

module _ {D : Type 0} (g : disk.Ghosts D) (q : QuerySaid) (b : List ℕ) where
  -- no debug file is wanted
  pub alone : (old new : Parts D) (xs : List ExecutableView) → debugs_for q b (state_of old).cases xs ≡ [] → CollectsAll g old (wanted_for q b (state_of old).cases) (Ok xs) new
      → GathersFor g old q b (gathered_with (wanted_for q b (state_of old).cases) xs (debugs_for q b (state_of old).cases xs) (Ok [])) new
  alone old new xs none all = (Ok xs, new, all, (Ok [], inr (subst (λ (ds : List Wanted). Collects g new ds (Ok []) new) (sym none) (refl, refl)), refl))

  -- an executable can't be read
  pub unread : (old new : Parts D) (f : ArchiveFault) → CollectsAll g old (wanted_for q b (state_of old).cases) (Err f) new → GathersFor g old q b (Err f) new
  unread old new f all = (Err f, new, all, (refl, refl))

  -- what is shown with these executables is shown of the core
  pub core_gathered : (old mid new : Parts D) (kind : Kind) (front : List ℕ) (ws : List Wanted) (xs : List ExecutableView) (text : List ℕ) → CollectsAll g old (wanted_for q b (state_of old).cases) (Ok xs) mid
      → ws ≡ wanted_for q b (state_of old).cases → debugs_for q front (state_of mid).cases xs ≡ debugs_for q b (state_of old).cases xs → ShowsGathered g mid kind q b front ws xs text new → ShowsCore g old kind q b text new
  core_gathered old mid new kind front ws xs text collects are debugs (more, rest, told) =
      let ds = debugs_for q b (state_of old).cases xs in (
        gathered_with (wanted_for q b (state_of old).cases) xs ds more,
        (Ok xs, mid, collects, (more, subst (λ (es : List Wanted). CollectsAll g mid es more new) debugs rest, refl)),
        subst (λ (es : List Wanted). ToldWithExecutables kind q b (gathered_with (wanted_for q b (state_of old).cases) xs es more) text) debugs
            (subst (λ (vs : List Wanted). ToldWithExecutables kind q b (gathered_with vs xs (debugs_for q front (state_of mid).cases xs) more) text) are told),
      )
