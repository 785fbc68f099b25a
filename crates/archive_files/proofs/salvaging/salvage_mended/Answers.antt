use Rattle.std.proofs.Common.{◌≡◌, ◌∙◌, inl, inr, length, refl, subst, sym, true, ⊎_elim, ℕ, List}
use Rattle.journal_layout.specs.declared.faults.OpenFault.{OpenFault}
use Rattle.salvage.specs.Mending.{IsMend, MendsArchive, is_of_headers}
use Rattle.salvage.specs.declared.mending.Mend.{Mend}
use Rattle.archive_files.proofs.salvaging.salvage_mended.Goals as goal

-- of a source that is as long as its bytes
mend_of : (size : ℕ) (b : List ℕ) (fault : OpenFault) (m : Mend) → length b ≡ size → IsMend size fault m → IsMend (length b) m.fault m
mend_of size b fault m long is = record { fault = refl; held = is.held ∙ sym long; headers = subst (λ f. is_of_headers f ≡ true) (sym is.fault) is.headers }

pub returns-in-Ok : goal.returns-in-Ok
returns-in-Ok g c = record {
  salvages =
      ⊎_elim (λ refused. inl refused)
      (λ told.
      inr (
        c.in-Ok.found,
        (λ honest. inr (
          c.in-Ok-Some.mended,
          subst (MendsArchive (g.S.Source.seen c.args.source.now)) c.in-Ok-Some.field-0-is (c.in-Ok-Some.ensures.mends honest),
          mend_of (g.S.Source.size c.args.source.now) (g.S.Source.seen c.args.source.now) c.args.fault c.in-Ok-Some.mended.mend (g.met.S.Source.whole c.args.source.now honest)
              (c.in-Ok-Some.ensures.mend c.in-Ok-Some.mended c.in-Ok-Some.field-0-is),
          c.in-Ok-Some.ensures.sure honest c.in-Ok-Some.mended c.in-Ok-Some.field-0-is,
          rw (sym (c.new-view.ensures.front ∙ c.deref.ensures.value), sym c.new-view.ensures.count, sym c.new-view.ensures.source) (c.in-Ok.ensures.finds (rw c.new-view.ensures.source honest)),
          c.in-Ok.ensures.mend,
        )),
        told,
      ))
      c.salvage_found.ensures.told;
}
