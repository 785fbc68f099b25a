use Rattle.std.proofs.Common.{inl, inr, ⊎_elim}
use Rattle.archive_files.proofs.salvaging.salvage.Goals as goal

pub returns-in-Ok : goal.returns-in-Ok
returns-in-Ok g c = record {
  told = ⊎_elim (λ refused. inl refused) (λ found. inr (found.0, found.2)) c.salvage_source.ensures.salvages;
}
