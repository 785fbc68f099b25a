use Rattle.std.proofs.Common.{inl, inr, ⊎_elim}
use Rattle.archive_files.proofs.salvaging.salvage_source.Goals as goal

pub returns-in-Ok : goal.returns-in-Ok
returns-in-Ok g c = record {
  salvages = ⊎_elim (λ refused. inl refused) (λ told. inr (c.in-Ok.found, (λ honest. inl (c.in-Ok.ensures.finds honest)), told)) c.salvage_found.ensures.told;
}
