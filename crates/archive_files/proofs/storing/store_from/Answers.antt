use Rattle.std.proofs.Common.{inr, refl, rules}
use Rattle.archive_files.proofs.storing.store_from.Goals as goal

pub returns : goal.returns
returns g c = inr (
  c.fitted-request.result,
  c.fitted-request.ensures.fitted,
  (
    _,
    record {
      input = search (c.fitted-request.ensures.same, c.in-Ok.ensures.inner, c.in-Ok.ensures.empty, c.in-Ok.ensures.unfilled, c.in-Ok.ensures.capacity, c.new-file.ensures.remaining, rules);
      fails = c.new-file.ensures.failures;
      taken = refl;
      taken' = refl;
      lost = refl;
      lost' = refl;
    },
    c.store_retiring_first.ensures,
  ),
)
