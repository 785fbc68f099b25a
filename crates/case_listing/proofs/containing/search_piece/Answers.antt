use Rattle.std.proofs.Common.{◌≡◌, ◌++◌, [], subst}
use Rattle.windowed_search.specs.Places.{places}
use Rattle.windowed_search.specs.SearchWords.{WasFed}
use Rattle.case_listing.proofs.containing.search_piece.Goals as goal

pub returns-in-Ok-clause-found : goal.returns-in-Ok-clause-found
returns-in-Ok-clause-found g c = λ fed was found.
    let call = c.in_ok-piece.ensures in
    let same = c.deref.ensures.value in (
      c.in_ok-piece.piece.items,
      call.count,
      call,
      subst (λ b. WasFed c.feed.new.self 0 (fed ++ b)) same (c.in-Ok.ensures.fed 0 fed was),
      subst (λ b. c.feed.new.found.items ≡ places c.args.search.now.needle.now 0 (fed ++ b)) same (c.in-Ok.ensures.found 0 fed [] was found),
    )
