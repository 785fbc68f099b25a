use Rattle.build_replies.proofs.PlaceLemmas.{none_named}
use Rattle.build_replies.proofs.places.FrontPlaces.front.Goals as goal

pub returns-in-None-clause-id : goal.returns-in-None-clause-id
returns-in-None-clause-id c image = none_named _ c.args.name.now _ (c.no_front.ensures.none image) (c.in-None.ensures.first image)

pub returns-in-None-clause-within : goal.returns-in-None-clause-within
returns-in-None-clause-within c = c.no_front.ensures.within c.args.self.now.size
