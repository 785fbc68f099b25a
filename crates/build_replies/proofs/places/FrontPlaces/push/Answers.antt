use Rattle.std.proofs.Common.{rules, ◌≡◌, [], ◌∷◌, ◌++◌, length, map, refl, sym, ap, subst, ◌∙◌, arith}
use Rattle.std.proofs.lemmas.List.{length-map, map-append}
use Rattle.address_space.specs.PathWords.{AreNumbered}
use Rattle.build_replies.specs.PlaceWords.{EndsWithin, front_in}
use Rattle.build_replies.proofs.PlaceLemmas.{each_more}
use Rattle.build_replies.proofs.places.FrontPlaces.push.Goals as goal

pub invariant_of-self-2 : goal.invariant_of-self-2
invariant_of-self-2 c =
    let old = c.args.self.now.list.items in
    let items : c.push.new.self.items ≡ old ++ c.args.place ∷ [] = search rules in
    let count : c.len.result ≡ length old = search rules in record {
      numbered = λ image.
          let many = length-map old (front_in image) in
          subst (AreNumbered c.add.new.self) (sym (ap (map (front_in image)) items ∙ map-append (front_in image) old (c.args.place ∷ [])))
          (c.in_ok-add.ensures.ok (map (front_in image) old) (front_in image c.args.place) refl (omega (arith, count, many)) (c.args.self.now.numbered image));
      within = each_more (EndsWithin c.args.self.now.size) old c.push.new.self.items c.args.place items c.args.self.now.within c.requires;
    }
