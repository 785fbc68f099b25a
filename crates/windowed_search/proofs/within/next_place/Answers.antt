use Rattle.std.proofs.Common.{◌≡◌, ◌-◌, length, drop, take, Some, None, subst, arith}
use Rattle.std.proofs.lemmas.List.{take_all, length-drop}
use Rattle.memchr.specs.Find.{FindsNeedle}
use Rattle.windowed_search.proofs.Windowing.{next_found, none_found}
use Rattle.windowed_search.proofs.within.next_place.Goals as goal

pub returns-in-Some-clause-places : goal.returns-in-Some-clause-places
returns-in-Some-clause-places c a =
    let bytes = c.args.bytes.now in
    let at = c.args.at in
    let long = length-drop at bytes in
    let all : take (length bytes - at) (drop at bytes) ≡ drop at bytes = take_all (length bytes - at) (drop at bytes) (omega (arith, long)) in
    let found : FindsNeedle (drop at bytes) c.args.needle.now 0 (Some c.in-Some.place) =
    subst (λ n. FindsNeedle (drop at bytes) n 0 (Some c.in-Some.place)) c.requires.finds (subst (λ h. FindsNeedle h c.args.finder.now 0 (Some c.in-Some.place)) all c.in-Some.ensures) in
    next_found bytes c.args.needle.now at c.requires.within c.requires.some c.in-Some.place a found

pub returns-in-None-clause-places : goal.returns-in-None-clause-places
returns-in-None-clause-places c a =
    let bytes = c.args.bytes.now in
    let at = c.args.at in
    let long = length-drop at bytes in
    let all : take (length bytes - at) (drop at bytes) ≡ drop at bytes = take_all (length bytes - at) (drop at bytes) (omega (arith, long)) in
    let found : FindsNeedle (drop at bytes) c.args.needle.now 0 None =
    subst (λ n. FindsNeedle (drop at bytes) n 0 None) c.requires.finds (subst (λ h. FindsNeedle h c.args.finder.now 0 None) all c.in-None.ensures) in
    none_found bytes c.args.needle.now at c.requires.within c.requires.some a found
