use Rattle.std.proofs.Common.{◌≡◌, ap, sym, subst, ◌∙◌, ◌<◌, ◌^◌, ◌+◌, ◌*◌, ℕ, List, length, arith}
use Rattle.std.proofs.lemmas.List.{get_or_read}
use Rattle.std.specs.Int.{trailing_zeros, w64}
use Rattle.extents.specs.FreeSet.{is_free}
use Rattle.extents.specs.FreeWords.{IsFirstNotZero}
use Rattle.extents.proofs.MapLemmas.{moved_on, none_at_all, word_within, lowest_is_free, none_below}
use Rattle.extents.proofs.free_map.FreeMap.lowest.Goals as goal

-- what was found in the groups as they were lent, of the groups themselves
same_found : (lent groups : List ℕ) (from place : ℕ) → lent ≡ groups → IsFirstNotZero lent from place → IsFirstNotZero groups from place
same_found lent groups from place same found =
    let P : List ℕ → Type 0 = λ gs. IsFirstNotZero gs from place in
    subst P same found

pub invariant_of-self : goal.invariant_of-self
invariant_of-self c =
    let s = c.self.inside in
    let place = c.first_not_zero-group.result in
    moved_on s.words.items s.groups.items s.blocks s.free s.first c.self.invariant place
    (same_found c.deref.result.now s.groups.items s.first place c.deref.ensures.value c.first_not_zero-group.ensures)

pub invariant_of-self-2 : goal.invariant_of-self-2
invariant_of-self-2 c =
    let s = c.self.inside in
    let place = c.first_not_zero-group.result in
    moved_on s.words.items s.groups.items s.blocks s.free s.first c.self.invariant place
    (same_found c.deref.result.now s.groups.items s.first place c.deref.ensures.value c.first_not_zero-group.ensures)

pub returns-then-group-len-clause-lowest : goal.returns-then-group-len-clause-lowest
returns-then-group-len-clause-lowest c k =
    let s = c.self.inside in
    let place = c.first_not_zero-group.result in
    let found = same_found c.deref.result.now s.groups.items s.first place c.deref.ensures.value c.first_not_zero-group.ensures in
    let v = s.groups.ok.0 in
    let l = c.len.ensures in
    sym (ap (λ f. is_free f k) c.self.view_is) ∙ none_at_all s.words.items s.groups.items s.blocks s.free s.first c.self.invariant place found (omega (arith, v, l)) k

pub index-requires-2 : goal.index-requires-2
index-requires-2 c =
    let s = c.self.inside in
    let place = c.first_not_zero-group.result in
    let group = c.index.result.now in
    let found = same_found c.deref.result.now s.groups.items s.first place c.deref.ensures.value c.first_not_zero-group.ensures in
    let v = s.groups.ok.0 in
    let w = s.words.ok.0 in
    let l = c.len.ensures in
    let other = c.if-group-len.false in
    let within : place < length s.groups.items = omega (arith, v, l, found.within, other) in
    let fits : group < 2 ^ 64 = omega arith in
    let below = word_within s.words.items s.groups.items s.blocks s.free s.first c.self.invariant place found group within (get_or_read s.groups.items place group within c.index.ensures 0) fits in
    omega (arith, w, below)

pub returns-clause-lowest : goal.returns-clause-lowest
returns-clause-lowest c =
    let s = c.self.inside in
    let place = c.first_not_zero-group.result in
    let group = c.index.result.now in
    let word = c.index-2.result.now in
    let found = same_found c.deref.result.now s.groups.items s.first place c.deref.ensures.value c.first_not_zero-group.ensures in
    let v = s.groups.ok.0 in
    let l = c.len.ensures in
    let other = c.if-group-len.false in
    let within : place < length s.groups.items = omega (arith, v, l, found.within, other) in
    let fits : group < 2 ^ 64 = omega arith in
    let fits_word : word < 2 ^ 64 = omega arith in
    let is = get_or_read s.groups.items place group within c.index.ensures 0 in
    let below = word_within s.words.items s.groups.items s.blocks s.free s.first c.self.invariant place found group within is fits in
    let is_word = get_or_read s.words.items (place * 64 + trailing_zeros w64 group) word below c.index-2.ensures 0 in (
      sym (ap (λ f. is_free f ((place * 64 + trailing_zeros w64 group) * 64 + trailing_zeros w64 word)) c.self.view_is) ∙ lowest_is_free s.words.items s.groups.items s.blocks s.free s.first c.self.invariant place found group within is fits word is_word fits_word,
      λ k lower. sym (ap (λ f. is_free f k) c.self.view_is) ∙ none_below s.words.items s.groups.items s.blocks s.free s.first c.self.invariant place found group within is fits word is_word fits_word k lower,
    )
