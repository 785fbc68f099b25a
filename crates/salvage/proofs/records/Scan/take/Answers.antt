use Rattle.std.proofs.Common.{◌≡◌, inl, ℕ, Bool, false, IsTrue, List, ◌<◌, refl, sym, ◌∙◌, subst, arith, Option, Ok}
use Rattle.journal_layout.specs.Case.{Case, case_of}
use Rattle.disk_model.specs.Places.{part}
use Rattle.std.specs.List.{slice_range}
use Rattle.salvage.specs.Alone.{HasHead, IsDropBody, IsOther, StoresCase, between}
use Rattle.journal_layout.specs.declared.entry.Entry.{Entry}
use Rattle.salvage.specs.Reads.{IsReadAt, IsStored}
use Rattle.salvage.specs.Records.{number_of}
use Rattle.salvage.proofs.ReadsLemmas.{handed_on, none_of_kind, none_of_other, none_short, none_there, no_other, on_ok, one_there, other_reads, range_is, same_again, store_reads}
use Rattle.salvage.proofs.NumberLemmas.{numbers_there}
use Rattle.salvage.proofs.records.Scan.take.Goals as goal

pub returns-then-is_other-clause-length : goal.returns-then-is_other-clause-length
returns-then-is_other-clause-length c =
    let rest = c.in-Some.rest.now in
    let bytes = c.args.front.now in
    let there = between bytes c.args.place.start c.args.place.end in
    let same : there ≡ rest = range_is bytes c.args.place.start c.args.place.end ∙ sym c.in-Some.ensures.lookup.0.2 in
    other_reads c.args.blocks c.head_length-length.result there rest same c.head_length-length.ensures.each c.counted.result c.counted.ensures.length
    (number_of rest 4) (c.is_other.ensures.has c.if-is_other.true)

pub returns-then-is_other-clause-taken : goal.returns-then-is_other-clause-taken
returns-then-is_other-clause-taken c = λ order within.
    let rest = c.in-Some.rest.now in
    let bytes = c.args.front.now in
    let n = c.head_length-length.result in
    let there = between bytes c.args.place.start c.args.place.end in
    let same : there ≡ rest = range_is bytes c.args.place.start c.args.place.end ∙ sym c.in-Some.ensures.lookup.0.2 in
    let new = c.take_other.new.self in
    handed_on c.counted.result c.take_other.result c.counted.ensures.taken c.take_other.ensures.named
    (λ named. record {
      case =
          none_of_other c.args.blocks n there rest same c.head_length-length.ensures.each (IsReadAt new.reads.items c.args.place.start) (number_of rest 4) (c.is_other.ensures.has c.if-is_other.true);
      numbers = numbers_there bytes c.args.place.start c.args.place.end order within new.drops.items named;
    })

pub returns-then-length-eq0-clause-taken : goal.returns-then-length-eq0-clause-taken
returns-then-length-eq0-clause-taken c = λ order within.
    let rest = c.in-Some.rest.now in
    let bytes = c.args.front.now in
    let n = c.head_length-length.result in
    let there = between bytes c.args.place.start c.args.place.end in
    let same : there ≡ rest = range_is bytes c.args.place.start c.args.place.end ∙ sym c.in-Some.ensures.lookup.0.2 in
    record {
      case = none_short c.args.blocks n there rest same c.head_length-length.ensures.each (IsReadAt c.args.self.now.reads.items c.args.place.start) c.if-length-eq0.true;
      numbers = λ size head body index below. absurd (no_other rest c.is_other.result c.if-is_other.false c.is_other.ensures.each size (subst (λ (bytes : List ℕ). IsOther bytes size) same (head, inl body)));
    }

pub returns-then-byte_at-ne-STORE-clause-taken : goal.returns-then-byte_at-ne-STORE-clause-taken
returns-then-byte_at-ne-STORE-clause-taken c = λ order within.
    let rest = c.in-Some.rest.now in
    let bytes = c.args.front.now in
    let n = c.head_length-length.result in
    let there = between bytes c.args.place.start c.args.place.end in
    let same : there ≡ rest = range_is bytes c.args.place.start c.args.place.end ∙ sym c.in-Some.ensures.lookup.0.2 in
    record {
      case =
          none_of_kind c.args.blocks n there rest same c.head_length-length.ensures.each (IsReadAt c.args.self.now.reads.items c.args.place.start) (λ kind. c.if-byte_at-ne-STORE.true (c.byte_at.ensures ∙ kind));
      numbers = λ size head body index below. absurd (no_other rest c.is_other.result c.if-is_other.false c.is_other.ensures.each size (subst (λ (bytes : List ℕ). IsOther bytes size) same (head, inl body)));
    }

pub returns-in-Some-2-clause-length : goal.returns-in-Some-2-clause-length
returns-in-Some-2-clause-length c =
    let rest = c.in-Some.rest.now in
    let bytes = c.args.front.now in
    let n = c.head_length-length.result in
    let there = between bytes c.args.place.start c.args.place.end in
    let same : there ≡ rest = range_is bytes c.args.place.start c.args.place.end ∙ sym c.in-Some.ensures.lookup.0.2 in
    let some : 0 < n = omega (arith, c.if-length-eq0.false) in
    let stored = subst (λ (o : Option Entry). IsStored c.args.blocks rest n (Ok o)) c.in-Some-2.is c.in_ok-entry.ensures.stored
    (c.head_length-length.ensures.has some) (sym c.byte_at.ensures ∙ c.if-byte_at-ne-STORE.false) in
    store_reads c.args.blocks n there rest same c.head_length-length.ensures.each c.counted-in-Some-2.result c.counted-in-Some-2.ensures.length (case_of c.in-Some-2.entry) stored

pub returns-in-Some-2-clause-taken : goal.returns-in-Some-2-clause-taken
returns-in-Some-2-clause-taken c = λ order within.
    let rest = c.in-Some.rest.now in
    let bytes = c.args.front.now in
    let n = c.head_length-length.result in
    let there = between bytes c.args.place.start c.args.place.end in
    let same : there ≡ rest = range_is bytes c.args.place.start c.args.place.end ∙ sym c.in-Some.ensures.lookup.0.2 in
    let some : 0 < n = omega (arith, c.if-length-eq0.false) in
    let stored = subst (λ (o : Option Entry). IsStored c.args.blocks rest n (Ok o)) c.in-Some-2.is c.in_ok-entry.ensures.stored
    (c.head_length-length.ensures.has some) (sym c.byte_at.ensures ∙ c.if-byte_at-ne-STORE.false) in
    let P : Case → Type 0 = IsReadAt c.take_store.new.self.reads.items c.args.place.start in
    handed_on c.counted-in-Some-2.result c.take_store.result c.counted-in-Some-2.ensures.taken c.take_store.ensures.has
    (λ among. record {
      case = one_there c.args.blocks n there rest same c.head_length-length.ensures.each P (case_of c.in-Some-2.entry) c.head_length-length.ensures.small stored among;
      numbers = λ size head body index below. absurd (no_other rest c.is_other.result c.if-is_other.false c.is_other.ensures.each size (subst (λ (bytes : List ℕ). IsOther bytes size) same (head, inl body)));
    })

pub returns-in-None-clause-taken : goal.returns-in-None-clause-taken
returns-in-None-clause-taken c = λ order within.
    let rest = c.in-Some.rest.now in
    let bytes = c.args.front.now in
    let n = c.head_length-length.result in
    let there = between bytes c.args.place.start c.args.place.end in
    let same : there ≡ rest = range_is bytes c.args.place.start c.args.place.end ∙ sym c.in-Some.ensures.lookup.0.2 in
    record {
      case =
          none_there c.args.blocks n there rest same c.head_length-length.ensures.each (IsReadAt c.args.self.now.reads.items c.args.place.start)
          (subst (λ (o : Option Entry). IsStored c.args.blocks rest n (Ok o)) c.in-None.is c.in_ok-entry.ensures.stored);
      numbers = λ size head body index below. absurd (no_other rest c.is_other.result c.if-is_other.false c.is_other.ensures.each size (subst (λ (bytes : List ℕ). IsOther bytes size) same (head, inl body)));
    }

pub returns-in-Some-2-clause-from : goal.returns-in-Some-2-clause-from
returns-in-Some-2-clause-from c =
    let rest = c.in-Some.rest.now in
    let bytes = c.args.front.now in
    let n = c.head_length-length.result in
    let there = between bytes c.args.place.start c.args.place.end in
    let same : there ≡ rest = range_is bytes c.args.place.start c.args.place.end ∙ sym c.in-Some.ensures.lookup.0.2 in
    let some : 0 < n = omega (arith, c.if-length-eq0.false) in
    let stored = subst (λ (o : Option Entry). IsStored c.args.blocks rest n (Ok o)) c.in-Some-2.is c.in_ok-entry.ensures.stored
    (c.head_length-length.ensures.has some) (sym c.byte_at.ensures ∙ c.if-byte_at-ne-STORE.false) in
    let room = stored.head.room in
    let found = c.in-Some.ensures.lookup.0 in
    handed_on c.counted-in-Some-2.result c.take_store.result c.counted-in-Some-2.ensures.taken c.take_store.ensures.from
    (λ from. from c.args.blocks bytes (record {
      end = c.args.place.end;
      size = n;
      case = case_of c.in-Some-2.entry;
      stores = subst (λ (l : List ℕ). StoresCase c.args.blocks l n (case_of c.in-Some-2.entry)) (sym same) stored;
      place = omega (arith, c.saturating_add.ensures, room, found.1, found.3);
      same = same_again (case_of c.in-Some-2.entry);
    }))

pub returns-then-is_other-clause-from : goal.returns-then-is_other-clause-from
returns-then-is_other-clause-from c = on_ok c.counted.result (λ are. c.take_other.ensures.from c.args.blocks c.args.front.now are)
