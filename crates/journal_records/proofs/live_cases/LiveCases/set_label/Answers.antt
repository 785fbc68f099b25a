use Rattle.std.proofs.Common.{◌≡◌, ◌<◌, ◌∙◌, List, None, length, ap, sym, subst, refl}
use Rattle.std.specs.List.{HoldsAt}
use Rattle.std.specs.Map.{lookup}
use Rattle.std.specs.BTreeMap.{is_at}
use Rattle.std.specs.Ordering.{nat_cmp}
use Rattle.journal_layout.specs.declared.entry.Entry.{Entry}
use Rattle.journal_records.specs.Live.{with_text, changed_in}
use Rattle.journal_records.specs.Stored.{Numbered, has_number, staying}
use Rattle.journal_records.proofs.LiveLemmas.{changed_missing}
use Rattle.journal_records.proofs.StoredLemmas.{stored_changed}
use Rattle.journal_records.proofs.live_cases.LiveCases.set_label.Goals as goal

pub invariant_of-self : goal.invariant_of-self
invariant_of-self c =
    let l = c.self.inside in
    let e = c.index_mut.result.now in
    let found = subst (λ (x : List Entry). (c.in-Some.place < length x) × HoldsAt (λ (y : Entry). y.seq ≡ c.args.seq) x c.in-Some.place) c.deref.ensures.value c.in-Some.ensures.found in
    (stored_changed (has_number l.ended) c.args.seq (with_text c.args.label) (λ x. refl) l.stored.items c.in-Some.place e c.self.invariant found.0 (found.1 e) c.in-Some.ensures.live c.index_mut.ensures.value).0

pub returns-in-Some-clause-entries : goal.returns-in-Some-clause-entries
returns-in-Some-clause-entries c =
    let l = c.self.inside in
    let e = c.index_mut.result.now in
    let found = subst (λ (x : List Entry). (c.in-Some.place < length x) × HoldsAt (λ (y : Entry). y.seq ≡ c.args.seq) x c.in-Some.place) c.deref.ensures.value c.in-Some.ensures.found in
    (stored_changed (has_number l.ended) c.args.seq (with_text c.args.label) (λ x. refl) l.stored.items c.in-Some.place e c.self.invariant found.0 (found.1 e) c.in-Some.ensures.live c.index_mut.ensures.value).1
    ∙ ap (λ (v : Numbered). changed_in c.args.seq (with_text c.args.label) v.entries) c.self.view_is

pub returns-in-Some-clause-end : goal.returns-in-Some-clause-end
returns-in-Some-clause-end c =
    let l = c.self.inside in
    let e = c.index_mut.result.now in
    let found = subst (λ (x : List Entry). (c.in-Some.place < length x) × HoldsAt (λ (y : Entry). y.seq ≡ c.args.seq) x c.in-Some.place) c.deref.ensures.value c.in-Some.ensures.found in
    (stored_changed (has_number l.ended) c.args.seq (with_text c.args.label) (λ x. refl) l.stored.items c.in-Some.place e c.self.invariant found.0 (found.1 e) c.in-Some.ensures.live c.index_mut.ensures.value).2
    ∙ ap (λ (v : Numbered). v.end) c.self.view_is

pub returns-in_default-clause-entries : goal.returns-in_default-clause-entries
returns-in_default-clause-entries c =
    let l = c.self.inside in
    let none = c.in_default.ensures.absent refl in
    sym (changed_missing c.args.seq (with_text c.args.label) c.args.self.now.entries
    (subst (λ (v : Numbered). lookup (is_at (nat_cmp c.args.seq)) v.entries ≡ None) c.self.view_is
    (subst (λ (x : List Entry). lookup (is_at (nat_cmp c.args.seq)) (staying (has_number l.ended) x) ≡ None) c.deref.ensures.value none)))
