use Rattle.std.proofs.Common.{◌≡◌, nat_eq, slice_index, length, sym, ap, ◌∙◌}
use Rattle.journal_layout.specs.Layout.{field}
use Rattle.journal_layout.specs.Record.{Record, Store, Drop, Pin, Next, Label}
use Rattle.journal_layout.specs.Reading.{kind_at, case_at, drop_seqs, label_at, record_at}
use Rattle.journal_layout.specs.Folding.{after}
use Rattle.journal_layout.specs.Checks.{store_fault, drop_fault, pin_fault, first_failing, next_checks, label_fault, body_fault}
use Rattle.journal_layout.specs.KindLaws.{body_of, record_of}
use Rattle.journal_records.specs.Head.{byte_of}
use Rattle.journal_records.specs.Kept.{said_by}
use Rattle.journal_records.proofs.FaultLemmas.{reads_as}
use Rattle.journal_records.proofs.cases.Cases.read_body.Goals as goal

pub returns-in-Store : goal.returns-in-Store
returns-in-Store c =
    let kind : kind_at c.args.rest.now ≡ 1 = sym c.requires.kind ∙ ap byte_of c.in-Store.is in
    let f = said_by c.args.self.now in
    let rest = c.args.rest.now in
    let limit = length c.args.self.now.free in
    let r : Record = Store (case_at rest) in
    reads_as (store_fault limit c.args.at rest f) (body_fault limit c.args.at rest f) (after r f) (after (record_at rest) f) limit c.read_store.result c.read_store.new.self
    (body_of limit c.args.at rest f r kind) (ap (λ (x : Record). after x f) (record_of rest r kind)) c.read_store.ensures

pub returns-in-Drop : goal.returns-in-Drop
returns-in-Drop c =
    let kind : kind_at c.args.rest.now ≡ 2 = sym c.requires.kind ∙ ap byte_of c.in-Drop.is in
    let f = said_by c.args.self.now in
    let rest = c.args.rest.now in
    let limit = length c.args.self.now.free in
    let r : Record = Drop (drop_seqs rest) in
    reads_as (drop_fault c.args.at rest f) (body_fault limit c.args.at rest f) (after r f) (after (record_at rest) f) limit c.read_drop.result c.read_drop.new.self
    (body_of limit c.args.at rest f r kind) (ap (λ (x : Record). after x f) (record_of rest r kind)) c.read_drop.ensures

pub returns-in-Pin : goal.returns-in-Pin
returns-in-Pin c =
    let kind : kind_at c.args.rest.now ≡ 3 = sym c.requires.kind ∙ ap byte_of c.in-Pin.is in
    let f = said_by c.args.self.now in
    let rest = c.args.rest.now in
    let limit = length c.args.self.now.free in
    let r : Record = Pin (field rest 8 4) (nat_eq (slice_index rest 12) 1) in
    reads_as (pin_fault c.args.at rest f) (body_fault limit c.args.at rest f) (after r f) (after (record_at rest) f) limit c.read_pin.result c.read_pin.new.self
    (body_of limit c.args.at rest f r kind) (ap (λ (x : Record). after x f) (record_of rest r kind)) c.read_pin.ensures

pub returns-in-Next : goal.returns-in-Next
returns-in-Next c =
    let kind : kind_at c.args.rest.now ≡ 4 = sym c.requires.kind ∙ ap byte_of c.in-Next.is in
    let f = said_by c.args.self.now in
    let rest = c.args.rest.now in
    let limit = length c.args.self.now.free in
    let r : Record = Next (field rest 8 8) in
    reads_as (first_failing c.args.at (next_checks rest f)) (body_fault limit c.args.at rest f) (after r f) (after (record_at rest) f) limit c.read_next.result c.read_next.new.self
    (body_of limit c.args.at rest f r kind) (ap (λ (x : Record). after x f) (record_of rest r kind)) c.read_next.ensures

pub returns-in-Label : goal.returns-in-Label
returns-in-Label c =
    let kind : kind_at c.args.rest.now ≡ 5 = sym c.requires.kind ∙ ap byte_of c.in-Label.is in
    let f = said_by c.args.self.now in
    let rest = c.args.rest.now in
    let limit = length c.args.self.now.free in
    let r : Record = Label (field rest 8 4) (label_at rest) in
    reads_as (label_fault c.args.at rest f) (body_fault limit c.args.at rest f) (after r f) (after (record_at rest) f) limit c.read_label.result c.read_label.new.self
    (body_of limit c.args.at rest f r kind) (ap (λ (x : Record). after x f) (record_of rest r kind)) c.read_label.ensures
