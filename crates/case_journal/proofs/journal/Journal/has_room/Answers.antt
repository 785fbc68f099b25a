use Rattle.std.proofs.Common.{◌≡◌, ◌∙◌, ap, sym, subst, map}
use Rattle.journal_layout.specs.Case.{case_of}
use Rattle.journal_snapshot.specs.Measuring.{AreShort}
use Rattle.journal_layout.specs.Layout.{half_length}
use Rattle.case_journal.specs.Journaled.{Journaled}
use Rattle.case_journal.proofs.CompactLemmas.{live_short}
use Rattle.case_journal.proofs.RoomLemmas.{room_some, room_none}
use Rattle.case_journal.proofs.journal.Journal.has_room.Goals as goal

pub measured-requires-clause-short : goal.measured-requires-clause-short
measured-requires-clause-short c =
    let j = c.self.inside in
    subst AreShort (sym c.as_slice.ensures) (live_short j.shape.data_blocks j.next j.entries.entries c.self.invariant.live)

pub returns-in-Some : goal.returns-in-Some
returns-in-Some c =
    let s = c.args.self.now.standing in
    let same : s.cases ≡ map case_of c.as_slice.result.now = ap (λ (j : Journaled). j.standing.cases) (sym c.self.view_is) ∙ ap (map case_of) (sym c.as_slice.ensures) in
    let half : c.half_length-half.result ≡ half_length s.shape = c.half_length-half.ensures ∙ ap (λ (j : Journaled). half_length j.standing.shape) c.self.view_is in
    room_some s c.as_slice.result.now c.args.size same c.half_length-half.result half c.in-Some.measure (sym c.fits.ensures.in_half ∙ c.if-fits.false) c.in-Some.ensures

pub returns-in-None : goal.returns-in-None
returns-in-None c =
    let s = c.args.self.now.standing in
    let same : s.cases ≡ map case_of c.as_slice.result.now = ap (λ (j : Journaled). j.standing.cases) (sym c.self.view_is) ∙ ap (map case_of) (sym c.as_slice.ensures) in
    let half : c.half_length-half.result ≡ half_length s.shape = c.half_length-half.ensures ∙ ap (λ (j : Journaled). half_length j.standing.shape) c.self.view_is in
    room_none s c.as_slice.result.now c.args.size same c.half_length-half.result half (sym c.fits.ensures.in_half ∙ c.if-fits.false) c.in-None.ensures
