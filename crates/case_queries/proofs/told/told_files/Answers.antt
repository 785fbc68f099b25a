use Rattle.std.proofs.Common.{None, Some, Vec, Global, subst, sym}
use Rattle.std.proofs.lemmas.Result.{err_from_is_err_and}
use Rattle.build_replies.specs.Mapped.{IsFoundOf}
use Rattle.build_replies.specs.declared.ids.FrontId.{FrontId}
use Rattle.image_replies.specs.CoreWords.{core_bytes}
use Rattle.case_queries.specs.Pieces.{BeginsWith, SeesPieces}
use Rattle.case_queries.proofs.BuildLemmas.{found_told, missing_told, told_stop}
use Rattle.case_queries.proofs.FindLemmas.{at_start, some_seen}
use Rattle.case_queries.proofs.FramesLemmas.{no_pieces, some_front}
use Rattle.case_queries.proofs.told.told_files.Goals as goal

pub returns-in_default-clause-sees : goal.returns-in_default-clause-sees
returns-in_default-clause-sees g c before reads =
    let now = c.args.archive.now in
    let image = c.args.image in
    let x = some_seen g.D.Disk before image now now image.front.now 0 image.front.now c.requires.has reads (at_start g.D.Disk before image now reads c.requires.short) in
    (x.0, x.1, x.2)

pub returns-in_default-found-clause-sees : goal.returns-in_default-found-clause-sees
returns-in_default-found-clause-sees g c before reads =
    let image = c.args.image in
    subst (λ ps. SeesPieces g.D.Disk before image ps c.args.archive.now) (sym c.new-pieces.ensures.items) (no_pieces g.D.Disk before c.args.archive.now image c.requires.has c.requires.short reads)

pub returns-in_default-found-clause-told : goal.returns-in_default-found-clause-told
returns-in_default-found-clause-told g c =
    let image = c.args.image in
    let first = some_front image.front.now image.size c.requires.short in
    let none = subst (λ b. IsFoundOf b image.size None) c.requires.front (subst (IsFoundOf (core_bytes c.args.core.now) image.size) c.in_default-found.is c.in-Ok.ensures) in
    record {
      some = (first.0, subst (λ ps. BeginsWith image ps first.0) (sym c.new-pieces.ensures.items) (first.1, tt));
      told = λ b begins. missing_told c.a_sound_front_is_enough.ensures.notes image c.requires.sound c.new-pieces.result.items none b begins;
    }

pub returns-in_err-ids-clause-sees : goal.returns-in_err-ids-clause-sees
returns-in_err-ids-clause-sees g c before reads =
    let image = c.args.image in
    let none = subst (λ ps. SeesPieces g.D.Disk before image ps c.args.archive.now) (sym c.new-pieces.ensures.items) (no_pieces g.D.Disk before c.args.archive.now image c.requires.has c.requires.short reads) in
    let p = err_from_is_err_and c.from_residual.result c.from_residual.ensures.1 in
    rw (p.1, p.2) (told_stop (Vec FrontId Global) g.D.Disk before c.read_ids.new.archive image c.read_ids.new.pieces.items c.in_err-ids.field-0.0 (c.in_err-ids.ensures.sees before none))

pub returns-clause-sees : goal.returns-clause-sees
returns-clause-sees g c = λ before reads.
    let image = c.args.image in
    let none = subst (λ ps. SeesPieces g.D.Disk before image ps c.args.archive.now) (sym c.new-pieces.ensures.items) (no_pieces g.D.Disk before c.args.archive.now image c.requires.has c.requires.short reads) in
    c.in_ok-ids.ensures.sees before none

pub returns-clause-told : goal.returns-clause-told
returns-clause-told g c =
    let image = c.args.image in
    let first = some_front image.front.now image.size c.requires.short in
    let m = c.in-Some.mapped in
    let found = subst (λ b. IsFoundOf b image.size (Some m)) c.requires.front (subst (IsFoundOf (core_bytes c.args.core.now) image.size) c.in-Some.is c.in-Ok.ensures) in
    record {
      some = c.in_ok-ids.ensures.ids.0.some first.0 (subst (λ ps. BeginsWith image ps first.0) (sym c.new-pieces.ensures.items) (first.1, tt));
      told = λ b begins. found_told c.a_sound_front_is_enough.ensures.notes image c.requires.sound c.read_ids.new.pieces.items m c.in_ok-ids.ids.items found c.in_ok-ids.ensures.ids.1 b begins;
    }
