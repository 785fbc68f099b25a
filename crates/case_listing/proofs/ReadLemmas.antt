-- An image that is read piece by piece.
use Rattle.std.proofs.Common.{◌≡◌, ℕ, ◌+◌, List, [], ◌++◌, take, length, Ok, refl, ap, sym, ◌∙◌}
use Rattle.std.proofs.lemmas.Option.{same_Some}
use Rattle.std.proofs.lemmas.List.{length-append}
use Rattle.std.proofs.Math.Seq.{take-add}
use Rattle.disk_model.specs.Places.{part}
use Rattle.disk_model.specs.PartLaws.{part_is}
use Rattle.disk_model.specs.declared.disk.Disk as disk
use Rattle.intake.specs.Contents.{Contents, image_at}
use Rattle.intake.specs.Part.{PartCall}
use Rattle.intake.specs.Parts.{Parts, state_of, contents_of}
use Rattle.intake.specs.QuietLaws.{quiet_then}
use Rattle.intake.specs.State.{ArchiveState}
use Rattle.intake.specs.StayLaws.{stays_then}
use Rattle.windowed_search.specs.Places.{places}
use Rattle.case_queries.specs.Fronts.{ReadsFront}

-- bytes that come next in an image
comes_next : (image front bytes : List ℕ) (n : ℕ) → front ≡ take (length front) image → bytes ≡ part image (length front) n → length bytes ≡ n
    → front ++ bytes ≡ take (length (front ++ bytes)) image
comes_next image front bytes n first second long =
    ap (λ x. x ++ bytes) first
    ∙ ap (λ x. take (length front) image ++ x) (second ∙ part_is image (length front) n)
    ∙ sym (take-add (length front) n image)
    ∙ ap (λ k. take k image) (ap (λ k. length front + k) (sym long) ∙ sym (length-append front bytes))

module _ {D : Type 0} (g : disk.Ghosts D) where
  -- the first piece is read
  pub first_read : (old new : Parts D) (seq n : ℕ) (bytes : List ℕ) → PartCall g old seq 0 n (Ok tt) bytes new → ReadsFront g old seq bytes new
  first_read old new seq n bytes call = record {
    own = λ honest. (let p = call.bytes honest in (p.0, p.1, p.2 ∙ part_is p.0 0 n ∙ ap (λ k. take k p.0) (sym call.count), p.3));
    state = call.step.2;
    contents = λ honest. (call.bytes honest).4;
    quiet = call.quiet;
    stays = call.stays;
  }

  -- the next one is read
  pub next_read : (old mid new : Parts D) (seq n : ℕ) (front bytes : List ℕ) → ReadsFront g old seq front mid → PartCall g mid seq (length front) n (Ok tt) bytes new
      → ReadsFront g old seq (front ++ bytes) new
  next_read old mid new seq n front bytes reads call = record {
    own = λ honest.
        let a = reads.own honest in
        let p = call.bytes (reads.stays.honesty ∙ honest) in
        let moved : image_at seq (state_of mid).cases (contents_of g.seen mid).images ≡ image_at seq (state_of old).cases (contents_of g.seen old).images =
        ap (λ (s : ArchiveState). image_at seq s.cases (contents_of g.seen mid).images) reads.state
        ∙ ap (λ (x : Contents). image_at seq (state_of old).cases x.images) (reads.contents honest) in
        let is : p.0 ≡ a.0 = same_Some p.0 a.0 (sym p.1 ∙ moved ∙ a.1) in
        (a.0, a.1, comes_next a.0 front bytes n a.2 (p.2 ∙ ap (λ x. part x (length front) n) is) call.count, a.3);
    state = call.step.2 ∙ reads.state;
    contents = λ honest. (call.bytes (reads.stays.honesty ∙ honest)).4 ∙ reads.contents honest;
    quiet = quiet_then g old.disk mid.disk new.disk reads.quiet call.quiet;
    stays = stays_then g old mid new reads.stays call.stays;
  }

-- no bytes have no places
pub nothing_found : (needle : List ℕ) → [] ≡ places needle 0 []
unfolding places
nothing_found needle = refl
