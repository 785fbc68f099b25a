-- An image of which the first bytes and a part after them are read, and then the others.
use Rattle.std.proofs.Common.{◌≡◌, ℕ, ◌+◌, ◌-◌, ◌≤◌, List, ◌++◌, take, drop, length, Result, Ok, Err, ap, sym, ◌∙◌, subst, arith}
use Rattle.std.specs.Prelude.{IsTrue, Some}
use Rattle.std.proofs.lemmas.List.{length-append, drop-drop}
use Rattle.std.proofs.lemmas.Option.{same_Some}
use Rattle.std.proofs.Math.Seq.{take-add}
use Rattle.disk_model.specs.Places.{part as disk_part}
use Rattle.disk_model.specs.PartLaws.{part_is}
use Rattle.disk_model.specs.declared.disk.Disk as disk
use Rattle.elf_view.specs.Field.{part}
use Rattle.intake.specs.Contents.{Contents, image_at}
use Rattle.intake.specs.Parts.{Parts, state_of, contents_of}
use Rattle.intake.specs.QuietLaws.{quiet_then}
use Rattle.intake.specs.State.{ArchiveState}
use Rattle.intake.specs.StayLaws.{stays_then}
use Rattle.intake.specs.declared.faults.ArchiveFault.{ArchiveFault}
use Rattle.case_queries.specs.Fronts.{HasSize, ReadsFront, ReadsUpTo}
use Rattle.case_queries.specs.Windows.{ReadsOn, ReadsRange}
use Rattle.case_queries.proofs.FrontLemmas.{next_read, up_refused}
use Rattle.case_queries.proofs.WindowLemmas.{front_part, range_is}

-- first bytes, and those of a part that they reach
joined : (image x bytes : List ℕ) (start : ℕ) → x ≡ take (length x) image → start ≤ length x → bytes ≡ take (length bytes) (drop start image)
    → x ++ part bytes (length x - start) (length bytes) ≡ take (length (x ++ part bytes (length x - start) (length bytes))) image
joined image x bytes start cut low is =
    let p = length x - start in
    let tail = part bytes p (length bytes) in
    let place : start + p ≡ length x = omega (arith, low) in
    let behind : tail ≡ take (length tail) (drop (length x) image) =
    front_part (drop start image) bytes p (length bytes) is ∙ ap (take (length tail)) (drop-drop p start image) ∙ ap (λ k. take (length tail) (drop k image)) place in
    ap (λ y. y ++ tail) cut
    ∙ ap (λ y. take (length x) image ++ y) behind
    ∙ sym (take-add (length x) (length tail) image)
    ∙ ap (λ k. take k image) (sym (length-append x tail))

module _ {D : Type 0} (g : disk.Ghosts D) where
  same_image : (before mid : Parts D) (seq : ℕ) (front one other : List ℕ) → ReadsFront g before seq front mid → IsTrue (g.is_honest before.disk)
      → image_at seq (state_of before).cases (contents_of g.seen before).images ≡ Some one → image_at seq (state_of mid).cases (contents_of g.seen mid).images ≡ Some other → other ≡ one
  same_image before mid seq front one other reads honest at found =
      let moved : image_at seq (state_of mid).cases (contents_of g.seen mid).images ≡ image_at seq (state_of before).cases (contents_of g.seen before).images =
      ap (λ (s : ArchiveState). image_at seq s.cases (contents_of g.seen mid).images) reads.state
      ∙ ap (λ (x : Contents). image_at seq (state_of before).cases x.images) (reads.contents honest) in
      same_Some other one (sym found ∙ moved ∙ at)

  -- the first bytes stay read while a part is
  pub after_range : (before mid new : Parts D) (seq start n : ℕ) (front bytes : List ℕ) → ReadsFront g before seq front mid → ReadsRange g mid seq front start n (Ok tt) bytes new → ReadsFront g before seq front new
  after_range before mid new seq start n front bytes reads range = record {
    own = reads.own;
    state = range.1.step.2 ∙ reads.state;
    contents = λ honest. (range.1.bytes (reads.stays.honesty ∙ honest)).4 ∙ reads.contents honest;
    quiet = quiet_then g before.disk mid.disk new.disk reads.quiet range.1.quiet;
    stays = stays_then g before mid new reads.stays range.1.stays;
  }

  -- first bytes that reach a part that was read
  pub with_range : (before mid old new : Parts D) (seq start : ℕ) (front bytes x : List ℕ) → ReadsFront g before seq front mid → ReadsRange g mid seq front start (length bytes) (Ok tt) bytes old → ReadsFront g before seq x new → start ≤ length x
      → ReadsFront g before seq (x ++ part bytes (length x - start) (length bytes)) new
  with_range before mid old new seq start front bytes x reads range more low = record {
    own = λ honest.
        let a = more.own honest in
        let f = reads.own honest in
        let b = range.1.bytes (reads.stays.honesty ∙ honest) in
        let n = length bytes in
        let k = length (part front start n) in
        let first : f.0 ≡ a.0 = same_Some f.0 a.0 (sym f.1 ∙ a.1) in
        let is : b.0 ≡ a.0 = same_image before mid seq front a.0 b.0 reads honest a.1 b.1 in
        let read : range.0 ≡ take (n - k) (drop (start + k) a.0) = b.2 ∙ ap (λ i. disk_part i (start + k) (n - k)) is ∙ part_is a.0 (start + k) (n - k) in
        let all : bytes ≡ part a.0 start n = range.2 ∙ range_is a.0 front range.0 start n (f.2 ∙ ap (take (length front)) first) read in
        (a.0, a.1, joined a.0 x bytes start a.2 low all, a.3);
    state = more.state;
    contents = more.contents;
    quiet = more.quiet;
    stays = more.stays;
  }

  pub sized_after : (old new : Parts D) (seq size start n : ℕ) (front bytes : List ℕ) → HasSize (state_of old) seq size → ReadsRange g old seq front start n (Ok tt) bytes new → HasSize (state_of new) seq size
  sized_after old new seq size start n front bytes has range = subst (λ (s : ArchiveState). HasSize s seq size) (sym range.1.step.2) has

  pub sized_up : (old new : Parts D) (seq size end : ℕ) (front front' : List ℕ) → HasSize (state_of old) seq size → ReadsUpTo g old seq front end (Ok tt) front' new → HasSize (state_of new) seq size
  sized_up old new seq size end front front' has up = subst (λ (s : ArchiveState). HasSize s seq size) (sym up.1.step.2) has

  -- more first bytes, or why they can't be read
  pub reads_on : (before mid new : Parts D) (seq size end : ℕ) (front front' : List ℕ) (r : Result (Unit {0}) ArchiveFault) → HasSize (state_of before) seq size → ReadsFront g before seq front mid → ReadsUpTo g mid seq front end r front' new → ReadsOn g before seq r front' new
  reads_on before mid new seq size end front front' (Ok u) has reads up = subst (λ x. ReadsFront g before seq x new) (sym up.2) (next_read g before mid new seq (end - length front) front up.0 reads up.1)
  reads_on before mid new seq size end front front' (Err f) has reads up = up_refused g before mid new seq size end front front' f has reads up
