-- Messages that grow by the bytes of a disk.
use Rattle.std.proofs.Common.{◌≡◌, ◌∙◌, ℕ, zero, suc, ◌+◌, ◌<◌, ◌≤◌, List, [], ◌∷◌, ◌++◌, length, get_or, take, refl, sym, ap, subst, arith, append_assoc, length-append, IsTrue}
use Rattle.std.proofs.lemmas.Grind.{flat_map-append}
use Rattle.std.proofs.lemmas.List.{append-nil, take_more, take_all}
use Rattle.std.proofs.lemmas.List.Sums.{sum_by-cons}
use Rattle.disk_model.specs.PartLaws.{part_is, part_length, part_split}
use Rattle.disk_model.specs.Places.{part}
use Rattle.disk_model.specs.declared.disk.Disk as disk
use Rattle.case_journal.specs.Viewing.{OnlyReads}
use Rattle.intake.specs.Ranges.{AreWithin, bytes_in, count_in}
use Rattle.intake.specs.declared.ranges.ByteRange.{ByteRange}
use Rattle.sha2.specs.Hashers.{Holds256}
use Rattle.sha2.specs.declared.Sha256.{Sha256}
use Rattle.case_listing.specs.Hashing.{Adds}

-- no byte
pub adds_none : (h : Sha256) (b : List ℕ) (p : ℕ) → Adds h h (part b p 0)
adds_none h b p m holds = subst (Holds256 h) (sym (ap (λ (l : List ℕ). m ++ l) (part_is b p 0) ∙ append-nil m)) holds

-- a part, and the part behind it
pub adds_part : (old mid new : Sha256) (b : List ℕ) (p n m k : ℕ) → k ≡ n + m → Adds old mid (part b p n) → Adds mid new (part b (p + n) m) → Adds old new (part b p k)
adds_part old mid new b p n m k is first second text holds =
    subst (Holds256 new)
    (append_assoc text (part b p n) (part b (p + n) m) ∙ ap (λ (l : List ℕ). text ++ l) (sym (ap (part b p) is ∙ part_split b p n m)))
    (second (text ++ part b p n) (first text holds))

-- the ranges before one, and that one
pub ranges_more : (b : List ℕ) (ranges : List ByteRange) (i : ℕ) (r : ByteRange) → i < length ranges
    → bytes_in b (take i ranges) ++ part b (get_or ranges i r).start (get_or ranges i r).length ≡ bytes_in b (take (i + 1) ranges)
ranges_more b ranges i r below =
    let here = get_or ranges i r in
    ap (λ l. bytes_in b (take i ranges) ++ l) (sym (append-nil (part b here.start here.length)))
    ∙ sym (ap (bytes_in b) (take_more ranges i r below) ∙ flat_map-append (λ (x : ByteRange). part b x.start x.length) (take i ranges) (here ∷ []))

pub ranges_all : (b : List ℕ) (ranges : List ByteRange) (n : ℕ) → length ranges ≤ n → bytes_in b (take n ranges) ≡ bytes_in b ranges
ranges_all b ranges n past = ap (bytes_in b) (take_all n ranges past)

-- how many bytes ranges have that lie within a disk
pub bytes_long : (b : List ℕ) (n : ℕ) (ranges : List ByteRange) → AreWithin n ranges → length b ≡ n → length (bytes_in b ranges) ≡ count_in ranges
bytes_long b n [] within long = refl
bytes_long b n (r ∷ rs) within long =
    let here : r.start + r.length ≤ n = within 0 r (omega arith) in
    let first = part_length b r.start r.length (omega (arith, here, long)) in
    let rest = bytes_long b n rs (λ i d below. within (suc i) d (omega (arith, below))) long in
    length-append (part b r.start r.length) (bytes_in b rs)
    ∙ ap (λ (k : ℕ). k + length (bytes_in b rs)) first
    ∙ ap (λ (k : ℕ). r.length + k) rest
    ∙ sym (sum_by-cons (λ (x : ByteRange). x.length) r rs)

abbrev pub no_range : ByteRange
no_range = record { start = 0; length = 0 }
