-- A read behind the first bytes.
use Rattle.std.proofs.Common.{◌≡◌, ◌+◌, ◌-◌, ◌≤◌, ◌++◌, ◌∙◌, ap, ℕ, List, length, min, replicate, sym, Result, Ok, Err, OnOk}
use Rattle.disk_model.specs.Places.{part}
use Rattle.salvage.specs.FrontLaws.{part_other}
use Rattle.salvage.specs.Fronts.{fronted}
use Rattle.salvage.specs.MendLaws.{read_stretched}
use Rattle.salvage.specs.Mending.{stretched}

pub read_behind : {T E : Type 0} (honest : Type 0) (r : Result T E) (front b got : List ℕ) (at n : ℕ) → length front ≤ at
    → OnOk r (honest → got ≡ part b at n) → OnOk r (honest → got ≡ part (fronted front b) at n)
read_behind honest (Ok x) front b got at n behind read = λ h. read h ∙ sym (part_other front b at n behind)
read_behind honest (Err e) front b got at n behind read = read

-- A read of a file that is taken for one of another length.
pub read_padded : {T E : Type 0} (honest : Type 0) (r : Result T E) (n : ℕ) (b got : List ℕ) (at m from there : ℕ) → at + m ≤ n
    → (honest → (from ≡ min at (length b)) × (there ≡ min (length b - from) m))
    → OnOk r (honest → got ≡ part b from there ++ replicate (m - there) 0) → OnOk r (honest → got ≡ part (stretched n b) at m)
read_padded honest (Ok x) n b got at m from there within are read = λ h. read h ∙ sym (read_stretched n b at m from there within (are h).0 (are h).1)
read_padded honest (Err e) n b got at m from there within are read = read

-- a read behind the front of a source that is another way of reading this one
pub read_through : {T E : Type 0} (honest honest' : Type 0) (r : Result T E) (front b b' got : List ℕ) (at n : ℕ) → (honest → honest') → b' ≡ b → length front ≤ at
    → OnOk r (honest' → got ≡ part b' at n) → OnOk r (honest → got ≡ part (fronted front b) at n)
read_through honest honest' (Ok x) front b b' got at n is same behind read = λ h.
    read (is h) ∙ ap (λ (l : List ℕ). part l at n) same ∙ sym (part_other front b at n behind)
read_through honest honest' (Err e) front b b' got at n is same behind read = read
