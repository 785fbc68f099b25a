-- What is known however a last step ends.
use Rattle.std.proofs.Common.{◌≡◌, Result, Ok, Err, OnOk}

pub in_any_case : {T E : Type 0} {P : Type 0} (r : Result T E) → P → OnOk r P
in_any_case (Ok x) p = p
in_any_case (Err e) p = tt
