-- What holds at the exit of a `?`.
use Rattle.std.proofs.Common.{Result, Ok, Err, OnErr}

-- what holds in any case holds at an error
pub OnErr-any : {T E : Type 0} (r : Result T E) (P : Type 0) → P → OnErr r P
OnErr-any (Ok x) P p = tt
OnErr-any (Err e) P p = p
