-- Clauses on a `Result` at the exit of a `?`.
use Rattle.std.proofs.Common.{◌⊎◌, inr, Result, Ok, Err, OnOk, OnErr}

pub err_exit : {T E P : Type 0} (r : Result T E) → P → OnErr r P
err_exit (Ok x) p = tt
err_exit (Err x) p = p

pub ok_exit : {T E P : Type 0} (r : Result T E) → P → OnOk r P
ok_exit (Ok x) p = p
ok_exit (Err x) p = tt

-- what holds at both exits
pub both : {T E P : Type 0} (r : Result T E) → OnOk r P → OnErr r P → P
both (Ok x) p q = p
both (Err x) p q = q

-- the new at Ok, and the old or the new at Err
pub either : {T E P Q : Type 0} (r : Result T E) → OnOk r Q → OnErr r (P ⊎ Q) → P ⊎ Q
either (Ok x) q pq = inr q
either (Err x) q pq = pq
