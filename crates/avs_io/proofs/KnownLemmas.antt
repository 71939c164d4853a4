-- Bytes that may be told, one piece after another.
use Rattle.std.proofs.Common.{◌≡◌, ℕ, ◌+◌, List, [], ◌++◌, Option, Some, None, take, drop, refl, sym, ◌∙◌, ap, append_assoc}
use Rattle.std.proofs.Math.Seq.{take-add}
use Rattle.std.proofs.lemmas.List.{append-nil}
use Rattle.std.specs.Io.KnownBytes.{prepend_known, append_known}

pub append_known-nil : (known : Option (List ℕ)) → append_known known [] ≡ known
append_known-nil None = refl
append_known-nil (Some xs) = ap Some (append-nil xs)

pub append_known-append : (known : Option (List ℕ)) (xs ys : List ℕ) → append_known (append_known known xs) ys ≡ append_known known (xs ++ ys)
append_known-append None xs ys = refl
append_known-append (Some bs) xs ys = ap Some (append_assoc bs xs ys)

pub prepend_known-nil : (known : Option (List ℕ)) → prepend_known [] known ≡ known
prepend_known-nil None = refl
prepend_known-nil (Some xs) = refl

pub prepend_known-prepend_known : (xs ys : List ℕ) (known : Option (List ℕ)) → prepend_known xs (prepend_known ys known) ≡ prepend_known (xs ++ ys) known
prepend_known-prepend_known xs ys None = refl
prepend_known-prepend_known xs ys (Some bs) = ap Some (sym (append_assoc xs ys bs))

-- the first n bytes, and then the first m of those behind them
pub append_known-take : (old mid new : Option (List ℕ)) (n m : ℕ) (bytes : List ℕ) → mid ≡ append_known old (take n bytes) → new ≡ append_known mid (take m (drop n bytes)) → new ≡ append_known old (take (n + m) bytes)
append_known-take old mid new n m bytes first then =
    then ∙ ap (λ known. append_known known (take m (drop n bytes))) first
    ∙ append_known-append old (take n bytes) (take m (drop n bytes))
    ∙ ap (append_known old) (sym (take-add n m bytes))
