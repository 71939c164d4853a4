-- What a source in memory gives.
use Rattle.std.proofs.Common.{◌≡◌, ℕ, ◌+◌, List, ◌++◌, length, take, drop, take-append-drop, sym, ◌∙◌}
use Rattle.std.proofs.lemmas.List.{take_at, drop-drop}

-- the bytes given stand at the beginning of the room for them
pub gives_front : (bytes out given : List ℕ) (at n : ℕ) → given ≡ take n (drop at bytes) → length given ≡ n → drop at bytes ≡ take n (given ++ drop n out) ++ drop (at + n) bytes
gives_front bytes out given at n is size =
    let front : take n (given ++ drop n out) ≡ take n (drop at bytes) = take_at given (drop n out) n size ∙ is in
    sym ((λ i. front i ++ sym (drop-drop n at bytes) i) ∙ take-append-drop n (drop at bytes))
