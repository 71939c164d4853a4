-- Counts of chunks, of which one comes to another state.
use Rattle.std.proofs.Common.{◌≡◌, ◌≢◌, ◌⊎◌, inl, inr, ℕ, ◌+◌, ◌<◌, ◌≤◌, ◌^◌, Bool, true, false, cond, eqb, filter, length, sym, ◌∙◌, ap, subst, arith}
use Rattle.std.proofs.lemmas.Bool.{eq-eqb, false≢true}
use Rattle.std.specs.List.{range_with_len}
use Rattle.avs_chunks.specs.declared.counting.Counts.{Counts}
use Rattle.avs_chunks.specs.Counted.{AreCounted, AreFew, HasOne, Changes, count_of}
use Rattle.avs_chunks.proofs.Counts.{count_most, count_none, count_some, count_same, count_set}

one_in : (states : ℕ → ℕ) (n c state k : ℕ) → c < n → states c ≡ state → k ≡ count_of states n state → 0 < k
one_in states n c state k lt is k_is =
    let some = count_some (λ (j : ℕ). eqb (states j) state) n c lt (eq-eqb (states c) state is) in
    omega (arith, some, k_is)

pub has_one : (states : ℕ → ℕ) (n : ℕ) (counts : Counts) (c state : ℕ) → c < n → states c ≡ state → AreCounted states n counts → HasOne counts state
has_one states n counts c state lt here p = record {
  alone = λ is. one_in states n c 0 counts.alone lt (here ∙ is) p.alone;
  back = λ is. one_in states n c 3 counts.back lt (here ∙ is) p.back;
  halves = λ is. one_in states n c 2 counts.split lt (here ∙ is) p.halves;
}

few : (states : ℕ → ℕ) (n state k : ℕ) → k ≡ count_of states n state → k ≤ n
few states n state k is = let most = count_most (λ (j : ℕ). eqb (states j) state) n in omega (arith, most, is)

pub are_few : (states : ℕ → ℕ) (n : ℕ) (counts : Counts) → n < 2 ^ 31 → AreCounted states n counts → AreFew counts
are_few states n counts small p = record {
  alone = omega (arith, few states n 0 counts.alone p.alone);
  back = omega (arith, few states n 3 counts.back p.back);
  halves = omega (arith, few states n 2 counts.split p.halves);
}

pub few_of : (states : ℕ → ℕ) (n state : ℕ) → count_of states n state ≤ n
few_of states n state = count_most (λ (j : ℕ). eqb (states j) state) n

one_set : (old new : ℕ → ℕ) (n c from to state x y : ℕ) → c < n → ((k : ℕ) → k ≢ c → new k ≡ old k) → old c ≡ from → new c ≡ to → x ≡ count_of old n state
    → y + cond (eqb from state) 1 0 ≡ x + cond (eqb to state) 1 0 → y ≡ count_of new n state
one_set old new n c from to state x y lt others was is x_is change =
    let was_one : ◌≡◌ {A = ℕ} (cond (eqb (old c) state) 1 0) (cond (eqb from state) 1 0) = ap (λ (k : ℕ). cond (eqb k state) 1 0) was in
    let is_one : ◌≡◌ {A = ℕ} (cond (eqb (new c) state) 1 0) (cond (eqb to state) 1 0) = ap (λ (k : ℕ). cond (eqb k state) 1 0) is in
    let set = count_set (λ (k : ℕ). eqb (old k) state) (λ (k : ℕ). eqb (new k) state) n c lt (λ k _ ne. ap (λ (j : ℕ). eqb j state) (others k ne)) in
    omega (arith, was_one, is_one, set, x_is, change)

-- a chunk among those that are counted has come to another state
pub counted_set : (old new : ℕ → ℕ) (n c from to : ℕ) (a b : Counts) → c < n → ((k : ℕ) → k ≢ c → new k ≡ old k) → old c ≡ from → new c ≡ to → AreCounted old n a → Changes a from to b → AreCounted new n b
counted_set old new n c from to a b lt others was is p q = record {
  alone = one_set old new n c from to 0 a.alone b.alone lt others was is p.alone q.alone;
  back = one_set old new n c from to 3 a.back b.back lt others was is p.back q.back;
  halves = one_set old new n c from to 2 a.split b.split lt others was is p.halves q.halves;
}

same_count : (old new : ℕ → ℕ) (n c state : ℕ) → n ≤ c → ((k : ℕ) → k ≢ c → new k ≡ old k) → count_of new n state ≡ count_of old n state
same_count old new n c state past others = count_same (λ (k : ℕ). eqb (old k) state) (λ (k : ℕ). eqb (new k) state) n (λ k lt. ap (λ (j : ℕ). eqb j state) (others k (λ e. omega (arith, lt, past, e))))

-- one behind them has
pub counted_past : (old new : ℕ → ℕ) (n c : ℕ) (a : Counts) → n ≤ c → ((k : ℕ) → k ≢ c → new k ≡ old k) → AreCounted old n a → AreCounted new n a
counted_past old new n c a past others p = record {
  alone = p.alone ∙ sym (same_count old new n c 0 past others);
  back = p.back ∙ sym (same_count old new n c 3 past others);
  halves = p.halves ∙ sym (same_count old new n c 2 past others);
}

-- of chunks of which none is counted in a state none is in it
pub none_in : (states : ℕ → ℕ) (n c state : ℕ) → c < n → 0 ≡ count_of states n state → states c ≢ state
none_in states n c state lt none is = omega (arith, one_in states n c state 0 lt is none)
