-- States are staged part by part.
use Rattle.std.proofs.Common.{◌≡◌, ◌≢◌, ◌⊎◌, inl, inr, ℕ, ◌+◌, ◌*◌, ◌/◌, ◌%◌, ◌<◌, ◌≤◌, List, [], length, set, take, drop, Result, Ok, Err, ◌∙◌, sym, refl, ap, subst, arith}
use Rattle.std.proofs.lemmas.Bool.{cases_lt}
use Rattle.std.proofs.lemmas.Grind.{get_or-set_at}
use Rattle.std.proofs.lemmas.List.{get_or-set_other}
use Rattle.std.proofs.lemmas.Result.{on_ok_weaker, on_err_weaker}
use Rattle.avs_seg.specs.declared.fault.Failed.{Failed}
use Rattle.avs_seg.specs.Image.{Image, Block, block_at}
use Rattle.avs_seg.proofs.Exits.{ok_exit}
use Rattle.avs_seg.proofs.Ranges.{length-range}
use Rattle.avs_dev.specs.Seen.{IsTold}
use Rattle.avs_dev.specs.Memory.{counted}
use Rattle.avs_dev.proofs.Going.{goes_same, goes_then}
use Rattle.avs_flip.specs.Areas.{Areas, staged}
use Rattle.avs_flip.specs.Changes.{Stages}
use Rattle.avs_chunks.specs.States.{state_in, state_on}
use Rattle.avs_chunks.specs.ChunkSet.{ChunkSet, next_of, staged_state}
use Rattle.avs_chunks.specs.Disks.{raised}
use Rattle.avs_chunks.specs.Staging.{AreSetTo, KeepsLive, StagesNext, StagesParts}
use Rattle.avs_chunks.proofs.Quarters.{state_of_block}
use Rattle.avs_chunks.proofs.Going.{raised-then, raised_most}

length-staged : (a : Areas) → length (staged a) ≡ a.len
unfolding staged
length-staged a = length-range _ _ _

-- ---- one block

module _ (old new : Areas) (next block : List ℕ) (part : ℕ) (inside : part < old.len) (first : old.first ≡ 1) (one : length block ≡ 512) (is : block ≡ take 512 (drop (512 * part) next)) where
  sets : staged new ≡ set (staged old) part block → AreSetTo (state_on (staged old)) (state_on (staged new)) (state_in next) (2048 * part) (2048 * (part + 1))
  unfolding state_on
  sets done = record {
    inside = λ c low high.
        let here : c / 2048 ≡ part = omega (arith, low, high) in
        ap (λ (l : Image). state_in (block_at l (c / 2048)) (c % 2048)) done
        ∙ ap (λ (b : Block). state_in b (c % 2048)) (get_or-set_at (staged old) part (c / 2048) block [] here (omega (arith, inside, length-staged old)) ∙ is)
        ∙ state_of_block next part c here;
    outside = λ c out.
        ap (λ (l : Image). state_in (block_at l (c / 2048)) (c % 2048)) done
        ∙ ap (λ (b : Block). state_in b (c % 2048)) (get_or-set_other (staged old) part (c / 2048) block [] (apart c out));
  }
    where
      apart : (c : ℕ) → (c < 2048 * part) ⊎ (2048 * (part + 1) ≤ c) → c / 2048 ≢ part
      apart c (inl low) e = omega (arith, low, e)
      apart c (inr high) e = omega (arith, high, e)

  pub stages_next : {T E : Type 0} (q : Result T E) → Stages old part block q new → StagesNext old next part q new
  stages_next q p = record {
    place = p.place;
    goes = p.writes.goes;
    kept = λ told. record { label = (p.within told).outside 0 (inl (omega (arith, first))); live = p.kept told };
    staged = λ told. on_ok_weaker q sets (p.sets told).done;
    counted = on_ok_weaker q (λ n. n ∙ ap (λ (k : ℕ). counted old.disk.written (k / 512)) one) p.writes.counted;
    uncounted = p.writes.uncounted;
  }

-- ---- one part

pub stages_one : {T E : Type 0} (s : ChunkSet) (to : ℕ → ℕ) (a' : Areas) (N : List ℕ) (part : ℕ) (r : Result T E) → AreSetTo (next_of s) (state_in N) to (2048 * part) (2048 * (part + 1)) → StagesNext s.areas N part r a' → StagesParts s to part 1 r (record s { areas = a'; next = N })
stages_one s to a' N part r filled p = record {
  is = ap (λ (a : Areas). record s { areas = a; next = N }) p.place;
  goes = p.goes;
  kept = p.kept;
  staged = λ told. on_ok_weaker r (λ st. record { inside = λ c low high. st.inside c low high ∙ filled.inside c low high; outside = st.outside }) (p.staged told);
  held = ok_exit r filled;
  written = p.counted;
  most = on_err_weaker r (λ n. omega (arith, n)) p.uncounted;
}

-- ---- part by part

pub parts_none : (s : ChunkSet) (to : ℕ → ℕ) → StagesParts {T = Unit {0}} {E = Failed} s to 0 0 (Ok tt) s
parts_none s to = record {
  is = refl;
  goes = goes_same s.areas.disk tt;
  kept = λ told. record { label = refl; live = refl };
  staged = λ told. record { inside = λ c low high. absurd (omega (arith, high)); outside = λ c out. refl };
  held = record { inside = λ c low high. absurd (omega (arith, high)); outside = λ c out. refl };
  written = refl;
  most = tt;
}

set_more : (a b d to to' : ℕ → ℕ) (n : ℕ) → ((c : ℕ) → to' c ≡ to c) → AreSetTo a b to (2048 * 0) (2048 * (0 + n)) → AreSetTo b d to' (2048 * n) (2048 * (n + 1)) → AreSetTo a d to (2048 * 0) (2048 * (0 + (n + 1)))
set_more a b d to to' n same p q = record {
  inside = λ c low high. elim (cases_lt c (2048 * n)) [
    | inl below ↦ q.outside c (inl below) ∙ p.inside c low (omega (arith, below))
    | inr from ↦ q.inside c from (omega (arith, high)) ∙ same c
  ];
  outside = λ c out. q.outside c (inr (past c out)) ∙ p.outside c (inr (before c out));
}
  where
    past : (c : ℕ) → (c < 2048 * 0) ⊎ (2048 * (0 + (n + 1)) ≤ c) → 2048 * (n + 1) ≤ c
    past c (inl low) = absurd (omega (arith, low))
    past c (inr high) = omega (arith, high)

    before : (c : ℕ) → (c < 2048 * 0) ⊎ (2048 * (0 + (n + 1)) ≤ c) → 2048 * (0 + n) ≤ c
    before c (inl low) = absurd (omega (arith, low))
    before c (inr high) = omega (arith, high)

module _ (s now new : ChunkSet) (to to' : ℕ → ℕ) (n : ℕ) (same : (c : ℕ) → to' c ≡ to c) (so : StagesParts {T = Unit {0}} {E = Failed} s to 0 n (Ok tt) now) where
  is_then : {T E : Type 0} (r : Result T E) → StagesParts now to' n 1 r new → new ≡ record s { areas = record s.areas { disk = new.areas.disk }; next = new.next }
  is_then r p = p.is ∙ ap (λ (x : ChunkSet). record x { areas = record x.areas { disk = new.areas.disk }; next = new.next }) so.is

  kept_then : {T E : Type 0} (r : Result T E) → StagesParts now to' n 1 r new → IsTold s.areas.disk → KeepsLive s.areas new.areas
  kept_then r p told =
      let a = so.kept told in
      let b = p.kept (so.goes.lasts.told told) in
      record { label = b.label ∙ a.label; live = b.live ∙ a.live }

  pub parts_more : (q : Result (Unit {0}) Failed) → q ≡ Ok tt → StagesParts now to' n 1 q new → StagesParts {T = Unit {0}} {E = Failed} s to 0 (n + 1) (Ok tt) new
  parts_more q is one =
      let p = subst (λ (r : Result (Unit {0}) Failed). StagesParts now to' n 1 r new) is one in
      record {
        is = is_then (Ok tt) p;
        goes = goes_then s.areas.disk now.areas.disk new.areas.disk tt (Ok tt) so.goes p.goes;
        kept = kept_then (Ok tt) p;
        staged = λ told. set_more (staged_state s) (staged_state now) (staged_state new) to to' n same (so.staged told) (p.staged (so.goes.lasts.told told));
        held = set_more (next_of s) (next_of now) (next_of new) to to' n same so.held p.held;
        written = p.written ∙ ap (λ (k : ℕ). raised k 1) so.written ∙ raised-then s.areas.disk.written n 1;
        most = tt;
      }

  pub parts_fail : (m : ℕ) (e : Failed) (q : Result (Unit {0}) Failed) → n < m → q ≡ Err e → StagesParts now to' n 1 q new → StagesParts {T = Unit {0}} s to 0 m (Err e) new
  parts_fail m e q lt is one =
      let p = subst (λ (r : Result (Unit {0}) Failed). StagesParts now to' n 1 r new) is one in
      record {
        is = is_then (Err e) p;
        goes = goes_then s.areas.disk now.areas.disk new.areas.disk tt (Err e) so.goes p.goes;
        kept = kept_then (Err e) p;
        staged = λ told. tt;
        held = tt;
        written = tt;
        most = (let most : now.areas.disk.written ≤ s.areas.disk.written + n = subst (λ (k : ℕ). k ≤ s.areas.disk.written + n) (sym so.written) (raised_most s.areas.disk.written n) in omega (arith, most, p.most, lt));
      }
