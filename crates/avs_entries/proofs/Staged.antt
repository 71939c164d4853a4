-- A block of entries is staged, and blocks behind it.
use Rattle.std.proofs.Common.{◌≡◌, ◌≢◌, ◌⊎◌, inl, inr, ℕ, ◌+◌, ◌*◌, ◌/◌, ◌%◌, ◌<◌, ◌≤◌, List, [], length, set, take, drop, Result, ◌∙◌, ap, arith}
use Rattle.std.proofs.lemmas.Bool.{cases_lt}
use Rattle.std.proofs.lemmas.Grind.{get_or-set_at}
use Rattle.std.proofs.lemmas.List.{get_or-set_other}
use Rattle.std.proofs.lemmas.Result.{on_ok_weaker}
use Rattle.avs_seg.specs.Image.{Image, Block, block_at}
use Rattle.avs_seg.proofs.Ranges.{length-range}
use Rattle.avs_dev.specs.Memory.{counted}
use Rattle.avs_flip.specs.Areas.{Areas, staged}
use Rattle.avs_flip.specs.Changes.{Stages}
use Rattle.avs_entries.specs.Entries.{entry_in, entry_on}
use Rattle.avs_entries.specs.Staging.{AreSetTo, StagesNext}
use Rattle.avs_entries.proofs.EntryBytes.{entry_of_block}

length-staged : (a : Areas) → length (staged a) ≡ a.len
unfolding staged
length-staged a = length-range _ _ _

-- ---- one block

module _ (old new : Areas) (next block : List ℕ) (at : ℕ) (inside : at < old.len) (first : old.first ≡ 1) (one : length block ≡ 512) (is : block ≡ take 512 (drop (512 * at) next)) where
  sets : staged new ≡ set (staged old) at block → AreSetTo (entry_on (staged old)) (entry_on (staged new)) (entry_in next) (128 * at) (128 * (at + 1))
  unfolding entry_on
  sets done = record {
    inside = λ c low high.
        let here : c / 128 ≡ at = omega (arith, low, high) in
        ap (λ (l : Image). entry_in (block_at l (c / 128)) (c % 128)) done
        ∙ ap (λ (b : Block). entry_in b (c % 128)) (get_or-set_at (staged old) at (c / 128) block [] here (omega (arith, inside, length-staged old)) ∙ is)
        ∙ entry_of_block next at c here;
    outside = λ c out.
        ap (λ (l : Image). entry_in (block_at l (c / 128)) (c % 128)) done
        ∙ ap (λ (b : Block). entry_in b (c % 128)) (get_or-set_other (staged old) at (c / 128) block [] (apart c out));
  }
    where
      apart : (c : ℕ) → (c < 128 * at) ⊎ (128 * (at + 1) ≤ c) → c / 128 ≢ at
      apart c (inl low) e = omega (arith, low, e)
      apart c (inr high) e = omega (arith, high, e)

  pub stages_next : {T E : Type 0} (q : Result T E) → Stages old at block q new → StagesNext old next at q new
  stages_next q p = record {
    place = p.place;
    goes = p.writes.goes;
    kept = λ told. record { label = (p.within told).outside 0 (inl (omega (arith, first))); live = p.kept told };
    staged = λ told. on_ok_weaker q sets (p.sets told).done;
    counted = on_ok_weaker q (λ n. n ∙ ap (λ (k : ℕ). counted old.disk.written (k / 512)) one) p.writes.counted;
    uncounted = p.writes.uncounted;
  }

-- ---- one behind another

pub set_more : (a b d to to' : ℕ → ℕ) (first n k : ℕ) → ((c : ℕ) → 128 * (first + n) ≤ c → c < 128 * (first + n + k) → to' c ≡ to c) → AreSetTo a b to (128 * first) (128 * (first + n)) → AreSetTo b d to' (128 * (first + n)) (128 * (first + n + k))
    → AreSetTo a d to (128 * first) (128 * (first + (n + k)))
set_more a b d to to' first n k same p q = record {
  inside = λ c low high. elim (cases_lt c (128 * (first + n))) [
    | inl below ↦ q.outside c (inl below) ∙ p.inside c low below
    | inr from ↦ q.inside c from (omega (arith, high)) ∙ same c from (omega (arith, high))
  ];
  outside = λ c out. q.outside c (past c out) ∙ p.outside c (before c out);
}
  where
    past : (c : ℕ) → (c < 128 * first) ⊎ (128 * (first + (n + k)) ≤ c) → (c < 128 * (first + n)) ⊎ (128 * (first + n + k) ≤ c)
    past c (inl low) = inl (omega (arith, low))
    past c (inr high) = inr (omega (arith, high))

    before : (c : ℕ) → (c < 128 * first) ⊎ (128 * (first + (n + k)) ≤ c) → (c < 128 * first) ⊎ (128 * (first + n) ≤ c)
    before c (inl low) = inl low
    before c (inr high) = inr (omega (arith, high))
