-- How many chunks of a set in chunks are in a list.
use Rattle.std.proofs.Common.{◌≡◌, ℕ, zero, suc, ◌+◌, ◌<◌, ◌≤◌, Bool, true, false, cond, eqb, ◌&&◌, nat_lt, length, filter, ◌∙◌, sym, refl, ap, arith}
use Rattle.std.specs.List.{range_with_len}
use Rattle.std.proofs.lemmas.Bool.Decides.{nat_tests}
use Rattle.avs_model.specs.ShadowSets.{chunks_in}
use Rattle.avs_model.specs.declared.shadow.Kind.{Kind}
use Rattle.avs_model.specs.declared.shadow.Kind.TheVariants.{Ind, Dep, Compact}
use Rattle.avs_seg.specs.Segment.{seg_count}
use Rattle.avs_chunks.specs.ChunkSet.{ChunkSet, state_of}
use Rattle.avs_chunks.specs.Copying.{count_in, left_by}
use Rattle.avs_chunks.proofs.Counts.{count_more}
use Rattle.avs_sets.specs.Meaning.{lists_by}

there : (c n : ℕ) → c < n → nat_lt c n ≡ true
there c n lt = grind (arith, nat_tests)

-- of the first numbers as many pass a test as pass it and are below an end
within : (p : ℕ → Bool) (n k : ℕ) → k ≤ n → length (filter (λ c. nat_lt c n && p c) (range_with_len 0 k)) ≡ length (filter p (range_with_len 0 k))
within p n zero le = refl
within p n (suc k) le =
    let next : suc k ≡ k + 1 = omega arith in
    ap (λ (j : ℕ). length (filter (λ c. nat_lt c n && p c) (range_with_len 0 j))) next
    ∙ count_more (λ c. nat_lt c n && p c) k
    ∙ ap (λ (x : ℕ). x + cond (nat_lt k n && p k) 1 0) (within p n k (omega (arith, le)))
    ∙ ap (λ (b : Bool). length (filter p (range_with_len 0 k)) + cond (b && p k) 1 0) (there k n (omega (arith, le)))
    ∙ sym (count_more p k)
    ∙ ap (λ (j : ℕ). length (filter p (range_with_len 0 j))) (sym next)

-- none passes a test that gives false
none_pass : (k : ℕ) → length (filter (λ (c : ℕ). false) (range_with_len 0 k)) ≡ 0
none_pass zero = refl
none_pass (suc k) =
    let next : suc k ≡ k + 1 = omega arith in
    ap (λ (j : ℕ). length (filter (λ (c : ℕ). false) (range_with_len 0 j))) next ∙ count_more (λ c. false) k ∙ ap (λ (x : ℕ). x + 0) (none_pass k)

pub count_is : (s : ChunkSet) (state : ℕ) → chunks_in s.blocks (λ c. nat_lt c (seg_count s.blocks) && eqb (state_of s c) state) ≡ count_in state s
count_is s state = within (λ c. eqb (state_of s c) state) (seg_count s.blocks) (seg_count s.blocks) (omega arith)

pub left_is : (s : ChunkSet) (kind : Kind) → chunks_in s.blocks (lists_by kind s.blocks (state_of s) false).left ≡ left_by kind s
left_is s Ind = count_is s 0
left_is s Dep = none_pass (seg_count s.blocks)
left_is s Compact = none_pass (seg_count s.blocks)
