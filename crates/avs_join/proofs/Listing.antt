-- The segments of a set, rising.
use Rattle.std.proofs.Common.{◌≡◌, ℕ, zero, suc, ◌+◌, ◌-◌, ◌<◌, ◌≤◌, Bool, true, false, cond, List, [], ◌∷◌, ◌++◌, filter, refl, sym, ◌∙◌, ap, subst, arith}
use Rattle.std.specs.List.{range_with_len}
use Rattle.std.proofs.lemmas.List.{map-id, append-nil}
use Rattle.std.proofs.lemmas.List.FromFn.{filter_of_map_range_with_len_more}
use Rattle.avs_seg.specs.Segment.{seg_count}
use Rattle.avs_bits.specs.BitSet.{set_of, IsOnDisk}
use Rattle.avs_join.specs.Imported.{ImportDisks, import_of, listed, segments_on, IsKnown}
use Rattle.avs_join.proofs.Marks.{on_disk}

module _ (p : ℕ → Bool) where
  -- those below n
  abbrev pub below : ℕ → List ℕ
  below n = filter p (range_with_len 0 n)

  one_more : (n : ℕ) → below (n + 1) ≡ below n ++ cond (p n) (n ∷ []) []
  one_more n =
      ap (filter p) (sym (map-id (range_with_len 0 (n + 1))))
      ∙ filter_of_map_range_with_len_more p (λ k. k) 0 n n (omega arith)
      ∙ ap (λ (l : List ℕ). filter p l ++ cond (p n) (n ∷ []) []) (map-id (range_with_len 0 n))

  -- one that is none of them
  pub skips : (n : ℕ) → p n ≡ false → below (n + 1) ≡ below n
  skips n out = one_more n ∙ ap (λ (b : Bool). below n ++ cond b (n ∷ []) []) out ∙ append-nil (below n)

  skips_all : (n k : ℕ) → ((q : ℕ) → n ≤ q → q < n + k → p q ≡ false) → below (n + k) ≡ below n
  skips_all n zero none = let same : n + 0 ≡ n = omega arith in ap below same
  skips_all n (suc k) none =
      let next : n + suc k ≡ n + k + 1 = omega arith in
      ap below next ∙ skips (n + k) (none (n + k) (omega arith) (omega arith)) ∙ skips_all n k (λ q low high. none q low (omega arith))

  -- none is, from one up to another
  pub none_between : (n m : ℕ) → n ≤ m → ((q : ℕ) → n ≤ q → q < m → p q ≡ false) → below m ≡ below n
  none_between n m le none =
      let is : m ≡ n + (m - n) = omega arith in
      ap below is ∙ skips_all n (m - n) (λ q low high. none q low (omega arith))

  -- the next that is
  pub takes : (n m : ℕ) → n ≤ m → ((q : ℕ) → n ≤ q → q < m → p q ≡ false) → p m ≡ true → below (m + 1) ≡ below n ++ m ∷ []
  takes n m le none is = one_more m ∙ ap (λ (b : Bool). below m ++ cond b (m ∷ []) []) is ∙ ap (λ (l : List ℕ). l ++ m ∷ []) (none_between n m le none)

-- a test that agrees below n
pub same_below : (p q : ℕ → Bool) (a n : ℕ) → ((s : ℕ) → s < a + n → p s ≡ q s) → filter p (range_with_len a n) ≡ filter q (range_with_len a n)
same_below p q a zero same = refl
same_below p q a (suc n) same =
    ap (λ (b : Bool). cond b (a ∷ filter p (range_with_len (a + 1) n)) (filter p (range_with_len (a + 1) n))) (same a (omega arith))
    ∙ ap (λ (l : List ℕ). cond (q a) (a ∷ l) l) (same_below p q (a + 1) n (λ s lt. same s (omega arith)))

-- of an import in step those on the disk
pub listed_known : (i : ImportDisks) → i.bits.segs ≡ seg_count i.volume.size → IsKnown i → listed i ≡ filter (import_of i).segments (range_with_len 0 i.bits.segs)
listed_known i segs known = same_below (set_of i.bits) (segments_on i.volume.size i.bits.disk.image) 0 i.bits.segs (λ s lt.
    sym (on_disk i.volume.size i.bits.disk.image (set_of i.bits) (subst (λ (n : ℕ). IsOnDisk i.bits.disk.image n (set_of i.bits)) segs known.step) s (omega (arith, lt, segs))))
