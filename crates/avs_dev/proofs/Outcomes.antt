-- What a write leaves of a disk in memory, as a write of a disk.
use Rattle.std.proofs.Common.{◌≡◌, ◌≢◌, inl, inr, ℕ, ◌<◌, ◌≤◌, not, eqb, IsTrue, List, Option, Some, None, is_some, false, length, Ok, Err, refl, sym, ◌∙◌, ap, subst, arith}
use Rattle.std.specs.List.{range_with_len}
use Rattle.std.proofs.lemmas.Bool.{cases_Bool, eqb-true, eqb-false}
use Rattle.avs_seg.specs.Image.{put, blocks_of, IsMix, ChangesWithin}
use Rattle.avs_seg.proofs.Bytes.{length-blocks_of}
use Rattle.avs_seg.proofs.Puts.{length-put}
use Rattle.avs_seg.proofs.Kept.{IsMix-mix}
use Rattle.avs_seg.proofs.Changes.{ChangesWithin-put, ChangesWithin-mix}
use Rattle.avs_dev.specs.Seen.{Writes, UsesTear, ComesNearer, IsDue}
use Rattle.avs_dev.specs.declared.disk.Tear.{Tear}
use Rattle.avs_dev.specs.Memory.{MemState, seen_of, called, due, left_armed, torn_image, nearer, stored, counted}

-- a tear that is due was armed, and none is left
uses_due : (armed : Option Tear) (tear : Tear) → due armed ≡ Some tear → IsTrue (is_some armed)
uses_due None tear is = cc
uses_due (Some t) tear is = refl

none_left : (armed : Option Tear) (tear : Tear) → due armed ≡ Some tear → IsTrue (not (is_some (left_armed armed)))
none_left None tear is = refl
none_left (Some t) tear is = elim (cases_Bool (eqb t.skip 0)) [
  | inl zero_left ↦ rw zero_left refl
  | inr more ↦ absurd (apart (rw more at is))
]
  where
    apart : None ≡ Some tear → ⊥
    apart is = cc

-- one that is not due stays armed
still_armed : (armed : Option Tear) → due armed ≡ None → is_some (left_armed armed) ≡ is_some armed
still_armed None is = refl
still_armed (Some t) is = elim (cases_Bool (eqb t.skip 0)) [
  | inl zero_left ↦ absurd (apart (rw zero_left at is))
  | inr more ↦ rw more refl
]
  where
    apart : Some t ≡ None → ⊥
    apart is = cc

-- it comes nearer, since it skips further writes
comes_nearer : (armed : Option Tear) → due armed ≡ None → ComesNearer armed (left_armed armed)
comes_nearer None is = refl
comes_nearer (Some t) is = elim (cases_Bool (eqb t.skip 0)) [
  | inl zero_left ↦ absurd (apart (rw zero_left at is))
  | inr more ↦ rw more (positive more, refl)
]
  where
    apart : Some t ≡ None → ⊥
    apart is = cc

    positive : eqb t.skip 0 ≡ false → 0 < t.skip
    positive more = let apart : t.skip ≢ 0 = eqb-false t.skip 0 more in omega arith

-- one that is due skips no further write
is_due : (armed : Option Tear) (tear : Tear) → due armed ≡ Some tear → IsDue armed
is_due None tear is = absurd (apart is)
  where
    apart : None ≡ Some tear → ⊥
    apart is = cc
is_due (Some t) tear is = elim (cases_Bool (eqb t.skip 0)) [
  | inl zero_left ↦ eqb-true t.skip 0 zero_left
  | inr more ↦ absurd (apart (rw more at is))
]
  where
    apart : None ≡ Some tear → ⊥
    apart is = cc

-- a write that a tear lets fail
pub Writes-torn : {T E : Type 0} (d : MemState) (at : ℕ) (bytes : List ℕ) (tear : Tear) (e : E) → due d.tear ≡ Some tear → d.faults ≤ counted d.faults 1 → Writes {T = T} (seen_of d) at bytes (Err e) (seen_of (stored (Some tear) (nearer (called d)) at (blocks_of bytes)))
Writes-torn d at bytes tear e is later =
    let torn : IsMix d.image at (blocks_of bytes) (torn_image tear d.image at (blocks_of bytes)) = IsMix-mix d.image at (blocks_of bytes) (range_with_len tear.from tear.count) in
    let used : UsesTear (seen_of d) (seen_of (stored (Some tear) (nearer (called d)) at (blocks_of bytes))) = record { was_armed = uses_due d.tear tear is; is_used = none_left d.tear tear is } in
    record {
      size = refl;
      steady = refl;
      cause = record { later = later; failed = omega arith };
      done = λ told. tt;
      failed = λ told. torn;
      within = λ told. subst (λ (n : ℕ). ChangesWithin at n d.image (torn_image tear d.image at (blocks_of bytes))) (length-blocks_of bytes) (ChangesWithin-mix d.image at (blocks_of bytes) _ torn);
      told = λ told. torn.same_length ∙ told;
      tells = λ told. sym torn.same_length ∙ told;
      counted = tt;
      uncounted = refl;
      still_armed = tt;
      spent = λ steady. used;
      goes = record {
        lasts = record { size = refl; steady = refl; arms = refl; told = λ told. torn.same_length ∙ told; faults = later; written = omega arith };
        done = tt;
        failed = record { rose = omega arith; spent = λ steady. used };
      };
      tear = record { done = tt; failed = λ steady. is_due d.tear tear is };
    }

-- a write that is done
pub Writes-done : {T E : Type 0} (d : MemState) (at : ℕ) (bytes : List ℕ) (x : T) → due d.tear ≡ None → d.written ≤ counted d.written (length (blocks_of bytes)) → Writes {E = E} (seen_of d) at bytes (Ok x) (seen_of (stored None (nearer (called d)) at (blocks_of bytes)))
Writes-done d at bytes x is later = record {
  size = refl;
  steady = refl;
  cause = record { later = omega arith; failed = tt };
  done = λ told. refl;
  failed = λ told. tt;
  within = λ told. subst (λ (n : ℕ). ChangesWithin at n d.image (put d.image at (blocks_of bytes))) (length-blocks_of bytes) (ChangesWithin-put d.image at (blocks_of bytes));
  told = λ told. length-put d.image at (blocks_of bytes) ∙ told;
  tells = λ told. sym (length-put d.image at (blocks_of bytes)) ∙ told;
  counted = ap (λ (n : ℕ). counted d.written n) (length-blocks_of bytes);
  uncounted = tt;
  still_armed = still_armed d.tear is;
  spent = λ steady. tt;
  goes = record {
    lasts = record { size = refl; steady = refl; arms = refl; told = λ told. length-put d.image at (blocks_of bytes) ∙ told; faults = omega arith; written = later };
    done = record { faults = refl; armed = still_armed d.tear is };
    failed = tt;
  };
  tear = record { done = comes_nearer d.tear is; failed = λ steady. tt };
}

-- ---- a write in three steps: the call is counted, the armed tear comes nearer, and blocks are stored

module _ (d one two new : MemState) (at : ℕ) (bytes : List ℕ) (first : one ≡ called d) (second : two ≡ nearer one) where
  stored_after : (tear : Option Tear) → new ≡ stored tear two at (blocks_of bytes) → new ≡ stored tear (nearer (called d)) at (blocks_of bytes)
  stored_after tear third = third ∙ ap (λ (s : MemState). stored tear s at (blocks_of bytes)) (second ∙ ap (λ (s : MemState). nearer s) first)

  same_due : due one.tear ≡ due d.tear
  same_due = ap (λ (s : MemState). due s.tear) first

  pub Writes-torn_after : {T E : Type 0} (tear : Tear) (e : E) → due one.tear ≡ Some tear → two.faults ≤ new.faults → new ≡ stored (Some tear) two at (blocks_of bytes) → Writes {T = T} (seen_of d) at bytes (Err e) (seen_of new)
  Writes-torn_after {T} {E} tear e is later third =
      let after = stored_after (Some tear) third in
      let same : two.faults ≡ d.faults = ap (λ (s : MemState). s.faults) (second ∙ ap (λ (s : MemState). nearer s) first) in
      let raised : new.faults ≡ counted d.faults 1 = ap (λ (s : MemState). s.faults) after in
      subst (λ (s : MemState). Writes {T = T} {E = E} (seen_of d) at bytes (Err e) (seen_of s)) (sym after) (Writes-torn d at bytes tear e (sym same_due ∙ is) (omega arith))

  pub Writes-done_after : {T E : Type 0} (x : T) → due one.tear ≡ None → two.written ≤ new.written → new ≡ stored None two at (blocks_of bytes) → Writes {E = E} (seen_of d) at bytes (Ok x) (seen_of new)
  Writes-done_after {T} {E} x is later third =
      let after = stored_after None third in
      let same : two.written ≡ d.written = ap (λ (s : MemState). s.written) (second ∙ ap (λ (s : MemState). nearer s) first) in
      let raised : new.written ≡ counted d.written (length (blocks_of bytes)) = ap (λ (s : MemState). s.written) after in
      subst (λ (s : MemState). Writes {T = T} {E = E} (seen_of d) at bytes (Ok x) (seen_of s)) (sym after) (Writes-done d at bytes x (sym same_due ∙ is) (omega arith))
