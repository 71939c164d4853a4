-- Changes of which a part was made.
use Rattle.std.proofs.Common.{◌≡◌, ◌⊎◌, inl, inr, ℕ, ◌+◌, ◌-◌, ◌*◌, ◌<◌, ◌≤◌, min, Bool, true, false, Result, Ok, Err, OnOk, OnErr, refl, ◌∙◌, arith}
use Rattle.std.proofs.lemmas.Bool.{cases_lt, cases_Bool}
use Rattle.std.proofs.lemmas.Bool.Decides.{nat_tests}
use Rattle.avs_seg.specs.Image.{Image, is_inside}
use Rattle.avs_dev.specs.Seen.{IsTold}
use Rattle.avs_bits.specs.Bit.{IsPut, IsPart}
use Rattle.avs_bits.specs.BitSet.{BitSet, set_of, IsOnDisk, IsInStep, IsChangedOnDisk, StopsIn, HoldsPart}

inside_is : (first n p : ℕ) → is_inside first n p ≡ true → (first ≤ p) × (p < first + n)
inside_is first n p is = (grind (arith, nat_tests), grind (arith, nat_tests))

outside_is : (first n p : ℕ) → is_inside first n p ≡ false → (p < first) ⊎ (first + n ≤ p)
outside_is first n p is = grind (arith, nat_tests)

-- a change up to some place
pub put_part : (old new : ℕ → Bool) (first n stop : ℕ) (on : Bool) → stop ≤ first + n → IsPut old new first stop on → IsPart (is_inside first n) on old new
put_part old new first n stop on low put = record {
  inside = λ p is. elim (cases_lt p stop) [
    | inl within ↦ inr (put.inside p (inside_is first n p is).0 within)
    | inr behind ↦ inl (put.outside p (inr behind))
  ];
  outside = λ p is. elim (outside_is first n p is) [
    | inl before ↦ put.outside p (inl before)
    | inr behind ↦ put.outside p (inr (omega arith))
  ];
}

-- at both exits
module _ (old new : BitSet) (first n end : ℕ) (on : Bool) (low : end ≤ first + n) where
  pub memory_part : {T E : Type 0} (result : Result T E) → OnOk result (IsPut (set_of old) (set_of new) first end on) → OnErr result (StopsIn old first end on new) → IsPart (is_inside first n) on (set_of old) (set_of new)
  memory_part (Ok x) put stop = put_part (set_of old) (set_of new) first n end on low put
  memory_part (Err e) put stop = put_part (set_of old) (set_of new) first n (min (4096 * (stop.block + 1)) end) on (omega (arith, low)) stop.set

  module _ (segs : new.segs ≡ old.segs) (memory : IsPart (is_inside first n) on (set_of old) (set_of new)) where
    in_memory : IsInStep new → HoldsPart (is_inside first n) on (set_of old) new.disk.image old.segs
    in_memory step = record { set = set_of new; part = memory; held = record { each = λ s lt. step.each s (omega (arith, lt, segs)) } }

    on_disk : (stop : ℕ) → stop ≤ first + n → IsChangedOnDisk (set_of old) first stop on new.disk.image old.segs ⊎ IsInStep new → HoldsPart (is_inside first n) on (set_of old) new.disk.image old.segs
    on_disk stop before (inl changed) = record { set = changed.set; part = put_part (set_of old) changed.set first n stop on before changed.put; held = changed.held }
    on_disk stop before (inr step) = in_memory step

    pub disk_part : {T E : Type 0} (result : Result T E) → OnOk result (IsInStep new) → OnErr result (StopsIn old first end on new) → IsTold old.disk → IsInStep old → HoldsPart (is_inside first n) on (set_of old) new.disk.image old.segs
    disk_part (Ok x) step stop told was = in_memory step
    disk_part (Err e) step stop told was = on_disk (min (4096 * stop.block) end) (omega (arith, low)) (stop.disk told was)

-- ---- parts of parts

pub part_same : (keys : ℕ → Bool) (on : Bool) (a : ℕ → Bool) → IsPart keys on a a
part_same keys on a = record { inside = λ p is. inl refl; outside = λ p is. refl }

pub part_then : (keys : ℕ → Bool) (on : Bool) (a b c : ℕ → Bool) → IsPart keys on a b → IsPart keys on b c → IsPart keys on a c
part_then keys on a b c first second = record {
  inside = λ p is. elim (second.inside p is) [
    | inl kept ↦ elim (first.inside p is) [ inl same ↦ inl (kept ∙ same) | inr made ↦ inr (kept ∙ made) ]
    | inr made ↦ inr made
  ];
  outside = λ p is. second.outside p is ∙ first.outside p is;
}

pub part_wider : (keys more : ℕ → Bool) (on : Bool) (a b : ℕ → Bool) → ((p : ℕ) → keys p ≡ true → more p ≡ true) → IsPart keys on a b → IsPart more on a b
part_wider keys more on a b wider part = record {
  inside = λ p is. elim (cases_Bool (keys p)) [ inl in_keys ↦ part.inside p in_keys | inr out ↦ inl (part.outside p out) ];
  outside = λ p is. elim (cases_Bool (keys p)) [ inl in_keys ↦ absurd (both (more p) (wider p in_keys) is) | inr out ↦ part.outside p out ];
}
  where
    both : (b : Bool) → b ≡ true → b ≡ false → ⊥
    both b is other = cc

pub held_then : (keys : ℕ → Bool) (on : Bool) (a b : ℕ → Bool) (img : Image) (segs : ℕ) → IsPart keys on a b → HoldsPart keys on b img segs → HoldsPart keys on a img segs
held_then keys on a b img segs part held = record { set = held.set; part = part_then keys on a b held.set part held.part; held = held.held }
