-- What is due, as the order grows and segments are freed.
use Rattle.std.proofs.Common.{◌≡◌, ◌⊎◌, inl, inr, ℕ, ◌+◌, ◌-◌, ◌<◌, ◌≤◌, Bool, true, false, ◌&&◌, nat_eq, cond, List, [], ◌∷◌, ◌++◌, length, Option, None, Some, is_some, slice_get, ◌∙◌, sym, ap, subst, arith}
use Rattle.std.proofs.lemmas.Bool.Decides.{nat_tests}
use Rattle.std.proofs.lemmas.Bool.{cases_Bool}
use Rattle.std.proofs.lemmas.List.{length_push}
use Rattle.std.proofs.lemmas.Option.{slice_get_within, same_Some}
use Rattle.avs_model.specs.declared.entry.Entry.{Entry}
use Rattle.avs_mirrors.specs.Allowed.{IsLast}
use Rattle.avs_mirrors.specs.Due.{Due, Segments, both_due, copied_due, freed_due, has, noted, nothing_due, placed_due, placed_one, set_due, zero_of, zeros}
use Rattle.avs_mirrors.specs.Entries.{a_mark, touches}
use Rattle.avs_pair.specs.Cover.{HasNoPlaces}
use Rattle.avs_pair.proofs.Sound.{IsFreed, IsPending}
use Rattle.avs_pair.proofs.Orders.{slice_get_end, slice_get_push}

-- all that is in one is in the other
pub record IsWithin (due more : Due) : Type 0 where
  pub each : (set seg : ℕ) → has more set seg ≡ false → has due set seg ≡ false

pub same_within : (due : Due) → IsWithin due due
same_within due = record { each = λ t g none. none }

pub noted_within : (due : Due) (keys : ℕ → ℕ → Bool) → IsWithin due (noted due keys)
noted_within due keys = record { each = λ t g none. grind arith }

pub zeros_within : (due : Due) → IsWithin due (zeros due)
zeros_within due = record { each = λ t g none. grind arith }

pub both_within_left : (a b : Due) → IsWithin a (both_due a b)
both_within_left a b = record { each = λ t g none. grind arith }

pub both_within_right : (a b : Due) → IsWithin b (both_due a b)
both_within_right a b = record { each = λ t g none. grind arith }

pub placed_within : (due : Due) (copying : Bool) (e : Entry) (place : ℕ) → IsWithin due (placed_due due copying e place)
placed_within due copying e place = record { each = λ t g none. grind arith }

pub copied_within : (due : Due) (set seg place : ℕ) → IsWithin due (copied_due due set seg place)
copied_within due set seg place = record { each = λ t g none. grind arith }

pub placed_touched : (due : Due) (copying : Bool) (e : Entry) (place t g : ℕ) → has (placed_due due copying e place) t g ≡ false → touches e t g ≡ false
placed_touched due copying e place t g none = grind arith

-- ---- maps without places

pub none_in_nothing : HasNoPlaces nothing_due
none_in_nothing = record { each = λ t g place is. absurd (cc) }

pub none_in_zeros : (due : Due) → HasNoPlaces (zeros due)
none_in_zeros due = record { each = λ t g place is. one (due t g) place is }
  where
    one : (o : Option ℕ) (place : ℕ) → zero_of o ≡ Some place → place ≡ 0
    one None place is = absurd (cc)
    one (Some k) place is = grind arith

pub none_in_both : (a b : Due) → HasNoPlaces (both_due a b)
none_in_both a b = record { each = λ t g place is. one (is_some (a t g)) (b t g) place is }
  where
    one : (c : Bool) (o : Option ℕ) (place : ℕ) → cond c (Some 0) (zero_of o) ≡ Some place → place ≡ 0
    one true o place is = grind arith
    one false None place is = absurd (cc)
    one false (Some k) place is = grind arith

pub none_in_noted : (due : Due) (keys : ℕ → ℕ → Bool) → HasNoPlaces due → HasNoPlaces (noted due keys)
none_in_noted due keys n = record { each = λ t g place is. one (due t g) (keys t g) place (n.each t g) is }
  where
    one : (o : Option ℕ) (key : Bool) (place : ℕ) → ((k : ℕ) → o ≡ Some k → k ≡ 0) → cond (is_some o) o (cond key (Some 0) None) ≡ Some place → place ≡ 0
    one (Some k) key place none is = none place is
    one None true place none is = grind arith
    one None false place none is = absurd (cc)

pub none_in_set : (due : Due) (set : ℕ) (keys : Segments) → HasNoPlaces due → HasNoPlaces (set_due due set keys)
none_in_set due set keys n = record { each = λ t g place is. one (nat_eq t set) (keys g) (due t g) place (n.each t g) is }
  where
    one : (own key : Bool) (o : Option ℕ) (place : ℕ) → ((k : ℕ) → o ≡ Some k → k ≡ 0) → cond own (cond key (Some 0) None) o ≡ Some place → place ≡ 0
    one false key o place none is = none place is
    one true true o place none is = grind arith
    one true false o place none is = absurd (cc)

pub none_in_left : (is_gone : Bool) (due : Due) → HasNoPlaces due → HasNoPlaces (cond is_gone nothing_due due)
none_in_left true due n = none_in_nothing
none_in_left false due n = n

-- ---- entries behind a place

pub pending_more : (on : ℕ → Bool) (due more : Due) (order : List Entry) (n : ℕ) → IsWithin due more → IsPending on due order n → IsPending on more order n
pending_more on due more order n within p = record { each = λ j e t g here le is none. p.each j e t g here le is (within.each t g none) }

pub pending_next : (on : ℕ → Bool) (due : Due) (order : List Entry) (n m : ℕ) → n ≤ m → IsPending on due order n → IsPending on due order m
pending_next on due order n m le p = record { each = λ j e t g here low is none. p.each j e t g here (omega arith) is none }

pub pending_push : (on : ℕ → Bool) (due more : Due) (order : List Entry) (e : Entry) (n : ℕ) → IsWithin due more → ((t g : ℕ) → has more t g ≡ false → touches e t g ≡ false) → IsPending on due order n → IsPending on more (order ++ e ∷ []) n
pending_push on due more order e n within apart p = record {
  each = λ j f t g here le is none. elim (slice_get_push order e j f is) [
    | inl old ↦ p.each j f t g here le old (within.each t g none)
    | inr new ↦ subst (λ (x : Entry). touches x t g ≡ false) new.1 (apart t g none)
  ];
}

pub mark_apart : (t g : ℕ) → touches a_mark t g ≡ false
unfolding touches
mark_apart t g = grind (arith, nat_tests)

-- ---- the places that free segments

pub last_push : (order : List Entry) (e : Entry) (known t g place : ℕ) → touches e t g ≡ false → IsLast order known t g place → IsLast (order ++ e ∷ []) known t g place
last_push order e known t g place apart l = record {
  unknown = l.unknown;
  low = omega (arith, l.low, length_push order e);
  touched = λ f is. elim (slice_get_push order e (place - 1) f is) [
    | inl old ↦ l.touched f old
    | inr new ↦ absurd (omega (arith, new.0, l.low, l.unknown))
  ];
  last = λ j f le is. elim (slice_get_push order e j f is) [
    | inl old ↦ l.last j f le old
    | inr new ↦ subst (λ (x : Entry). touches x t g ≡ false) new.1 apart
  ];
}

pub last_new : (order : List Entry) (e : Entry) (known t g place : ℕ) → known ≤ length order → touches e t g ≡ true → place ≡ length order + 1 → IsLast (order ++ e ∷ []) known t g place
last_new order e known t g place le here is = record {
  unknown = omega arith;
  low = omega (arith, length_push order e);
  touched = λ f there. subst (λ (x : Entry). touches x t g ≡ true) (same_Some e f (sym (slice_get_end order e) ∙ ap (λ (k : ℕ). slice_get (order ++ e ∷ []) k) at ∙ there)) here;
  last = λ j f low there. absurd (omega (arith, slice_get_within (order ++ e ∷ []) j f there, length_push order e));
}
  where
    at : length order ≡ place - 1
    at = omega (arith, is)

pub freed_less : (due less : Due) (order : List Entry) (known : ℕ) → ((t g place : ℕ) → less t g ≡ Some place → 0 < place → due t g ≡ Some place) → IsFreed due order known → IsFreed less order known
freed_less due less order known sub f = record { each = λ t g place is some. f.each t g place (sub t g place is some) some }

pub freed_push : (due : Due) (order : List Entry) (known : ℕ) (e : Entry) → ((t g : ℕ) → touches e t g ≡ false) → IsFreed due order known → IsFreed due (order ++ e ∷ []) known
freed_push due order known e apart f = record { each = λ t g place is some. last_push order e known t g place (apart t g) (f.each t g place is some) }

-- a greater place is known, which frees none that is left
pub freed_known : (due : Due) (order : List Entry) (known more : ℕ) → ((t g place : ℕ) → due t g ≡ Some place → 0 < place → more < place) → IsFreed due order known → IsFreed due order more
freed_known due order known more above f = record { each = λ t g place is some. let l = f.each t g place is some in record { unknown = above t g place is some; low = l.low; touched = l.touched; last = l.last } }

placed_is : (copying : Bool) (old : Option ℕ) (new place : ℕ) → placed_one copying old new ≡ Some place → 0 < place → (place ≡ new)
placed_is copying None new place is some = grind arith
placed_is copying (Some k) new place is some = grind (arith, nat_tests)

pub freed_placed : (due : Due) (order : List Entry) (known : ℕ) (copying : Bool) (e : Entry) → known ≤ length order → IsFreed due order known → IsFreed (placed_due due copying e (length order + 1)) (order ++ e ∷ []) known
freed_placed due order known copying e le f = record { each = λ t g place is some. one t g place is some (cases_Bool (touches e t g)) }
  where
    one : (t g place : ℕ) → placed_due due copying e (length order + 1) t g ≡ Some place → 0 < place → (touches e t g ≡ true) ⊎ (touches e t g ≡ false) → IsLast (order ++ e ∷ []) known t g place
    one t g place is some (inl on) = last_new order e known t g place le on (placed_is copying (due t g) (length order + 1) place (subst (λ (b : Bool). cond b (placed_one copying (due t g) (length order + 1)) (due t g) ≡ Some place) on is) some)
    one t g place is some (inr off) = last_push order e known t g place off (f.each t g place (subst (λ (b : Bool). cond b (placed_one copying (due t g) (length order + 1)) (due t g) ≡ Some place) off is) some)

pub freed_copied : (due : Due) (order : List Entry) (known : ℕ) (e : Entry) (set seg : ℕ) → known ≤ length order → ((t g : ℕ) → (nat_eq t set && nat_eq g seg) ≡ true → touches e t g ≡ true) → ((t g : ℕ) → (nat_eq t set && nat_eq g seg) ≡ false → touches e t g ≡ false) → IsFreed due order known → IsFreed (copied_due due set seg (length order + 1)) (order ++ e ∷ []) known
freed_copied due order known e set seg le here apart f = record { each = λ t g place is some. one t g place is some (cases_Bool (nat_eq t set && nat_eq g seg)) }
  where
    one : (t g place : ℕ) → copied_due due set seg (length order + 1) t g ≡ Some place → 0 < place → ((nat_eq t set && nat_eq g seg) ≡ true) ⊎ ((nat_eq t set && nat_eq g seg) ≡ false) → IsLast (order ++ e ∷ []) known t g place
    one t g place is some (inl on) = last_new order e known t g place le (here t g on) (sym (same_Some (length order + 1) place (subst (λ (b : Bool). cond b (Some (length order + 1)) (due t g) ≡ Some place) on is)))
    one t g place is some (inr off) = last_push order e known t g place (apart t g off) (f.each t g place (subst (λ (b : Bool). cond b (Some (length order + 1)) (due t g) ≡ Some place) off is) some)

-- segments freed by places that are applied
pub pending_freed : (on : ℕ → Bool) (due : Due) (order : List Entry) (known : ℕ) (keys : ℕ → ℕ → Bool) (upto n : ℕ) → upto ≤ n → ((t g : ℕ) → keys t g ≡ true → (place : ℕ) × (due t g ≡ Some place) × (0 < place) × (place ≤ upto)) → IsFreed due order known → IsPending on due order n → IsPending on (freed_due due keys) order n
pending_freed on due order known keys upto n le each f p = record { each = λ j e t g here low is none. one j e t g here low is none (cases_Bool (keys t g)) }
  where
    kept : (b : Bool) (o : Option ℕ) → b ≡ false → is_some (cond b None o) ≡ false → is_some o ≡ false
    kept b o off none = grind arith

    one : (j : ℕ) (e : Entry) (t g : ℕ) → on t ≡ true → n ≤ j → slice_get order j ≡ Some e → has (freed_due due keys) t g ≡ false → (keys t g ≡ true) ⊎ (keys t g ≡ false) → touches e t g ≡ false
    one j e t g here low is none (inl yes') = let k = each t g yes' in (f.each t g k.0 k.1 k.2).last j e (omega (arith, k.3)) is
    one j e t g here low is none (inr off) = p.each j e t g here low is (kept (keys t g) (due t g) off none)
