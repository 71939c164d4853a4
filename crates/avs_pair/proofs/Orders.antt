-- Parts of an order.
use Rattle.std.proofs.Common.{◌≡◌, ◌⊎◌, inl, inr, ℕ, zero, suc, ◌+◌, ◌-◌, ◌<◌, ◌≤◌, List, [], ◌∷◌, ◌++◌, length, take, drop, get_or, Some, slice_get, ◌∙◌, refl, ap, subst, arith}
use Rattle.std.proofs.lemmas.List.{length_push, take-append-le, drop-append-le, length-drop, take_more, drop_more, get_or-drop}
use Rattle.std.proofs.lemmas.Option.{slice_get_within, same_Some, get_or_from_slice_get}
use Rattle.avs_model.specs.declared.entry.Entry.{Entry}
use Rattle.avs_mirrors.specs.Entries.{between}

pub between_none : (n : ℕ) (order : List Entry) → between n n order ≡ []
unfolding between
between_none n order = ap (λ (k : ℕ). take k (drop n order)) none
  where
    none : n - n ≡ 0
    none = omega arith

-- its first entry
pub between_first : (from to : ℕ) (order : List Entry) (e : Entry) → from < to → slice_get order from ≡ Some e → between from to order ≡ e ∷ between (from + 1) to order
unfolding between
between_first from to order e lt is =
    let within : from < length order = slice_get_within order from e is in
    let count : to - from ≡ suc (to - (from + 1)) = omega arith in
    ap (λ (k : ℕ). take k (drop from order)) count
    ∙ ap (λ (l : List Entry). take (suc (to - (from + 1))) l) (drop_more order from e within)
    ∙ ap (λ (x : Entry). x ∷ take (to - (from + 1)) (drop (from + 1) order)) (get_or_from_slice_get order from e e is)

-- its last entry
pub between_last : (from n : ℕ) (order : List Entry) (e : Entry) → from ≤ n → slice_get order n ≡ Some e → between from (n + 1) order ≡ between from n order ++ e ∷ []
unfolding between
between_last from n order e le is =
    let within : n < length order = slice_get_within order n e is in
    let count : n + 1 - from ≡ (n - from) + 1 = omega arith in
    ap (λ (k : ℕ). take k (drop from order)) count
    ∙ take_more (drop from order) (n - from) e (omega (arith, length-drop from order))
    ∙ ap (λ (x : Entry). take (n - from) (drop from order) ++ x ∷ []) (get_or-drop from order (n - from) e ∙ ap (λ (k : ℕ). get_or order k e) same ∙ get_or_from_slice_get order n e e is)
  where
    same : from + (n - from) ≡ n
    same = omega arith

-- an order with more entries behind
pub between_more : (from to : ℕ) (order more : List Entry) → from ≤ to → to ≤ length order → between from to (order ++ more) ≡ between from to order
unfolding between
between_more from to order more low le =
    ap (λ (l : List Entry). take (to - from) l) (drop-append-le from order more (omega arith))
    ∙ take-append-le (to - from) (drop from order) more (omega (arith, length-drop from order))

pub slice_get_before : (order more : List Entry) (j : ℕ) (e : Entry) → slice_get order j ≡ Some e → slice_get (order ++ more) j ≡ Some e
slice_get_before [] more j e is = absurd (cc)
slice_get_before (x ∷ order) more zero e is = is
slice_get_before (x ∷ order) more (suc j) e is = slice_get_before order more j e is

pub slice_get_end : (order : List Entry) (e : Entry) → slice_get (order ++ e ∷ []) (length order) ≡ Some e
slice_get_end [] e = refl
slice_get_end (x ∷ order) e = slice_get_end order e

-- an entry of an order with one more is one of before, or that
pub slice_get_push : (order : List Entry) (last : Entry) (j : ℕ) (e : Entry) → slice_get (order ++ last ∷ []) j ≡ Some e → (slice_get order j ≡ Some e) ⊎ ((j ≡ length order) × (last ≡ e))
slice_get_push [] last zero e is = inr (refl, same_Some last e is)
slice_get_push [] last (suc j) e is = absurd (cc)
slice_get_push (x ∷ order) last zero e is = inl is
slice_get_push (x ∷ order) last (suc j) e is = elim (slice_get_push order last j e is) [
  | inl old ↦ inl old
  | inr new ↦ inr (ap suc new.0, new.1)
]

-- all entries behind a place, with one more
pub between_push : (n : ℕ) (order : List Entry) (e : Entry) → n ≤ length order → between n (length (order ++ e ∷ [])) (order ++ e ∷ []) ≡ between n (length order) order ++ e ∷ []
between_push n order e le =
    ap (λ (k : ℕ). between n k (order ++ e ∷ [])) (length_push order e)
    ∙ between_last n (length order) (order ++ e ∷ []) e le (slice_get_end order e)
    ∙ ap (λ (l : List Entry). l ++ e ∷ []) (between_more n (length order) order (e ∷ []) le le_refl)
  where
    le_refl : length order ≤ length order
    le_refl = omega arith

pub drop_get : (from : ℕ) (order : List Entry) (j : ℕ) (e : Entry) → slice_get (drop from order) j ≡ Some e → slice_get order (from + j) ≡ Some e
drop_get zero order j e is = rw zero_add is
  where
    zero_add : zero + j ≡ j
    zero_add = omega arith
drop_get (suc from) [] j e is = absurd (cc)
drop_get (suc from) (x ∷ order) j e is = rw suc_add (drop_get from order j e is)
  where
    suc_add : suc from + j ≡ suc (from + j)
    suc_add = omega arith

take_get : (n : ℕ) (order : List Entry) (j : ℕ) (e : Entry) → slice_get (take n order) j ≡ Some e → slice_get order j ≡ Some e
take_get zero order j e is = absurd (cc)
take_get (suc n) [] j e is = absurd (cc)
take_get (suc n) (x ∷ order) zero e is = is
take_get (suc n) (x ∷ order) (suc j) e is = take_get n order j e is

-- an entry of a part is one of the order
pub between_get : (from to : ℕ) (order : List Entry) (j : ℕ) (e : Entry) → slice_get (between from to order) j ≡ Some e → slice_get order (from + j) ≡ Some e
unfolding between
between_get from to order j e is = drop_get from order j e (take_get (to - from) (drop from order) j e is)

pub get_drop : (from : ℕ) (order : List Entry) (j : ℕ) (e : Entry) → slice_get order (from + j) ≡ Some e → slice_get (drop from order) j ≡ Some e
get_drop zero order j e is = subst (λ (k : ℕ). slice_get order k ≡ Some e) zero_add is
  where
    zero_add : zero + j ≡ j
    zero_add = omega arith
get_drop (suc from) [] j e is = absurd (cc)
get_drop (suc from) (x ∷ order) j e is = get_drop from order j e (subst (λ (k : ℕ). slice_get (x ∷ order) k ≡ Some e) suc_add is)
  where
    suc_add : suc from + j ≡ suc (from + j)
    suc_add = omega arith
