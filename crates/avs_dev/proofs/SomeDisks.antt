-- Several disks of which one changes.
use Rattle.std.proofs.Common.{◌≡◌, inl, inr, ℕ, ◌<◌, ◌≤◌, Bool, true, false, not, IsTrue, List, length, map, set, get_or, slice_index, Some, Result, Ok, Err, OnOk, refl, sym, ◌∙◌, ap, subst, arith}
use Rattle.std.specs.List.{list_all}
use Rattle.std.proofs.Math.Seq.{map-set_same}
use Rattle.std.proofs.lemmas.Bool.{cases_Bool, cases_eq}
use Rattle.std.proofs.lemmas.List.{get_or-map, map-set, get_or-set_same, get_or-set_other, set-get_or, length-set, length-map}
use Rattle.std.proofs.lemmas.List.Folds.{list_all-map, list_all_at}
use Rattle.std.proofs.lemmas.Option.{slice_get-get_or}
use Rattle.std.proofs.lemmas.Result.{on_ok_weaker}
use Rattle.avs_seg.specs.Causes.{Rose, HasCause}
use Rattle.avs_dev.specs.Seen.{Seen, UsesTear, GoesOn}
use Rattle.avs_dev.specs.Devices.{NoneFell, OneRose, HasOneCause, UsesOneTear}

-- ---- one count of several changes

pub NoneFell-set : (l : List ℕ) (i n : ℕ) → i < length l → slice_index l i ≤ n → NoneFell l (set l i n)
NoneFell-set l i n there le = record { same_length = length-set l i n; each = each }
  where
    each : (j : ℕ) → slice_index l j ≤ slice_index (set l i n) j
    each j = elim (cases_eq j i) [
      | inl is ↦ let now = get_or-set_same l i n 0 there in let le' : slice_index l i ≤ slice_index (set l i n) i = omega (arith, now, le) in subst (λ (k : ℕ). slice_index l k ≤ slice_index (set l i n) k) (sym is) le'
      | inr other ↦ let now = get_or-set_other l i j n 0 other in omega (arith, now)
    ]

pub OneRose-set : (l : List ℕ) (i n : ℕ) → i < length l → Rose (slice_index l i) n → OneRose l (set l i n)
OneRose-set l i n there rose = record { device = i; there = there; rose = let now = get_or-set_same l i n 0 there in omega (arith, now, rose) }

pub HasOneCause-set : {T E : Type 0} (l : List ℕ) (i n : ℕ) (r : Result T E) → i < length l → HasCause (slice_index l i) n r → OnOk r (n ≡ slice_index l i) → HasOneCause l (set l i n) r
HasOneCause-set l i n (Ok x) there c same = record { later = NoneFell-set l i n there c.later; failed = tt; same = ap (λ (k : ℕ). set l i k) same ∙ set-get_or l i 0 }
HasOneCause-set l i n (Err e) there c same = record { later = NoneFell-set l i n there c.later; failed = OneRose-set l i n there c.failed; same = tt }

-- ---- one disk of several changes

module _ (disks : List Seen) (i : ℕ) (new e : Seen) (there : i < length disks) where
  pub HasOneCause_at : {T E : Type 0} (r : Result T E) → HasCause (get_or disks i e).faults new.faults r → GoesOn (get_or disks i e) r new → HasOneCause (map (λ (d : Seen). d.faults) disks) (map (λ (d : Seen). d.faults) (set disks i new)) r
  HasOneCause_at {T} {E} r c goes =
      let was = get_or-map (λ (d : Seen). d.faults) disks i e 0 there in
      let inside : i < length (map (λ (d : Seen). d.faults) disks) = omega (arith, length-map disks (λ (d : Seen). d.faults), there) in
      let c' : HasCause (slice_index (map (λ (d : Seen). d.faults) disks) i) new.faults r = subst (λ (n : ℕ). HasCause n new.faults r) (sym was) c in
      subst (λ (l : List ℕ). HasOneCause (map (λ (d : Seen). d.faults) disks) l r) (sym (map-set (λ (d : Seen). d.faults) disks i new)) (HasOneCause-set (map (λ (d : Seen). d.faults) disks) i new.faults r inside c' (on_ok_weaker r (λ spared. spared.faults ∙ sym was) goes.done))

  is_false : (b : Bool) → IsTrue (not b) → b ≡ false
  is_false true not_so = cc
  is_false false not_so = refl

  pub UsesOneTear_at : UsesTear (get_or disks i e) new → UsesOneTear (map (λ (d : Seen). d.armed) disks) (map (λ (d : Seen). d.armed) (set disks i new))
  UsesOneTear_at u =
      let was = get_or-map (λ (d : Seen). d.armed) disks i e false there in
      let inside : i < length (map (λ (d : Seen). d.armed) disks) = omega (arith, length-map disks (λ (d : Seen). d.armed), there) in
      record {
        device = i;
        was_armed = slice_get-get_or (map (λ (d : Seen). d.armed) disks) i false inside ∙ ap (λ (b : Bool). Some b) (was ∙ u.was_armed);
        is_used = map-set (λ (d : Seen). d.armed) disks i new ∙ ap (λ (b : Bool). set (map (λ (d : Seen). d.armed) disks) i b) (is_false new.armed u.is_used);
      }

  pub steady_same : new.steady ≡ (get_or disks i e).steady → list_all (λ (d : Seen). d.steady) (set disks i new) ≡ list_all (λ (d : Seen). d.steady) disks
  steady_same same =
      sym (list_all-map (λ (b : Bool). b) (λ (d : Seen). d.steady) (set disks i new))
      ∙ ap (λ (l : List Bool). list_all (λ (b : Bool). b) l) (map-set_same (λ (d : Seen). d.steady) disks i new e same)
      ∙ list_all-map (λ (b : Bool). b) (λ (d : Seen). d.steady) disks

  pub steady_at : IsTrue (list_all (λ (d : Seen). d.steady) disks) → IsTrue (get_or disks i e).steady
  steady_at all = elim (cases_Bool (get_or disks i e).steady) [
    | inl so ↦ so
    | inr not_so ↦ absurd (apart (sym (list_all_at (λ (d : Seen). d.steady) disks i e there not_so) ∙ all))
  ]
    where
      apart : false ≡ true → ⊥
      apart is = cc
