-- One set is changed, and the others stay; sets are changed one after another.
use Rattle.std.proofs.Common.{◌≡◌, ◌≢◌, ◌⊎◌, inl, inr, ℕ, ◌+◌, ◌-◌, ◌<◌, ◌≤◌, Bool, true, false, ◌&&◌, cond, eqb, List, map, set, get_or, length, Result, Ok, Err, IsTrue, OnOk, OnErr, refl, sym, ◌∙◌, ap, subst, arith, get_or-set_same, get_or-set_other, length-set}
use Rattle.std.proofs.lemmas.List.{get_or-map, map-set, length-map, get_or_default, get_or_past, set-get_or}
use Rattle.std.proofs.lemmas.Bool.{cases_Bool, cases_lt, eqb-true, eq-eqb}
use Rattle.std.proofs.lemmas.Bool.Decides.{nat_tests, eqb_tells}
use Rattle.avs_seg.specs.Image.{is_inside}
use Rattle.avs_dev.specs.Seen.{IsSpared, Fails, with_tear}
use Rattle.avs_dev.specs.declared.disk.Tear.{Tear}
use Rattle.avs_dev.specs.Devices.{OneFails}
use Rattle.avs_dev.proofs.Going.{lasts_same, spared_same}
use Rattle.avs_bits.specs.Bit.{IsPut, IsPart}
use Rattle.avs_bits.specs.BitSet.{BitSet, set_of, Changes, HoldsPart, ArmsDisk}
use Rattle.avs_bits.proofs.Parts.{part_same}
use Rattle.avs_mirrors.specs.Due.{Segments, Keys}
use Rattle.avs_halves.specs.declared.mirrors.Mirror.{Mirror}
use Rattle.avs_halves.specs.SetBits.{SetBits, no_set, set_at, disk_at}
use Rattle.avs_halves.specs.MirrorView.{set_bits}
use Rattle.avs_halves.specs.Changing.{PartMade, AllMade, ChangesSets, ArmsSet, with_disk, keys_of, every}

-- ---- one set

pub made_none : (keys : Segments) (on : Bool) (s : SetBits) → PartMade keys on s s
made_none keys on s = record {
  rest = refl;
  lasts = lasts_same s.bits.disk;
  label = λ told. refl;
  memory = part_same keys on (set_of s.bits);
  disk = λ told step. record { set = set_of s.bits; part = part_same keys on (set_of s.bits); held = step };
}

with_parts : (old new : BitSet) → new.segs ≡ old.segs → new.stamp ≡ old.stamp → new ≡ record old { disk = new.disk; bytes = new.bytes }
with_parts old new segs stamp =
    ap (λ (n : ℕ). record { disk = new.disk; bytes = new.bytes; segs = n; stamp = new.stamp }) segs ∙ ap (λ (n : ℕ). record { disk = new.disk; bytes = new.bytes; segs = old.segs; stamp = n }) stamp

put_all : (old new : ℕ → Bool) (first n : ℕ) (on : Bool) → IsPut old new first (first + n) on → (s : ℕ) → new s ≡ (cond (is_inside first n s) on (old s))
put_all old new first n on put s = elim (cases_Bool (is_inside first n s)) [
  | inl is ↦
      let low : first ≤ s = grind (arith, nat_tests) in
      let high : s < first + n = grind (arith, nat_tests) in
      rw is (put.inside s low high)
  | inr is ↦
      let out : (s < first) ⊎ (first + n ≤ s) = grind (arith, nat_tests) in
      rw is (put.outside s out)
]

-- what a change of a run of segments makes of the set
module _ (s t : SetBits) (vol : t.vol ≡ s.vol) (slot : t.slot ≡ s.slot) (first n : ℕ) (on : Bool) where
  same_rest : t.bits ≡ record s.bits { disk = t.bits.disk; bytes = t.bits.bytes } → t ≡ record s { bits = record s.bits { disk = t.bits.disk; bytes = t.bits.bytes } }
  same_rest bits =
      ap (λ (v : ℕ). record { vol = v; slot = t.slot; bits = t.bits }) vol ∙ ap (λ (v : ℕ). record { vol = s.vol; slot = v; bits = t.bits }) slot ∙ ap (λ (b : BitSet). record { vol = s.vol; slot = s.slot; bits = b }) bits

  pub part_made : {T E : Type 0} (result : Result T E) → Changes s.bits first (first + n) on result t.bits → PartMade (is_inside first n) on s t
  part_made result c =
      let count : first + n - first ≡ n = omega arith in
      let part = subst (λ (k : ℕ). IsPart (is_inside first k) on (set_of s.bits) (set_of t.bits)) count c.part.memory in
      record {
        rest = same_rest (with_parts s.bits t.bits c.segs c.stamp);
        lasts = c.goes.lasts;
        label = c.label;
        memory = part;
        disk = λ told step. subst (λ (k : ℕ). HoldsPart (is_inside first k) on (set_of s.bits) t.bits.disk.image s.bits.segs) count (c.part.disk told step);
      }

  pub all_made : {T E : Type 0} (result : Result T E) → Changes s.bits first (first + n) on result t.bits → OnOk result (AllMade (is_inside first n) on s t)
  all_made (Ok x) c = record { spared = c.goes.done; memory = put_all (set_of s.bits) (set_of t.bits) first n on c.set; step = λ told step. c.done told step }
  all_made (Err e) c = tt

  pub has_failed : {T E : Type 0} (result : Result T E) → Changes s.bits first (first + n) on result t.bits → OnErr result (Fails s.bits.disk t.bits.disk)
  has_failed (Ok x) c = tt
  has_failed (Err e) c = c.goes.failed

-- ---- one set among others

part_of_one : (b : Bool) (keys : Segments) (on : Bool) (old new : SetBits) → (b ≡ true → PartMade keys on old new) → (b ≡ false → new ≡ old) → PartMade (λ seg. b && keys seg) on old new
part_of_one true keys on old new made same = made refl
part_of_one false keys on old new made same = subst (λ (s : SetBits). PartMade (λ seg. false) on old s) (sym (same refl)) (made_none (λ seg. false) on old)

all_of_one : (b : Bool) (keys : Segments) (on : Bool) (old new : SetBits) → (b ≡ true → AllMade keys on old new) → (b ≡ false → new ≡ old) → AllMade (λ seg. b && keys seg) on old new
all_of_one true keys on old new made same = made refl
all_of_one false keys on old new made same =
    subst (λ (s : SetBits). AllMade (λ seg. false) on old s) (sym (same refl)) (record { spared = spared_same old.bits.disk; memory = λ s. refl; step = λ told step. step })

module _ (sets : List SetBits) (i : ℕ) (lt : i < length sets) (new : SetBits) where
  here : set_at (set sets i new) i ≡ new
  here = get_or-set_same sets i new no_set lt

  there : (t : ℕ) → t ≢ i → set_at (set sets i new) t ≡ set_at sets t
  there t ne = get_or-set_other sets i t new no_set ne

  not_one : (t : ℕ) → eqb t i ≡ false → t ≢ i
  not_one t is same = no (eqb t i) (eq-eqb t i same) is
    where
      no : (b : Bool) → b ≡ true → b ≡ false → ⊥
      no b is isnt = cc

  -- what holds of the set and of no other
  at_one : (P : SetBits → SetBits → Type 0) → P (set_at sets i) new → (t : ℕ) → eqb t i ≡ true → P (set_at sets t) (set_at (set sets i new) t)
  at_one P made t is =
      subst (λ (k : ℕ). P (set_at sets k) (set_at (set sets i new) k)) (sym (eqb-true t i is)) (subst (λ (s : SetBits). P (set_at sets i) s) (sym here) made)

  pub only_fails : Fails (set_at sets i).bits.disk new.bits.disk → OneFails (disk_at sets) (disk_at (set sets i new))
  only_fails fails = record {
    name = i;
    failed = subst (λ (s : SetBits). Fails (disk_at sets i) s.bits.disk) (sym here) fails;
    others = λ t ne. subst (λ (s : SetBits). IsSpared (disk_at sets t) s.bits.disk) (sym (there t ne)) (spared_same (disk_at sets t));
  }

  module _ (keys : Segments) (on : Bool) (part : PartMade keys on (set_at sets i) new) where
    parts_one : (t : ℕ) → PartMade (keys_of i keys t) on (set_at sets t) (set_at (set sets i new) t)
    parts_one t = part_of_one (eqb t i) keys on (set_at sets t) (set_at (set sets i new) t) (at_one (PartMade keys on) part t) (λ is. there t (not_one t is))

    alls_one : AllMade keys on (set_at sets i) new → (t : ℕ) → AllMade (keys_of i keys t) on (set_at sets t) (set_at (set sets i new) t)
    alls_one all t = all_of_one (eqb t i) keys on (set_at sets t) (set_at (set sets i new) t) (at_one (AllMade keys on) all t) (λ is. there t (not_one t is))

    pub changes_one : {T E : Type 0} (result : Result T E) → OnOk result (AllMade keys on (set_at sets i) new) → OnErr result (Fails (set_at sets i).bits.disk new.bits.disk) → ChangesSets (keys_of i keys) on sets result (set sets i new)
    changes_one (Ok x) all fails = record { count = length-set sets i new; part = parts_one; done = alls_one all; failed = tt }
    changes_one (Err e) all fails = record { count = length-set sets i new; part = parts_one; done = tt; failed = only_fails fails }

-- ---- in the code's lists

module _ {D : Type 0} (items : List (Mirror D)) (i : ℕ) (m : Mirror D) (lt : i < length items) (is : m ≡ get_or items i m) where
  pub view_at : set_at (map set_bits items) i ≡ set_bits m
  view_at = get_or-map set_bits items i m no_set lt ∙ ap (λ (x : Mirror D). set_bits x) (sym is)

  view_lt : i < length (map set_bits items)
  view_lt = subst (λ (n : ℕ). i < n) (sym (length-map items set_bits)) lt

  -- a run of segments of one set
  pub run_changed : {T E : Type 0} (first n : ℕ) (on : Bool) (new : BitSet) (result : Result T E) → Changes m.bits first (first + n) on result new → ChangesSets (keys_of i (is_inside first n)) on (map set_bits items) result (map set_bits (set items i (record m { bits = new })))
  run_changed first n on new result c =
      let s : SetBits = set_bits m in
      let t : SetBits = record s { bits = new } in
      let part : PartMade (is_inside first n) on (set_at (map set_bits items) i) t = subst (λ (x : SetBits). PartMade (is_inside first n) on x t) (sym view_at) (part_made s t refl refl first n on result c) in
      let all = subst (λ (x : SetBits). OnOk result (AllMade (is_inside first n) on x t)) (sym view_at) (all_made s t refl refl first n on result c) in
      let fails = subst (λ (x : SetBits). OnErr result (Fails x.bits.disk t.bits.disk)) (sym view_at) (has_failed s t refl refl first n on result c) in
      subst (λ (l : List SetBits). ChangesSets (keys_of i (is_inside first n)) on (map set_bits items) result l) (sym (map-set set_bits items i (record m { bits = new }))) (changes_one (map set_bits items) i view_lt t (is_inside first n) on part result all fails)

-- ---- one set after another: those below a place are changed, and the others are not yet

pub record SoFar (keys : Keys) (on : Bool) (old : List SetBits) (i : ℕ) (now : List SetBits) : Type 0 where
  pub count : length now ≡ length old
  pub part : (t : ℕ) → t < i → PartMade (keys t) on (set_at old t) (set_at now t)
  pub all : (t : ℕ) → t < i → AllMade (keys t) on (set_at old t) (set_at now t)
  pub above : (t : ℕ) → i ≤ t → set_at now t ≡ set_at old t

pub none_yet : (keys : Keys) (on : Bool) (old : List SetBits) → SoFar keys on old 0 old
none_yet keys on old = record { count = refl; part = λ t lt. absurd (omega (arith, lt)); all = λ t lt. absurd (omega (arith, lt)); above = λ t le. refl }

module _ (keys : Keys) (on : Bool) (old : List SetBits) (i : ℕ) (now : List SetBits) (so : SoFar keys on old i now) where
  module _ (lt : i < length now) (new : SetBits) (part : PartMade (keys i) on (set_at now i) new) where
    was : set_at now i ≡ set_at old i
    was = so.above i (omega arith)

    part_here : PartMade (keys i) on (set_at old i) (set_at (set now i new) i)
    part_here = subst (λ (s : SetBits). PartMade (keys i) on (set_at old i) s) (sym (here now i lt new)) (subst (λ (s : SetBits). PartMade (keys i) on s new) was part)

    part_before : (t : ℕ) → t ≢ i → PartMade (keys t) on (set_at old t) (set_at now t) → PartMade (keys t) on (set_at old t) (set_at (set now i new) t)
    part_before t ne p = subst (λ (s : SetBits). PartMade (keys t) on (set_at old t) s) (sym (there now i lt new t ne)) p

    pub one_more : AllMade (keys i) on (set_at now i) new → SoFar keys on old (i + 1) (set now i new)
    one_more all = record {
      count = length-set now i new ∙ so.count;
      part = λ t below. elim (cases_lt t i) [
        | inl before ↦ part_before t (omega (arith, before)) (so.part t before)
        | inr from ↦ let e : t ≡ i = omega (arith, below, from) in subst (λ (k : ℕ). PartMade (keys k) on (set_at old k) (set_at (set now i new) k)) (sym e) part_here
      ];
      all = λ t below. elim (cases_lt t i) [
        | inl before ↦ subst (λ (s : SetBits). AllMade (keys t) on (set_at old t) s) (sym (there now i lt new t (omega (arith, before)))) (so.all t before)
        | inr from ↦
            let e : t ≡ i = omega (arith, below, from) in
            let now_is : AllMade (keys i) on (set_at old i) (set_at (set now i new) i) = subst (λ (s : SetBits). AllMade (keys i) on (set_at old i) s) (sym (here now i lt new)) (subst (λ (s : SetBits). AllMade (keys i) on s new) was all) in
            subst (λ (k : ℕ). AllMade (keys k) on (set_at old k) (set_at (set now i new) k)) (sym e) now_is
      ];
      above = λ t le. there now i lt new t (omega (arith, le)) ∙ so.above t (omega (arith, le));
    }

    -- the next one stopped
    part_any : (t : ℕ) → PartMade (keys t) on (set_at old t) (set_at (set now i new) t)
    part_any t = elim (cases_lt t i) [
      | inl before ↦ part_before t (omega (arith, before)) (so.part t before)
      | inr from ↦ elim (eqb_tells t i) [
        | inl is ↦ subst (λ (k : ℕ). PartMade (keys k) on (set_at old k) (set_at (set now i new) k)) (sym is.1) part_here
        | inr isnt ↦ subst (λ (s : SetBits). PartMade (keys t) on (set_at old t) s) (sym (there now i lt new t isnt.1 ∙ so.above t from)) (made_none (keys t) on (set_at old t))
      ]
    ]

    spared_any : (t : ℕ) → t ≢ i → IsSpared (disk_at old t) (disk_at (set now i new) t)
    spared_any t ne = subst (λ (s : SetBits). IsSpared (disk_at old t) s.bits.disk) (sym (there now i lt new t ne)) (elim (cases_lt t i) [
      | inl before ↦ (so.all t before).spared
      | inr from ↦ subst (λ (s : SetBits). IsSpared (disk_at old t) s.bits.disk) (sym (so.above t from)) (spared_same (disk_at old t))
    ])

    pub one_stops : {T E : Type 0} (e : E) → Fails (set_at now i).bits.disk new.bits.disk → ChangesSets {T = T} keys on old (Err e) (set now i new)
    one_stops e fails = record {
      count = length-set now i new ∙ so.count;
      part = part_any;
      done = tt;
      failed = record {
        name = i;
        failed = subst (λ (s : SetBits). Fails (disk_at old i) s.bits.disk) (sym (here now i lt new)) (subst (λ (s : SetBits). Fails s.bits.disk new.bits.disk) was fails);
        others = spared_any;
      };
    }

  -- all are changed: behind the last there is none
  pub all_changed : {T E : Type 0} (x : T) → length now ≤ i → ((t : ℕ) → length old ≤ t → (seg : ℕ) → keys t seg ≡ false) → ChangesSets {E = E} keys on old (Ok x) now
  all_changed x end none = record {
    count = so.count;
    part = λ t. elim (cases_lt t i) [
      | inl before ↦ so.part t before
      | inr from ↦ subst (λ (s : SetBits). PartMade (keys t) on (set_at old t) s) (sym (so.above t from)) (made_none (keys t) on (set_at old t))
    ];
    done = λ t. elim (cases_lt t i) [
      | inl before ↦ so.all t before
      | inr from ↦ subst (λ (s : SetBits). AllMade (keys t) on (set_at old t) s) (sym (so.above t from)) (all_none (keys t) on (set_at old t) (none t (omega (arith, from, end, so.count))))
    ];
    failed = tt;
  }
    where
      all_none : (keys : Segments) (on : Bool) (s : SetBits) → ((seg : ℕ) → keys seg ≡ false) → AllMade keys on s s
      all_none keys on s none = record { spared = spared_same s.bits.disk; memory = λ seg. sym (ap (λ (b : Bool). cond b on (set_of s.bits seg)) (none seg)); step = λ told step. step }

-- behind the last set there is none
none_inside : (seg : ℕ) → is_inside 0 0 seg ≡ false
none_inside seg = grind (arith, nat_tests)

pub every_past : (old : List SetBits) (t : ℕ) → length old ≤ t → (seg : ℕ) → every old t seg ≡ false
every_past old t past seg = subst (λ (s : SetBits). is_inside 0 s.bits.segs seg ≡ false) (sym (get_or_past old t no_set past)) (none_inside seg)

-- all segments of a set in the code's list
module _ {D : Type 0} (on : Bool) (old : List SetBits) (items : List (Mirror D)) (i : ℕ) (d : Mirror D) (so : SoFar (every old) on old i (map set_bits items)) (lt : i < length items) (new : BitSet) where
  whole_change : {T E : Type 0} (result : Result T E) → Changes (get_or items i d).bits 0 (get_or items i d).bits.segs on result new → Changes (get_or items i d).bits 0 (0 + (get_or items i d).bits.segs) on result new
  whole_change result c = let n : ℕ = (get_or items i d).bits.segs in let e : n ≡ 0 + n = omega arith in subst (λ (k : ℕ). Changes (get_or items i d).bits 0 k on result new) e c

  at_now : set_at (map set_bits items) i ≡ set_bits (get_or items i d)
  at_now = view_at items i (get_or items i d) lt (get_or_default items i d (get_or items i d) lt)

  at_old : set_at old i ≡ set_bits (get_or items i d)
  at_old = let le : i ≤ i = omega arith in sym (so.above i le) ∙ at_now

  part_whole : {T E : Type 0} (result : Result T E) → Changes (get_or items i d).bits 0 (get_or items i d).bits.segs on result new → PartMade (every old i) on (set_at (map set_bits items) i) (record (set_bits (get_or items i d)) { bits = new })
  part_whole result c =
      let s : SetBits = set_bits (get_or items i d) in
      let t : SetBits = record s { bits = new } in
      let made = part_made s t refl refl 0 s.bits.segs on result (whole_change result c) in
      subst (λ (x : SetBits). PartMade (is_inside 0 x.bits.segs) on (set_at (map set_bits items) i) t) (sym at_old) (subst (λ (x : SetBits). PartMade (is_inside 0 s.bits.segs) on x t) (sym at_now) made)

  pub loop_more : {T E : Type 0} (x : T) → Changes {E = E} (get_or items i d).bits 0 (get_or items i d).bits.segs on (Ok x) new → SoFar (every old) on old (i + 1) (map set_bits (set items i (record (get_or items i d) { bits = new })))
  loop_more {E = E} x c =
      let s : SetBits = set_bits (get_or items i d) in
      let t : SetBits = record s { bits = new } in
      let made : AllMade (is_inside 0 s.bits.segs) on s t = all_made s t refl refl 0 s.bits.segs on (Ok x) (whole_change (Ok x) c) in
      let all : AllMade (every old i) on (set_at (map set_bits items) i) t = subst (λ (y : SetBits). AllMade (is_inside 0 y.bits.segs) on (set_at (map set_bits items) i) t) (sym at_old) (subst (λ (y : SetBits). AllMade (is_inside 0 s.bits.segs) on y t) (sym at_now) made) in
      subst (λ (l : List SetBits). SoFar (every old) on old (i + 1) l) (sym (map-set set_bits items i (record (get_or items i d) { bits = new }))) (one_more (every old) on old i (map set_bits items) so (view_lt items i (get_or items i d) lt (get_or_default items i d (get_or items i d) lt)) t (part_whole (Ok x) c) all)

  pub loop_stops : {T E : Type 0} (e : E) → Changes {T = T} (get_or items i d).bits 0 (get_or items i d).bits.segs on (Err e) new → ChangesSets {T = T} (every old) on old (Err e) (map set_bits (set items i (record (get_or items i d) { bits = new })))
  loop_stops {T = T} e c =
      let s : SetBits = set_bits (get_or items i d) in
      let t : SetBits = record s { bits = new } in
      let fails : Fails (set_at (map set_bits items) i).bits.disk new.disk = subst (λ (y : SetBits). Fails y.bits.disk new.disk) (sym at_now) c.goes.failed in
      subst (λ (l : List SetBits). ChangesSets {T = T} (every old) on old (Err e) l) (sym (map-set set_bits items i (record (get_or items i d) { bits = new }))) (one_stops (every old) on old i (map set_bits items) so (view_lt items i (get_or items i d) lt (get_or_default items i d (get_or items i d) lt)) t (part_whole (Err e) c) e fails)

-- ---- a tear on one disk

module _ {D : Type 0} (items : List (Mirror D)) (i : ℕ) (m : Mirror D) (lt : i < length items) (is : m ≡ get_or items i m) where
  pub armed_one : (tear : Tear) (result : Bool) (new : BitSet) → ArmsDisk m.bits 0 tear result new → ArmsSet (map set_bits items) i tear result (map set_bits (set items i (record m { bits = new })))
  armed_one tear result new a =
      let s : SetBits = set_bits m in
      let at = view_at items i m lt is in
      record {
        answer = subst (λ (x : SetBits). result ≡ x.bits.disk.arms) (sym at) a.answer;
        armed = λ yes_. map-set set_bits items i (record m { bits = new }) ∙ ap (λ (x : SetBits). set (map set_bits items) i x) (ap (λ (b : BitSet). record s { bits = b }) (a.armed yes_) ∙ ap (λ (x : SetBits). with_disk x (with_tear tear x.bits.disk)) (sym at));
        unarmed = λ not_. ap (λ (b : BitSet). map set_bits (set items i (record m { bits = b }))) (a.unarmed not_) ∙ ap (λ (x : Mirror D). map set_bits (set items i x)) is ∙ ap (λ (l : List (Mirror D)). map set_bits l) (set-get_or items i m);
        sure = λ within steady. a.sure refl (subst (λ (x : SetBits). IsTrue x.bits.disk.steady) at steady);
      }
