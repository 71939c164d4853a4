-- A half whose bits have changed.
use Rattle.std.proofs.Common.{◌≡◌, ◌⊎◌, inl, inr, ℕ, ◌<◌, Bool, true, false, ◌&&◌, cond, List, [], length, map, get_or, Result, Ok, Option, None, Some, is_some, ◌∙◌, sym, refl, ap, subst, arith}
use Rattle.std.specs.Prelude.{nat_lt}
use Rattle.std.proofs.Math.Path.{fun_ext}
use Rattle.std.proofs.lemmas.List.{ext_get_or, length-map}
use Rattle.std.proofs.lemmas.List.{get_or-map as within}
use Rattle.avs_model.specs.declared.half.HalfRole.{HalfRole}
use Rattle.avs_dev.specs.Below.{BelowSeen}
use Rattle.avs_bits.specs.BitSet.{HoldsPart, IsOnDisk, set_of}
use Rattle.avs_mirrors.specs.Due.{Due, Keys, noted, zero_of, zeros}
use Rattle.avs_mirrors.specs.Half.{Logging, is_session, no_sets}
use Rattle.avs_sync.specs.Parts.{MirrorSet}
use Rattle.avs_sync.specs.declared.note.Note.{Note}
use Rattle.avs_halves.specs.SetBits.{AreInStep, SetBits, no_part, no_set, part_of, set_at}
use Rattle.avs_halves.specs.Changing.{ChangesSets}
use Rattle.avs_halves.specs.Found.{due_found, is_filled}
use Rattle.avs_halves.specs.Over.{IsOver}
use Rattle.avs_halves.proofs.Lying.{found_bit, found_held, part_is, there_is}
use Rattle.avs_halves.proofs.Staying.{over_changed, sets_stay}
use Rattle.avs_sender.specs.Held.{SenderHalf, held, parts_of}
use Rattle.avs_sender.specs.Kept.{IsKept}
use Rattle.avs_sender.specs.Meaning.{due_of, found_by, found_of, freeing_place, no_places, places_at, sender_of}
use Rattle.avs_sender.specs.Places.{no_places_for, places_for}
use Rattle.avs_sender.proofs.Meanings.{bits_due}
use Rattle.avs_sender.proofs.Arming.{with_sets}

never : (b : Bool) → b ≡ false → b ≡ true → ⊥
never b off on = cc

-- ---- what is due with some segments more

-- a bit is due, and no place frees it
abbrev pub zero_due : Bool → Option ℕ
zero_due b = cond b (Some 0) None

abbrev pub placed_at : Bool → ℕ → Option ℕ
placed_at b k = cond b (Some k) None

all_one : (low was key now : Bool) (k : ℕ) → now ≡ cond key true was → (key ≡ true → low ≡ true)
    → zero_due (low && now) ≡ zero_of (cond (is_some (placed_at (low && was) k)) (placed_at (low && was) k) (zero_due key))
all_one true true true now k is inside = rw is refl
all_one true true false now k is inside = rw is refl
all_one true false true now k is inside = rw is refl
all_one true false false now k is inside = rw is refl
all_one false was true now k is inside = absurd (no (inside refl))
  where
    no : false ≡ true → ⊥
    no is = cc
all_one false was false now k is inside = refl

some_one : (low was key now : Bool) (k : ℕ) → (key ≡ true → (now ≡ was) ⊎ (now ≡ true)) → (key ≡ false → now ≡ was)
    → zero_due (low && now) ≡ zero_of (cond (is_some (placed_at (low && was) k)) (placed_at (low && was) k) (zero_due (low && (key && now))))
some_one false was key now k inside outside = refl
some_one true true true true k inside outside = refl
some_one true true true false k inside outside = elim (inside refl) [ inl is ↦ absurd (cc) | inr is ↦ absurd (cc) ]
some_one true true false now k inside outside = rw (outside refl) refl
some_one true false true true k inside outside = refl
some_one true false true false k inside outside = refl
some_one true false false now k inside outside = rw (outside refl) refl

twice_one : (d : Option ℕ) → zero_of (zero_of d) ≡ zero_of d
twice_one None = refl
twice_one (Some k) = refl

pub zeros_twice : (d : Due) → zeros (zeros d) ≡ zeros d
zeros_twice d = fun_ext (λ set. fun_ext (λ seg. twice_one (d set seg)))

-- keys are segments of the sets
pub record AreInside (sets : List SetBits) (keys : Keys) : Type 0 where
  pub each : (set seg : ℕ) → keys set seg ≡ true → nat_lt seg (set_at sets set).bits.segs ≡ true

module _ {T E : Type 0} (keys : Keys) (h : SenderHalf) (sets : List SetBits) (x : T) (c : ChangesSets {E = E} keys true h.sets (Ok x) sets) (inside : AreInside h.sets keys) where
  pub all_due : bits_due sets ≡ zeros (noted (due_of h) keys)
  all_due = fun_ext (λ set. fun_ext (λ seg.
      ap (λ (n : ℕ). zero_due (nat_lt seg n && set_of (set_at sets set).bits seg)) (ap (λ (s : SetBits). s.bits.segs) (c.part set).rest)
      ∙ all_one (nat_lt seg (set_at h.sets set).bits.segs) (set_of (set_at h.sets set).bits seg) (keys set seg) (set_of (set_at sets set).bits seg) (freeing_place h.session (places_at h set) seg)
      ((c.done set).memory seg) (inside.each set seg)))

-- ---- the memory and the volumes of a half in no session

module _ {T E : Type 0} (keys : Keys) (on : Bool) (h : SenderHalf) (sets : List SetBits) (r : Result T E) (c : ChangesSets keys on h.sets r sets) where
  slot_is : (set : ℕ) → (set_at sets set).slot ≡ (set_at h.sets set).slot
  slot_is set = ap (λ (s : SetBits). s.slot) (c.part set).rest

  segs_is : (set : ℕ) → (set_at sets set).bits.segs ≡ (set_at h.sets set).bits.segs
  segs_is set = ap (λ (s : SetBits). s.bits.segs) (c.part set).rest

  pub kept_changed : IsKept h → is_session h.session.state ≡ false → IsKept (with_sets h sets)
  kept_changed kept off = record {
    count = kept.count ∙ sym c.count;
    few = omega (arith, kept.few, c.count);
    slots = record {
      low = λ set there. subst (λ (slot : ℕ). slot < 16) (sym (slot_is set)) (kept.slots.low set (omega (arith, there, c.count)));
      apart = λ set other there also same. kept.slots.apart set other (omega (arith, there, c.count)) (omega (arith, also, c.count)) (sym (slot_is other) ∙ same ∙ slot_is set);
    };
    places = λ set there. let p = kept.places set (omega (arith, there, c.count)) in record {
      segs = p.segs ∙ sym (segs_is set);
      waiting = p.waiting ∙ sym (segs_is set);
      room = p.room;
    };
    note = kept.note;
    fits = kept.fits;
    session = kept.session;
    sends = λ on. absurd (never (is_session h.session.state) off on);
    away = kept.away;
  }

  pub over_noted : (below new : BelowSeen) → new.sizes ≡ below.sizes → IsOver below h.sets → IsOver new sets
  over_noted below new sizes over = over_changed below new h.sets sets sizes c.count (sets_stay keys on h.sets sets r c) over

  -- a half is found with other bits, by a note with its contents
  pub found_changed : (below new : BelowSeen) (n : Note) (number : ℕ) (role : HalfRole) (due : Due) → n.session ≡ number → n.role ≡ role → n.empty ≡ h.note.empty → new.images ≡ below.images
      → due_found new (map part_of sets) ≡ zeros due
      → found_by n (parts_of (held new (with_sets h sets))) ≡ found_of (record (sender_of (held below h)) { number = number; role = role; due = due })
  found_changed below new n number role due session same empty images is = λ i. record {
    on = λ set. count set i;
    here = λ set. count set i;
    contents = λ set. count set i && is_filled (empty i) (slot set i);
    images = λ set. cond (count set i) (get_or (images i) (vol set i) []) [];
    number = session i;
    role = same i;
    state = Logging;
    last = 0;
    known = 0;
    taken = 0;
    applied = 0;
    due = is i;
    held = [];
    kept = no_sets;
  }
    where
      count : (set : ℕ) → nat_lt set (length (map part_of sets)) ≡ nat_lt set (length h.sets)
      count set = there_is sets set ∙ ap (λ (n : ℕ). nat_lt set n) c.count

      slot : (set : ℕ) → (get_or (map part_of sets) set no_part).slot ≡ (set_at h.sets set).slot
      slot set = ap (λ (m : MirrorSet). m.slot) (part_is sets set) ∙ slot_is set

      vol : (set : ℕ) → (get_or (map part_of sets) set no_part).vol ≡ (set_at h.sets set).vol
      vol set = ap (λ (m : MirrorSet). m.vol) (part_is sets set) ∙ (sets_stay keys on h.sets sets r c set).vol

-- ---- what is found of it

pub step_changed : {T E : Type 0} (keys : Keys) (on : Bool) (old sets : List SetBits) (x : T) → ChangesSets {E = E} keys on old (Ok x) sets → AreInStep old → AreInStep sets
step_changed keys on old sets x c step = record { told = λ t. (c.part t).lasts.told (step.told t); step = λ t. (c.done t).step (step.told t) (step.step t) }

-- all bits are found
pub found_all : {T E : Type 0} (keys : Keys) (below new : BelowSeen) (h : SenderHalf) (sets : List SetBits) (x : T) (c : ChangesSets {E = E} keys true h.sets (Ok x) sets) → AreInside h.sets keys → AreInStep h.sets → new.sizes ≡ below.sizes → IsOver below h.sets
    → due_found new (map part_of sets) ≡ zeros (noted (due_of h) keys)
found_all {T = T} {E = E} keys below new h sets x c inside step sizes over =
    fun_ext (λ set. fun_ext (λ seg. ap (λ (b : Bool). zero_due b) (found_bit new sets (step_changed keys true h.sets sets x c step) (over_noted keys true h sets (Ok x) c below new sizes over) set seg)))
    ∙ all_due keys h sets x c inside

-- some are
module _ {T E : Type 0} (keys : Keys) (below new : BelowSeen) (h : SenderHalf) (sets : List SetBits) (r : Result T E) (c : ChangesSets keys true h.sets r sets) (step : AreInStep h.sets) where
  abbrev holds : (t : ℕ) → HoldsPart (keys t) true (set_of (set_at h.sets t).bits) (set_at sets t).bits.disk.image (set_at h.sets t).bits.segs
  holds t = (c.part t).disk (step.told t) (step.step t)

  -- those that are on the disk, of the keys
  abbrev pub some_keys : Keys
  some_keys t seg = nat_lt seg (set_at h.sets t).bits.segs && (keys t seg && (holds t).set seg)

  pub found_some : new.sizes ≡ below.sizes → IsOver below h.sets → due_found new (map part_of sets) ≡ zeros (noted (due_of h) some_keys)
  found_some sizes over = fun_ext (λ t. fun_ext (λ seg.
      ap (λ (b : Bool). zero_due b) (found_held new sets (λ t s. (holds t).set s)
      (λ t. subst (λ (n : ℕ). IsOnDisk (set_at sets t).bits.disk.image n (holds t).set) (sym (ap (λ (s : SetBits). s.bits.segs) (c.part t).rest)) (holds t).held)
      (over_noted keys true h sets r c below new sizes over) t seg)
      ∙ ap (λ (n : ℕ). zero_due (nat_lt seg n && (holds t).set seg)) (ap (λ (s : SetBits). s.bits.segs) (c.part t).rest)
      ∙ some_one (nat_lt seg (set_at h.sets t).bits.segs) (set_of (set_at h.sets t).bits seg) (keys t seg) ((holds t).set seg) (freeing_place h.session (places_at h t) seg)
      ((holds t).part.inside seg) ((holds t).part.outside seg)))

  within_keys : (a b c : Bool) → (a && (b && c)) ≡ true → b ≡ true
  within_keys true true c is = refl
  within_keys true false c is = is
  within_keys false b c is = absurd (no is)
    where
      no : false ≡ true → ⊥
      no is = cc

  pub some_within : (t seg : ℕ) → some_keys t seg ≡ true → keys t seg ≡ true
  some_within t seg on = within_keys (nat_lt seg (set_at h.sets t).bits.segs) (keys t seg) ((holds t).set seg) on

-- places are made for the segments of sets, which do not change
pub places_same : {T E : Type 0} (keys : Keys) (on : Bool) (places : ℕ) (old new : List SetBits) (r : Result T E) → ChangesSets keys on old r new → places_for places new ≡ places_for places old
places_same keys on places old new r c = ext_get_or no_places (places_for places new) (places_for places old)
    (length-map new (λ s. no_places_for places s.bits.segs) ∙ c.count ∙ sym (length-map old (λ s. no_places_for places s.bits.segs)))
    (λ set low. at set (omega (arith, low, length-map new (λ s. no_places_for places s.bits.segs))))
  where
    at : (set : ℕ) → set < length new → get_or (places_for places new) set no_places ≡ get_or (places_for places old) set no_places
    at set low = within (λ (s : SetBits). no_places_for places s.bits.segs) new set no_set no_places low
        ∙ ap (λ (s : SetBits). no_places_for places s.bits.segs) (c.part set).rest
        ∙ sym (within (λ (s : SetBits). no_places_for places s.bits.segs) old set no_set no_places (omega (arith, low, c.count)))
