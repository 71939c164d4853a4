-- What an errand makes of sets that it may restore.
use Rattle.std.proofs.Common.{◌≡◌, inl, inr, ℕ, ◌^◌, ◌<◌, ◌≤◌, Bool, true, false, ◌||◌, not, eqb, List, [], ◌∷◌, length, get_or, Result, ◌∙◌, sym, refl, ap, subst, arith}
use Rattle.std.specs.Int.{bit_at}
use Rattle.std.proofs.lemmas.Bool.{cases_Bool, eqb-true}
use Rattle.std.proofs.lemmas.Bool.Decides.{nat_tests}
use Rattle.std.specs.Str.{bytes_eq}
use Rattle.std.proofs.lemmas.Slice.Eq.{bytes_eq-Decides}
use Rattle.std.proofs.lemmas.Nat.Bits.{bit_at-lt, same_from_bits_below}
use Rattle.avs_seg.specs.Segment.{seg_count}
use Rattle.avs_dev.specs.Below.{BelowSeen, size_of}
use Rattle.avs_mirrors.specs.Due.{Keys}
use Rattle.avs_sync.specs.Note.{note_bytes}
use Rattle.avs_sync.specs.declared.note.Note.{Note}
use Rattle.avs_halves.specs.Changing.{ChangesSets}
use Rattle.avs_halves.specs.Found.{is_filled}
use Rattle.avs_halves.specs.Marks.{AreMarks, AreNamedFilled, Mark, IsUnnamed, marked, named}
use Rattle.avs_halves.specs.Over.{IsOver}
use Rattle.avs_halves.specs.SetBits.{SetBits, set_at}
use Rattle.avs_halves.proofs.Filling.{either}
use Rattle.avs_halves.specs.Restoring.{ChangesVolume, IsGiven, KeepsVolume, RanWith, RestoresOrLeaves}

-- bytes that are not told apart
pub same_bytes : (a b : List ℕ) → false ≡ not (bytes_eq a b) → a ≡ b
same_bytes a b is = (bytes_eq-Decides a b).0 (turned (bytes_eq a b) is)
  where
    turned : (t : Bool) → false ≡ not t → t ≡ true
    turned true is = refl
    turned false is = is

-- ---- the volumes of the sets are there still

pub record IsThere (old new : BelowSeen) (vol : ℕ) : Type 0 where
  pub there : vol < length new.sizes
  pub size : size_of new vol ≡ size_of old vol

module _ (sets : List SetBits) (marks : List Mark) (bytes : List ℕ) (ok : Bool) (old new : BelowSeen) where
  pub volume_there : RestoresOrLeaves sets marks bytes ok old new → (set : ℕ) → set < length sets → IsThere old new (set_at sets set).vol
  volume_there (inl l) set low = let v = l.each set low in record { there = v.there; size = v.size }
  volume_there (inr r) set low = elim (cases_Bool (named marks set)) [
    | inl on ↦ let v = r.changed set on in record { there = v.there; size = v.size }
    | inr off ↦ let v = r.others set low off in record { there = v.there; size = v.size }
  ]

  pub over_run : RestoresOrLeaves sets marks bytes ok old new → IsOver old sets → IsOver new sets
  over_run run over = record {
    few = over.few;
    each = λ set low. let v = over.each set low in let w = volume_there run set low in record {
      there = w.there;
      small = subst (λ (n : ℕ). n ≤ 2 ^ 31) (sym w.size) v.small;
      segs = v.segs ∙ ap seg_count (sym w.size);
      slot = v.slot;
    };
    apart = over.apart;
    slots = over.slots;
  }

-- it is said of the volumes alone
module _ (sets other : List SetBits) (count : length other ≡ length sets) (vol_is : (set : ℕ) → (set_at other set).vol ≡ (set_at sets set).vol) where
  kept_same : (old new : BelowSeen) (set : ℕ) → KeepsVolume old new (set_at sets set).vol → KeepsVolume old new (set_at other set).vol
  kept_same old new set k = subst (λ (v : ℕ). KeepsVolume old new v) (sym (vol_is set)) k

  pub run_same : (marks : List Mark) (bytes : List ℕ) (ok : Bool) (old new : BelowSeen) → RestoresOrLeaves sets marks bytes ok old new → RestoresOrLeaves other marks bytes ok old new
  run_same marks bytes ok old new (inl l) = inl (record { note = l.note; stored = l.stored; each = λ set low. kept_same old new set (l.each set (omega (arith, low, count))) })
  run_same marks bytes ok old new (inr r) = inr (record {
    note = r.note;
    stored = r.stored;
    changed = λ set is. subst (λ (v : ℕ). ChangesVolume (marked marks set) old new v) (sym (vol_is set)) (r.changed set is);
    others = λ set low off. kept_same old new set (r.others set (omega (arith, low, count)) off);
  })

-- ---- sets of which bits alone have changed

module _ {T E : Type 0} (keys : Keys) (on : Bool) (old_sets sets : List SetBits) (r : Result T E) (c : ChangesSets keys on old_sets r sets) where
  slot_is : (set : ℕ) → (set_at sets set).slot ≡ (set_at old_sets set).slot
  slot_is set = ap (λ (s : SetBits). s.slot) (c.part set).rest

  vol_is : (set : ℕ) → (set_at sets set).vol ≡ (set_at old_sets set).vol
  vol_is set = ap (λ (s : SetBits). s.vol) (c.part set).rest

  pub run_noted : (marks : List Mark) (bytes : List ℕ) (ok : Bool) (old new : BelowSeen) → RestoresOrLeaves old_sets marks bytes ok old new → RestoresOrLeaves sets marks bytes ok old new
  run_noted marks bytes ok old new run = run_same old_sets sets c.count vol_is marks bytes ok old new run

  pub run_before : (marks : List Mark) (bytes : List ℕ) (ok : Bool) (old new : BelowSeen) → RestoresOrLeaves sets marks bytes ok old new → RestoresOrLeaves old_sets marks bytes ok old new
  run_before marks bytes ok old new run = run_same sets old_sets (sym c.count) (λ set. sym (vol_is set)) marks bytes ok old new run

  pub marks_noted : (marks : List Mark) → AreMarks old_sets marks → AreMarks sets marks
  marks_noted marks are = record {
    each = λ k d low. let m = are.each k d low in record {
      there = subst (λ (n : ℕ). (get_or marks k d).0 < n) (sym c.count) m.there;
      segs = λ i x below. subst (λ (n : ℕ). get_or (get_or marks k d).1 i x < n) (sym (ap (λ (s : SetBits). s.bits.segs) (c.part (get_or marks k d).0).rest)) (m.segs i x below);
    };
  }

  pub filled_noted : (marks : List Mark) (was now : ℕ) → AreNamedFilled sets marks was now → AreNamedFilled old_sets marks was now
  filled_noted marks was now f = record {
    sets_are = λ set on. subst (λ (slot : ℕ). is_filled now slot ≡ true) (slot_is set) (f.sets_are set on);
    others = λ slot low un. f.others slot low (λ set on same. un set on (sym (slot_is set) ∙ same));
  }

  pub given_noted : (note : Note) (marks : List Mark) (bytes : List ℕ) → IsGiven sets note marks bytes → IsGiven old_sets note marks bytes
  given_noted note marks bytes g = record {
    note = g.note;
    stands = g.stands;
    restoring = record { is = g.restoring.is; filled = filled_noted marks note.empty g.note.empty g.restoring.filled };
  }

  pub ran_noted : (ran : List ℕ → Type 0) (note : Note) (marks : List Mark) → RanWith ran sets note marks → RanWith ran old_sets note marks
  ran_noted ran note marks r = record { bytes = r.bytes; given = given_noted note marks r.bytes r.given; run = r.run }

-- ---- the note that is given is one

abbrev slot_named : List SetBits → List Mark → ℕ → Bool
slot_named sets [] slot = false
slot_named sets (m ∷ ms) slot = eqb (set_at sets m.0).slot slot || slot_named sets ms slot

no_true : false ≡ true → ⊥
no_true is = cc

both_off : (a b : Bool) → (a || b) ≡ false → (a ≡ false) × (b ≡ false)
both_off true b is = cc
both_off false b is = (refl, is)

on_left : (a b : Bool) → a ≡ true → (a || b) ≡ true
on_left a b on = rw on refl

on_right : (a b : Bool) → b ≡ true → (a || b) ≡ true
on_right true b on = refl
on_right false b on = on

-- a set with that slot
record HasSlot (sets : List SetBits) (marks : List Mark) (slot : ℕ) : Type 0 where
  pub set : ℕ
  pub on : named marks set ≡ true
  pub same : (set_at sets set).slot ≡ slot

slot_of : (sets : List SetBits) (marks : List Mark) (slot : ℕ) → slot_named sets marks slot ≡ true → HasSlot sets marks slot
slot_of sets [] slot is = absurd (no_true is)
slot_of sets (m ∷ ms) slot is = elim (either (eqb (set_at sets m.0).slot slot) (slot_named sets ms slot) is) [
  | inl here ↦ record { set = m.0; on = on_left (eqb m.0 m.0) (named ms m.0) (self m.0); same = eqb-true (set_at sets m.0).slot slot here }
  | inr more ↦ let s = slot_of sets ms slot more in record { set = s.set; on = on_right (eqb s.set m.0) (named ms s.set) s.on; same = s.same }
]
  where
    self : (k : ℕ) → eqb k k ≡ true
    self k = grind (arith, nat_tests)

slot_not : (sets : List SetBits) (marks : List Mark) (slot : ℕ) → slot_named sets marks slot ≡ false → IsUnnamed sets marks slot
slot_not sets [] slot off set on same = no_true on
slot_not sets (m ∷ ms) slot off set on same =
    let apart = both_off (eqb (set_at sets m.0).slot slot) (slot_named sets ms slot) off in
    elim (either (eqb set m.0) (named ms set) on) [
      | inl here ↦ no_true (sym apart.0 ∙ is_eq (set_at sets m.0).slot slot (ap (λ (k : ℕ). (set_at sets k).slot) (sym (eqb-true set m.0 here)) ∙ same))
      | inr more ↦ slot_not sets ms slot apart.1 set more same
    ]
  where
    is_eq : (a b : ℕ) → a ≡ b → eqb a b ≡ true
    is_eq a b same = grind (arith, nat_tests)

-- a filled slot is a zero bit
zero_bit : (empty slot : ℕ) → is_filled empty slot ≡ true → bit_at empty slot ≡ 0
zero_bit empty slot is = zero (bit_at empty slot) (bit_at-lt empty slot) is
  where
    zero : (b : ℕ) → b < 2 → not (eqb b 1) ≡ true → b ≡ 0
    zero b low is = grind (arith, nat_tests)

pub one_empty : (sets : List SetBits) (marks : List Mark) (old a b : ℕ) → a < 2 ^ 16 → b < 2 ^ 16 → AreNamedFilled sets marks old a → AreNamedFilled sets marks old b → a ≡ b
one_empty sets marks old a b low high f g = same_from_bits_below 16 a b low high (λ slot small. elim (cases_Bool (slot_named sets marks slot)) [
  | inl is ↦ let s = slot_of sets marks slot is in
      subst (λ (k : ℕ). bit_at a k ≡ bit_at b k) s.same (zero_bit a (set_at sets s.set).slot (f.sets_are s.set s.on) ∙ sym (zero_bit b (set_at sets s.set).slot (g.sets_are s.set s.on)))
  | inr off ↦ f.others slot small (slot_not sets marks slot off) ∙ sym (g.others slot small (slot_not sets marks slot off))
])

pub one_given : (sets : List SetBits) (note : Note) (marks : List Mark) (a b : List ℕ) → IsGiven sets note marks a → IsGiven sets note marks b → a ≡ b
one_given sets note marks a b f g = f.stands.spelled ∙ ap note_bytes (f.restoring.is ∙ ap (λ (e : ℕ). record note { empty = e }) (one_empty sets marks note.empty f.note.empty g.note.empty f.stands.fits.empty g.stands.fits.empty f.restoring.filled g.restoring.filled) ∙ sym g.restoring.is) ∙ sym g.stands.spelled
