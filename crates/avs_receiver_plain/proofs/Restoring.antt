-- What an errand that restores blocks makes of a receiver's sets.
use Rattle.std.proofs.Common.{◌≡◌, ◌≢◌, ◌⊎◌, inl, inr, ℕ, ◌+◌, ◌-◌, ◌/◌, ◌<◌, ◌≤◌, Bool, true, false, List, [], ◌∷◌, length, map, slice_index, Some, is_some, is_ok, IsErr, Result, Ok, Err, refl, sym, ◌∙◌, ap, subst, arith}
use Rattle.std.specs.Prelude.{All, ⊤}
use Rattle.std.proofs.lemmas.Bool.{cases_Bool, cases_lt}
use Rattle.std.proofs.lemmas.Bool.Decides.{nat_tests}
use Rattle.std.proofs.lemmas.List.{length-map}
use Rattle.std.proofs.lemmas.List.Elements.{All-cons, All-nil}
use Rattle.avs_seg.specs.Image.{Image, ChangesWithin, block_at}
use Rattle.avs_dev.specs.Seen.{Seen, shown}
use Rattle.avs_dev.specs.Below.{BelowSeen, image_of, size_of, IsToldAt, IsNoteTold, IsRangeOf, SetsNote, WritesBelow}
use Rattle.avs_dev.specs.Bare.{BareDisks, below_of, volume_at, WritesNote, WritesVolume}
use Rattle.avs_dev.proofs.BareCalls.{Writes-below, has_blocks}
use Rattle.avs_model.specs.declared.answer.Refusal.{Refusal}
use Rattle.avs_halves.specs.SetBits.{set_at}
use Rattle.avs_halves.specs.Marks.{AreMarks, IsMark, Mark, marked, named}
use Rattle.avs_halves.specs.Restoring.{ChangesVolume, KeepsVolume, RestoresOrLeaves}
use Rattle.avs_receiver.specs.Held.{ReceiverHalf, ReceiverHeld}
use Rattle.avs_receiver.specs.Restoring.{Restores, RunsOnce}
use Rattle.avs_receiver_plain.specs.Sized.{IsPut, IsSized, LeavesOrPuts, LieIn, ends}
use Rattle.avs_receiver_plain.proofs.Sizing.{kept_sized}

-- ---- the errand

-- a note changes no volume
note_images : {T E : Type 0} (b m : BareDisks) (note : List ℕ) (result : Result T E) → WritesNote b note result m → (below_of m).images ≡ (below_of b).images
note_images b m note result w = ap (λ (x : BareDisks). map shown x.volumes) w.rest

module _ {T E : Type 0} (S : Type 0) (b m : BareDisks) (note : List ℕ) (vol at count : ℕ) (e : E) (s : SetsNote {T = T} S (below_of b) note (Err e) (below_of m)) (w : WritesNote {T = T} b note (Err e) m) where
  images : (below_of m).images ≡ (below_of b).images
  images = note_images b m note (Err e) w

  image : (v : ℕ) → image_of (below_of m) v ≡ image_of (below_of b) v
  image v = ap (λ (l : List Image). get_image l v) images
    where
      get_image : List Image → ℕ → Image
      get_image l v = image_of (record (below_of b) { images = l }) v

  put_none : (IsNoteTold (below_of b) → (below_of m).stored ≡ Some note) → IsPut vol at count note false (below_of b) (below_of m)
  put_none stored = record {
    note = λ ok. absurd (cc);
    stored = stored;
    within = λ told. record {
      same_length = ap (λ (i : Image). length i) (image vol);
      outside = λ i out. ap (λ (g : Image). block_at g i) (image vol);
    };
    others = λ other apart. image other;
  }

  pub not_noted : LeavesOrPuts vol at count note false (below_of b) (below_of m)
  not_noted = record {
    sizes = s.sizes;
    either = elim (cases_Bool (is_some (below_of b).stored)) [
      | inl told ↦ elim (s.left told) [
        | inl same ↦ inl (record { note = λ ok. absurd (cc); stored = same; images = images })
        | inr new ↦ inr (put_none (λ _. new))
      ]
      | inr none ↦ inr (put_none (λ told. absurd (cc)))
    ];
  }

  pub not_noted_by : {T2 E2 : Type 0} (r : Result T2 E2) → IsErr r → LeavesOrPuts vol at count note (is_ok r) (below_of b) (below_of m)
  not_noted_by (Ok x) failed = absurd (never failed)
    where
      never : false ≡ true → ⊥
      never is = cc
  not_noted_by (Err e2) failed = not_noted

module _ {T E : Type 0} (S : Type 0) (b m : BareDisks) (note : List ℕ) (vol at : ℕ) (bytes : List ℕ) (u : T) (s : SetsNote {E = E} S (below_of b) note (Ok u) (below_of m)) (w : WritesNote {E = E} b note (Ok u) m) (r : IsRangeOf (below_of b) vol at (length bytes)) where
  noted_images : (below_of m).images ≡ (below_of b).images
  noted_images = note_images b m note (Ok u) w

  noted_image : (v : ℕ) → image_of (below_of m) v ≡ image_of (below_of b) v
  noted_image v = ap (λ (l : List Image). image_of (record (below_of b) { images = l }) v) noted_images

  pub noted_range : IsRangeOf (below_of m) vol at (length bytes)
  noted_range = record {
    there = subst (λ (l : List ℕ). vol < length l) (sym s.sizes) r.there;
    some = r.some;
    whole = r.whole;
    inside = subst (λ (l : List ℕ). at + length bytes / 512 ≤ slice_index l vol) (sym s.sizes) r.inside;
  }

  module _ {T2 E2 : Type 0} (S2 : Type 0) (n : BareDisks) (result : Result T2 E2) (below : WritesBelow S2 (below_of m) vol at bytes result (below_of n)) (v : WritesVolume m vol at bytes result n) where
    there : vol < length m.volumes
    there = omega (arith, noted_range.there, length-map m.volumes (λ (d : Seen). d.size))

    within : IsToldAt (below_of b) vol → ChangesWithin at (length bytes / 512) (image_of (below_of b) vol) (image_of (below_of n) vol)
    within told =
        let told_m : IsToldAt (below_of m) vol = ap (λ (i : Image). length i) (noted_image vol) ∙ told ∙ ap (λ (l : List ℕ). slice_index l vol) (sym s.sizes) in
        let some = has_blocks m vol there at (length bytes) noted_range in
        let all = Writes-below m vol at bytes result (volume_at n vol) there some {S = ⊤} v.writes in
        subst (λ (i : Image). ChangesWithin at (length bytes / 512) i (image_of (below_of n) vol)) (noted_image vol)
        (subst (λ (x : BareDisks). ChangesWithin at (length bytes / 512) (image_of (below_of m) vol) (image_of (below_of x) vol)) (sym v.rest) (all.within tt told_m))

    pub noted_written : LeavesOrPuts vol at (length bytes / 512) note (is_ok result) (below_of b) (below_of n)
    noted_written = record {
      sizes = below.sizes ∙ s.sizes;
      either = inr (record {
        note = λ ok. below.note ∙ s.done;
        stored = λ told. below.stored ∙ s.stored told;
        within = within;
        others = λ other apart. below.kept other apart ∙ noted_image other;
      });
    }

-- where it does nothing
pub left_alone : (vol at count : ℕ) (note : List ℕ) (ok : Bool) (b : BelowSeen) → LeavesOrPuts vol at count note ok b b
left_alone vol at count note ok b = record { sizes = refl; either = inl (record { note = λ is. refl; stored = refl; images = refl }) }

-- ---- the marks

named_is : (t set : ℕ) (segs : List ℕ) → named ((set, segs) ∷ []) t ≡ true → t ≡ set
named_is t set segs on = grind (arith, nat_tests)

unnamed_is : (t set : ℕ) (segs : List ℕ) → named ((set, segs) ∷ []) t ≡ false → t ≢ set
unnamed_is t set segs off = λ same. grind (arith, nat_tests)

not_first : (set a c seg : ℕ) → marked ((set, a ∷ c ∷ []) ∷ []) set seg ≡ false → seg ≢ a
not_first set a c seg off = λ same. grind (arith, nat_tests)

not_last : (set a c seg : ℕ) → marked ((set, a ∷ c ∷ []) ∷ []) set seg ≡ false → seg ≢ c
not_last set a c seg off = λ same. grind (arith, nat_tests)

ends_touched : (at count i : ℕ) → 0 < count → count ≤ 64 → at ≤ i → i < at + count → i / 64 ≢ at / 64 → i / 64 ≢ (at + count - 1) / 64 → ⊥
ends_touched at count i some few from below first last = omega (arith, some, few, from, below, first, last)

outside_ends : (set at count i : ℕ) → 0 < count → count ≤ 64 → marked (ends set at count) set (i / 64) ≡ false → (i < at) ⊎ (at + count ≤ i)
outside_ends set at count i some few off = elim (cases_lt i at) [
  | inl before ↦ inl before
  | inr from ↦ elim (cases_lt i (at + count)) [
    | inl below ↦ absurd (ends_touched at count i some few from below (not_first set (at / 64) ((at + count - 1) / 64) (i / 64) off) (not_last set (at / 64) ((at + count - 1) / 64) (i / 64) off))
    | inr behind ↦ inr behind
  ]
]

-- ---- the sets

module _ (sizes vols : List ℕ) (h : ReceiverHeld) (set at count : ℕ) (s : IsSized sizes vols h) (lies : LieIn sizes set at count) (some : 0 < count) (few : count ≤ 64) where
  is_there : set < length h.half.sets
  is_there = omega (arith, lies.there, s.count)

  low_first : at / 64 < (set_at h.half.sets set).bits.segs
  low_first = omega (arith, s.segs set lies.there, lies.inside, some)

  low_last : (at + count - 1) / 64 < (set_at h.half.sets set).bits.segs
  low_last = omega (arith, s.segs set lies.there, lies.inside, some)

  abbrev segs : List ℕ
  segs = (at / 64) ∷ ((at + count - 1) / 64) ∷ []

  low : All (λ seg. seg < (set_at h.half.sets set).bits.segs) segs
  low = let is_low = (λ (seg : ℕ). seg < (set_at h.half.sets set).bits.segs) in All-cons is_low (at / 64) (((at + count - 1) / 64) ∷ []) low_first (All-cons is_low ((at + count - 1) / 64) [] low_last (All-nil is_low))

  pub ends_marks : AreMarks h.half.sets (ends set at count)
  ends_marks = record { each = All-cons (IsMark h.half.sets) (set, segs) [] (record { there = is_there; segs = low }) (All-nil (IsMark h.half.sets)) }

  module _ (note : List ℕ) (ok : Bool) (vol : ℕ) (new : BelowSeen) (vol_is : vol ≡ slice_index vols set) where
    own : (set_at h.half.sets set).vol ≡ vol
    own = s.over.is set lies.there ∙ sym vol_is

    keeps : new.sizes ≡ h.below.sizes → (t : ℕ) → t < length h.half.sets → image_of new (set_at h.half.sets t).vol ≡ image_of h.below (set_at h.half.sets t).vol → KeepsVolume h.below new (set_at h.half.sets t).vol
    keeps sizes t is same = record {
      there = subst (λ (l : List ℕ). (set_at h.half.sets t).vol < length l) (sym sizes) (s.over.there t (omega (arith, is, s.count)));
      size = ap (λ (l : List ℕ). slice_index l (set_at h.half.sets t).vol) sizes;
      image = same;
    }

    changes : new.sizes ≡ h.below.sizes → IsPut vol at count note ok h.below new → ChangesVolume (marked (ends set at count) set) h.below new (set_at h.half.sets set).vol
    changes sizes p =
        let v = (set_at h.half.sets set).vol in
        let within : (IsToldAt h.below v → ChangesWithin at count (image_of h.below v) (image_of new v)) = subst (λ (k : ℕ). IsToldAt h.below k → ChangesWithin at count (image_of h.below k) (image_of new k)) (sym own) p.within in
        let size : size_of new v ≡ size_of h.below v = ap (λ (l : List ℕ). slice_index l v) sizes in
        record {
          there = subst (λ (l : List ℕ). v < length l) (sym sizes) (s.over.there set lies.there);
          size = size;
          told = λ told. (within told).same_length ∙ told ∙ sym size;
          outside = λ told i off. (within told).outside i (outside_ends set at count i some few off);
        }

    pub may_restore : LeavesOrPuts vol at count note ok h.below new → RestoresOrLeaves h.half.sets (ends set at count) note ok h.below new
    may_restore run = elim run.either [
      | inl l ↦ inl (record {
        note = l.note;
        stored = l.stored;
        each = λ t is. keeps run.sizes t is (ap (λ (i : List Image). image_of (record new { images = i }) (set_at h.half.sets t).vol) l.images);
      })
      | inr p ↦ inr (record {
        note = p.note;
        stored = p.stored;
        changed = λ t on. subst (λ (k : ℕ). ChangesVolume (marked (ends set at count) k) h.below new (set_at h.half.sets k).vol) (sym (named_is t set segs on)) (changes run.sizes p);
        others = λ t is off. keeps run.sizes t is (p.others (set_at h.half.sets t).vol (λ same. unnamed_is t set segs off (s.over.own set t lies.there (omega (arith, is, s.count)) (same ∙ sym own))));
      })
    ]

-- ---- the receiver behind it

pub ran_sizes : (vol at count : ℕ) (h : ReceiverHalf) (marks : List Mark) (ok : Bool) (b new : BareDisks) {X : Type 0}
    → RunsOnce (λ bytes. LeavesOrPuts vol at count bytes ok (below_of b) (below_of new)) h marks ok (X × (new ≡ b)) → (below_of new).sizes ≡ (below_of b).sizes
ran_sizes vol at count h marks ok b new run = elim run [
  | inl none ↦ ap (λ (x : BareDisks). (below_of x).sizes) none.1.1
  | inr one ↦ one.1.run.sizes
]

module _ (sizes vols : List ℕ) (sound sound_new : Type 0) (old : ReceiverHeld) (marks : List Mark) where
  pub restored_sized : (result : Result (Unit {0}) Refusal) (new : ReceiverHeld) → IsSized sizes vols old → new.below.sizes ≡ old.below.sizes → Restores sound sound_new old marks result new → IsSized sizes vols new
  restored_sized (Ok u) new s same r = kept_sized sizes vols old new s same r.stays.count (λ t. (r.stays.sets t).vol) (λ t. (r.stays.sets t).segs)
  restored_sized (Err why) new s same r = elim r [
    | inl refused ↦ subst (λ (x : ReceiverHeld). IsSized sizes vols x) (sym refused.wrong.kept) s
    | inr stopped ↦ kept_sized sizes vols old new s same stopped.stays.count (λ t. (stopped.stays.sets t).vol) (λ t. (stopped.stays.sets t).segs)
  ]
