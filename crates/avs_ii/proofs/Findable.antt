-- A set that is found again, whatever a call on it answered.
use Rattle.std.proofs.Common.{◌≡◌, ℕ, zero, suc, ◌+◌, ◌<◌, Bool, true, false, not, cond, All, List, [], ◌∷◌, length, map, get_or, is_some, refl, sym, ◌∙◌, ap, subst, arith}
use Rattle.avs_seg.specs.Image.{Image, range}
use Rattle.avs_seg.specs.Segment.{seg_count}
use Rattle.avs_dev.specs.Seen.{IsTold}
use Rattle.avs_flip.specs.Areas.{Areas, live, staged}
use Rattle.avs_code.specs.declared.slot_table.Slot.{Slot}
use Rattle.avs_chunk.specs.States.{state_on}
use Rattle.avs_chunk.specs.ChunkSet.{ChunkSet, chunks_of}
use Rattle.avs_chunk.specs.Calls.{Stays}
use Rattle.avs_ii.specs.Held.{HeldSet, enabled_in, is_live}
use Rattle.avs_ii.specs.Sound.{IsSoundSet, HasNoneBack, IsFindable}
use Rattle.avs_ii.specs.Saved.{IsSettledInMemory}
use Rattle.avs_ii.specs.AsBelow.{quiet_set}
use Rattle.avs_ii.proofs.Making.{all_of, of_all, all_none}

-- an enabled set that is sound
pub sound_findable : (slots : List Slot) (sets : List HeldSet) → All (IsSoundSet slots) sets → All IsFindable sets
sound_findable slots sets sound = λ i d lt. let own = sound i d lt in record { told = own.known.bitmap; label = own.label; none_back = own.none_back }

-- the only set of a group
pub findable_one : (slots : List Slot) (s : HeldSet) → (is_live slots s.slot ≡ true → IsFindable s) → All IsFindable (enabled_in slots (s ∷ []))
findable_one slots s found = go (is_live slots s.slot) refl
  where
    go : (b : Bool) → is_live slots s.slot ≡ b → All IsFindable (cond b (s ∷ []) [])
    go true l = all_of IsFindable s (found l)
    go false l = all_none IsFindable

pub one_findable : (slots : List Slot) (s : HeldSet) → All IsFindable (enabled_in slots (s ∷ [])) → is_live slots s.slot ≡ true → IsFindable s
one_findable slots s all l = of_all IsFindable s (subst (λ (b : Bool). All IsFindable (cond b (s ∷ []) [])) l all)

-- what reading and arming change of its disks is no part of it
pub quiet_findable : (s : HeldSet) → IsFindable s → IsFindable (quiet_set s)
unfolding live
quiet_findable s found = record { told = found.told; label = record { label = found.label.label }; none_back = record { none = found.none_back.none } }

pub findable_quiet : (s : HeldSet) → IsFindable (quiet_set s) → IsFindable s
unfolding live
findable_quiet s found = record { told = found.told; label = record { label = found.label.label }; none_back = record { none = found.none_back.none } }

all_cons : {X : Type 0} (P : X → Type 0) (x : X) (l : List X) → P x → All P l → All P (x ∷ l)
all_cons {X = X} P x l p all = λ i d lt. go i d lt
  where
    go : (i : ℕ) (d : X) → i < length (x ∷ l) → P (get_or (x ∷ l) i d)
    go zero d lt = p
    go (suc i) d lt = all i d (omega (arith, lt))

-- of all sets of a group
pub all_quiet : (slots : List Slot) (sets : List HeldSet) → All IsFindable (enabled_in slots sets) → All IsFindable (enabled_in slots (map quiet_set sets))
all_quiet slots [] all = all
all_quiet slots (s ∷ sets) all = go (is_live slots s.slot) (enabled_in slots sets) (enabled_in slots (map quiet_set sets)) (all_quiet slots sets) all
  where
    go : (b : Bool) (l l' : List HeldSet) → (All IsFindable l → All IsFindable l') → All IsFindable (cond b (s ∷ l) l) → All IsFindable (cond b (quiet_set s ∷ l') l')
    go true l l' rest all = all_cons IsFindable (quiet_set s) l' (quiet_findable s (all 0 s (omega arith))) (rest (λ i d lt. all (suc i) d (omega (arith, lt))))
    go false l l' rest all = rest all

-- ---- the states by the one area and by the other

-- the set with an area live
abbrev pub with_area : ChunkSet → Bool → ChunkSet
with_area s b = record s { areas = record s.areas { live_b = b } }

swapped : (a : Areas) (l b : Bool) → a.live_b ≡ l → b ≡ not l → live (record a { live_b = b }) ≡ staged a
unfolding live staged
swapped a true b is other = ap (λ (t : Bool). range a.disk.image (cond t (a.first + a.len) a.first) a.len) other ∙ sym (ap (λ (t : Bool). range a.disk.image (cond t a.first (a.first + a.len)) a.len) is)
swapped a false b is other = ap (λ (t : Bool). range a.disk.image (cond t (a.first + a.len) a.first) a.len) other ∙ sym (ap (λ (t : Bool). range a.disk.image (cond t a.first (a.first + a.len)) a.len) is)

module _ (s c : ChunkSet) (stays : Stays s c) (settled : IsSettledInMemory s) (told : IsTold s.areas.disk) where
  in_set : (k : ℕ) → k < chunks_of c → k < chunks_of s
  in_set k lt = subst (λ (n : ℕ). k < seg_count n) stays.blocks lt

  none_live : HasNoneBack s → HasNoneBack c
  none_live back = record { none = λ k lt. (stays.not_back told k (in_set k lt) (record { memory = settled.none k (in_set k lt); disk = back.none k (in_set k lt) })).disk }

  same_area : (b : Bool) → s.areas.live_b ≡ b → HasNoneBack (with_area s b) → HasNoneBack (with_area c b)
  same_area b is back = subst (λ (t : Bool). HasNoneBack (with_area c t)) (stays.live_b ∙ is) (none_live (subst (λ (t : Bool). HasNoneBack (with_area s t)) (sym is) back))

  other_area : (b l : Bool) → s.areas.live_b ≡ l → b ≡ not l → HasNoneBack (with_area s b) → HasNoneBack (with_area c b)
  other_area b l is other back = record {
    none = λ k lt at. back.none k (in_set k lt) (ap (λ (i : Image). state_on i k) (swapped s.areas l b is other ∙ sym (stays.staged told) ∙ sym (swapped c.areas l b (stays.live_b ∙ is) other)) ∙ at);
  }

  by_area : (b l : Bool) → s.areas.live_b ≡ l → HasNoneBack (with_area s b) → HasNoneBack (with_area c b)
  by_area true true is back = same_area true is back
  by_area false false is back = same_area false is back
  by_area true false is back = other_area true false is refl back
  by_area false true is back = other_area false true is refl back

  -- whichever area is live
  pub none_kept : (b : Bool) → HasNoneBack (with_area s b) → HasNoneBack (with_area c b)
  none_kept b back = by_area b s.areas.live_b refl back

-- a set behind a call
pub findable_kept : (h : HeldSet) (c : ChunkSet) → Stays h.chunks c → IsSettledInMemory h.chunks → (IsTold h.chunks.areas.disk → IsTold c.areas.disk) → IsFindable h → IsFindable (record h { chunks = c })
findable_kept h c stays settled told found = record { told = told found.told; label = stays.label found.told found.label; none_back = none_live h.chunks c stays settled found.told found.none_back }

-- a read changes nothing of a set but the shadow's count of faults
pub stays_read : (s c : ChunkSet) → c ≡ record s { shadow = c.shadow } → is_some c.shadow ≡ is_some s.shadow → Stays s c
stays_read s c rest there = subst (λ (x : ChunkSet). Stays s x) (sym rest) (record {
  kind = refl;
  blocks = refl;
  there = there;
  first = refl;
  len = refl;
  live_b = refl;
  staged = λ _. refl;
  label = λ _ label. record { label = label.label };
  not_back = λ _ k lt not. record { memory = not.memory; disk = not.disk };
  clean = λ _ zeros. record { each = zeros.each };
})
