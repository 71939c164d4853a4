-- A set that is made or given up.
use Rattle.std.proofs.Common.{◌≡◌, ◌⊎◌, inl, inr, ℕ, ◌<◌, Bool, false, not, cond, eqb, ◌&&◌, IsTrue, All, List, [], ◌∷◌, ◌++◌, length, map, slice_index_or, Option, None, Some, is_some, refl, sym, ◌∙◌, ap, subst, arith}
use Rattle.std.proofs.lemmas.Bool.{false≢true, eq-eqb, ne_eqb}
use Rattle.std.proofs.lemmas.List.{append-nil, get_or-map}
use Rattle.avs_dev.specs.Seen.{Seen, IsTold}
use Rattle.avs_dev.specs.declared.back.Why.{Why}
use Rattle.avs_dev.specs.declared.back.Why.TheVariants as why
use Rattle.avs_code.specs.declared.group_blocks.GroupBlock.{GroupBlock}
use Rattle.avs_model.specs.declared.answer.Refusal.{Refusal}
use Rattle.avs_model.specs.declared.answer.Refusal.TheVariants.{Down, BadWord, NoFile, NoVolume, NoSet, NoGroup, NoTap, Exists, NotPrimary, LinkDown, BusyVolume, Length, Range, Size, Limit, Unlike, Tap, Stale, WrongState, NoPlace, Copying, NoContents, Offline, WrongStamp, Differ, QueueFull, Early, BadRecord, NoMemory, Fault}
use Rattle.avs_model.specs.declared.shadow.Kind.{Kind}
use Rattle.avs_model.specs.declared.shadow.Kind.TheVariants.{Ind, Dep, Compact}
use Rattle.avs_seg.specs.Segment.{seg_count}
use Rattle.avs_chunk.specs.States.{on_master, on_shadow, blocks_for}
use Rattle.avs_chunk.specs.ChunkSet.{ChunkSet, disk_of, both_disks}
use Rattle.avs_chunk.specs.Making.{Makes, MakeRefused, Fits, areas_on}
use Rattle.avs_ii.specs.Held.{HeldSet, IiDisks, disks_of, is_live, pending_at}
use Rattle.avs_ii.specs.Meaning.{meaning}
use Rattle.avs_ii.specs.Sound.{IsSound, IsFresh, IsSoundSet}
use Rattle.avs_ii.specs.Kept.{IsHeld, IsKept}
use Rattle.avs_ii.specs.Opening.{IsOnDisks}
use Rattle.avs_ii.specs.Parts.{set_parts}
use Rattle.avs_ii.specs.Making.{IsSetTold}
use Rattle.avs_ii.specs.Calls.{Enables, EnableRefused, GivesUp, IsFree, IsLimit, IsSizeOf, limit_at, blocks_at, refusal_of}
use Rattle.avs_ii.proofs.Forms.{group_none, group_pending}
use Rattle.avs_ii.proofs.Making.{the_group, pending_one, meaning_by, all_none, all_of}

-- the meaning stays where a pending set comes or goes
same_meaning : (state : Seen) (block : GroupBlock) (V : List Seen) (h : HeldSet) → is_live block.slots h.slot ≡ false → (sound : IsSound (the_group state block V [])) → meaning (the_group state block V (h ∷ [])) ≡ meaning (the_group state block V [])
same_meaning state block V h pending sound =
    meaning_by (the_group state block V (h ∷ [])) sound.holds
    ∙ group_pending block.slots block.note V h pending
    ∙ sym (meaning_by (the_group state block V []) sound.holds ∙ group_none block.slots block.note V)

sound_without : (state : Seen) (block : GroupBlock) (V : List Seen) (h : HeldSet) → IsSound (the_group state block V (h ∷ [])) → IsSound (the_group state block V [])
sound_without state block V h sound = record { holds = sound.holds; disks = record { told = sound.disks.told; each = all_none (IsSoundSet block.slots) } }

sound_with : (state : Seen) (block : GroupBlock) (V : List Seen) (h : HeldSet) → is_live block.slots h.slot ≡ false → IsSound (the_group state block V []) → IsSound (the_group state block V (h ∷ []))
sound_with state block V h pending sound = record {
  holds = sound.holds;
  disks = record {
    told = sound.disks.told;
    each = subst (λ (b : Bool). All (IsSoundSet block.slots) (cond b (h ∷ []) [])) (sym pending) (all_none (IsSoundSet block.slots));
  };
}

found_own : (state : Seen) (block : GroupBlock) (V : List Seen) (h : HeldSet) → is_live block.slots h.slot ≡ false → pending_at (the_group state block V (h ∷ [])) h.slot ≡ Some h
found_own state block V h pending =
    pending_one state block V h h.slot
    ∙ ap (λ (t : Bool). cond (not t && eqb h.slot h.slot) (Some h) None) pending
    ∙ ap (λ (t : Bool). cond t (Some h) None) (eq-eqb h.slot h.slot refl)

-- the disks of a set stand behind the others
disks_more : (state : Seen) (block : GroupBlock) (V : List Seen) (h : HeldSet) (shadow : Seen) → h.chunks.shadow ≡ Some shadow → disks_of (the_group state block V (h ∷ [])) ≡ disks_of (the_group state block V []) ++ shadow ∷ h.chunks.areas.disk ∷ []
disks_more state block V h shadow is =
    ap (λ (o : Option Seen). state ∷ V ++ (both_disks o h.chunks.areas.disk ++ [])) is
    ∙ ap (λ (l : List Seen). state ∷ l ++ shadow ∷ h.chunks.areas.disk ∷ []) (sym (append-nil V))

-- ---- a set is given up

pub gives_up : (state : Seen) (block : GroupBlock) (V : List Seen) (h : HeldSet) (shadow bitmap : Seen) → is_live block.slots h.slot ≡ false → h.chunks.shadow ≡ Some shadow → bitmap ≡ h.chunks.areas.disk → GivesUp (the_group state block V (h ∷ [])) h shadow bitmap (the_group state block V [])
gives_up state block V h shadow bitmap pending back back_too = record {
  pending = found_own state block V h pending;
  least = λ slot lt.
      pending_one state block V h slot
      ∙ ap (λ (t : Bool). cond (not t && eqb h.slot slot) (Some h) None) pending
      ∙ ap (λ (t : Bool). cond t (Some h) None) (ne_eqb h.slot slot (λ e. omega (arith, e, lt)));
  shadow_back = back;
  bitmap_back = back_too;
  is = sym (ap (λ (t : Bool). the_group state block V (cond (not t) (h ∷ []) [])) (eq-eqb h.slot h.slot refl));
  group = λ sound. sym (same_meaning state block V h pending (sound_without state block V h sound));
  sound = λ sound. sound_without state block V h sound;
  told = λ told. record { state = told.state; volumes = told.volumes; sets = all_none IsSetTold };
  disks = disks_more state block V h shadow back ∙ ap (λ (d : Seen). disks_of (the_group state block V []) ++ shadow ∷ d ∷ []) (sym back_too);
}

pub kept_without : (state : Seen) (block : GroupBlock) (V : List Seen) (sets : List HeldSet) → IsKept state block V sets → IsKept state block V []
kept_without state block V sets kept = record { room = kept.room; keeps = kept.keeps; fits = kept.fits; count = kept.count; held = all_none (IsHeld block.slots V) }

-- ---- a set is made

whole_of : (g : IiDisks) (kind : Kind) → limit_at g kind ≡ None → (kind ≡ Ind) ⊎ (kind ≡ Dep)
whole_of g Ind e = inl refl
whole_of g Dep e = inr refl
whole_of g Compact e = absurd (false≢true (sym (ap is_some e)))

module _ (state : Seen) (block : GroupBlock) (V : List Seen) (kind : Kind) (master slot : ℕ) (shadow bitmap : Seen) (chunks : ChunkSet) (free : IsFree (the_group state block V []) slot) (least : (other : ℕ) → other < slot → IsFree (the_group state block V []) other → ⊥) (within : limit_at (the_group state block V []) kind ≡ None) (makes : Makes kind shadow bitmap (blocks_at (the_group state block V []) master) chunks) where
  abbrev made : HeldSet
  made = record { slot = slot; master = master; chunks = chunks }

  fresh_made : IsTold shadow → IsTold bitmap → IsFresh (record { slot = slot; master = master; chunks = chunks })
  fresh_made told_shadow told = record {
    known = record {
      shadow = subst (λ (d : Seen). IsTold d) (sym (ap (λ (s : ChunkSet). disk_of s.shadow) makes.is)) told_shadow;
      bitmap = makes.disk.told told;
      step = makes.step told;
    };
    label = makes.label told;
    area = ap (λ (s : ChunkSet). s.areas.live_b) makes.is;
    states = λ c lt. sym ((makes.step told).each c lt) ∙ makes.states c lt;
  }

  pub enables : Enables (the_group state block V []) kind master shadow bitmap slot (the_group state block V (record { slot = slot; master = master; chunks = chunks } ∷ []))
  enables = record {
    chunks = chunks;
    makes = makes;
    is = refl;
    within = within;
    free = free;
    least = least;
    pending = found_own state block V made free.not_live;
    fresh = fresh_made;
    group = λ sound. same_meaning state block V made free.not_live sound;
    sound = λ sound. sound_with state block V made free.not_live sound;
    told = λ told told_shadow told_bitmap. record {
      state = told.state;
      volumes = told.volumes;
      sets = all_of IsSetTold (set_parts made) (record { shadow = (fresh_made told_shadow told_bitmap).known.shadow; bitmap = makes.disk.told told_bitmap });
    };
    disks = disks_more state block V made shadow makes.shadow_same;
  }

  on_made : IsOnDisks made
  on_made = record {
    fits = record {
      shadow = λ d is. omega (arith, makes.fits.shadow d (sym makes.shadow_same ∙ is), makes.blocks_is);
      bitmap = omega (arith, makes.fits.bitmap, makes.disk.size, ap (λ (n : ℕ). blocks_for (seg_count n)) makes.blocks_is);
    };
    areas = ap (λ (s : ChunkSet). s.areas) makes.is ∙ (λ i. areas_on chunks.areas.disk (sym makes.blocks_is i) (sym (ap (λ (s : ChunkSet). s.areas.live_b) makes.is) i));
  }

  pub kept_with : 0 < blocks_at (the_group state block V []) master → master < length V → IsKept state block V [] → IsKept state block V (record { slot = slot; master = master; chunks = chunks } ∷ [])
  kept_with some there kept = record {
    room = kept.room;
    keeps = kept.keeps;
    fits = kept.fits;
    count = kept.count;
    held = all_of (IsHeld block.slots V) made (record {
      slot = free.there;
      master = there;
      there = subst (λ (b : Bool). IsTrue b) (sym (ap (λ (s : ChunkSet). is_some s.shadow) makes.is)) refl;
      blocks = get_or-map (λ (d : Seen). d.size) V master state 0 there ∙ sym (ap (λ (s : ChunkSet). s.blocks) makes.is);
      whole = subst (λ (k : Kind). (k ≡ Ind) ⊎ (k ≡ Dep)) (sym (ap (λ (s : ChunkSet). s.kind) makes.is)) (whole_of (the_group state block V []) kind within);
      area = λ live. absurd (false≢true (sym free.not_live ∙ live));
      first = λ _. ap (λ (s : ChunkSet). s.areas.live_b) makes.is;
      fits = λ live. absurd (false≢true (sym free.not_live ∙ live));
      settled = record { none = λ c lt is. never (sym (makes.states c lt) ∙ is) };
      some = omega (arith, some, ap (λ (s : ChunkSet). s.blocks) makes.is);
      on = on_made;
    });
  }
    where
      never : on_master ≡ on_shadow → ⊥
      never e = omega (arith, e)

-- ---- none is made

pub small_refused : (g : IiDisks) (kind : Kind) (master : ℕ) (shadow bitmap : Seen) (refused : Refusal) → IsSizeOf shadow bitmap (blocks_at g master) refused → EnableRefused g kind master shadow bitmap refused shadow bitmap
small_refused g kind master shadow bitmap (Size need have) w = (w, (refl, refl))
small_refused g kind master shadow bitmap (Down host) w = absurd w
small_refused g kind master shadow bitmap NoVolume w = absurd w
small_refused g kind master shadow bitmap NoSet w = absurd w
small_refused g kind master shadow bitmap NoGroup w = absurd w
small_refused g kind master shadow bitmap (Length n) w = absurd w
small_refused g kind master shadow bitmap (WrongState word) w = absurd w
small_refused g kind master shadow bitmap Exists w = absurd w
small_refused g kind master shadow bitmap (Range n) w = absurd w
small_refused g kind master shadow bitmap (Limit n) w = absurd w
small_refused g kind master shadow bitmap NoMemory w = absurd w
small_refused g kind master shadow bitmap Fault w = absurd w
small_refused g kind master shadow bitmap (BusyVolume role) w = absurd w
small_refused g kind master shadow bitmap NoContents w = absurd w
small_refused g kind master shadow bitmap (BadRecord field) w = absurd w
small_refused g kind master shadow bitmap (BadWord n) w = absurd w
small_refused g kind master shadow bitmap NoFile w = absurd w
small_refused g kind master shadow bitmap (NoTap n) w = absurd w
small_refused g kind master shadow bitmap NotPrimary w = absurd w
small_refused g kind master shadow bitmap LinkDown w = absurd w
small_refused g kind master shadow bitmap (Unlike n) w = absurd w
small_refused g kind master shadow bitmap (Tap tap code) w = absurd w
small_refused g kind master shadow bitmap (Stale ours theirs) w = absurd w
small_refused g kind master shadow bitmap (NoPlace n) w = absurd w
small_refused g kind master shadow bitmap (Copying n) w = absurd w
small_refused g kind master shadow bitmap (Offline need slots) w = absurd w
small_refused g kind master shadow bitmap (WrongStamp ours theirs) w = absurd w
small_refused g kind master shadow bitmap (Differ n) w = absurd w
small_refused g kind master shadow bitmap (QueueFull writes blocks) w = absurd w
small_refused g kind master shadow bitmap (Early n) w = absurd w

pub limit_refused : (g : IiDisks) (kind : Kind) (master : ℕ) (shadow bitmap : Seen) (refused : Refusal) → Fits (Some shadow) bitmap (blocks_at g master) → IsLimit g kind refused → EnableRefused g kind master shadow bitmap refused shadow bitmap
limit_refused g kind master shadow bitmap (Limit n) fits w = (fits, (w, (refl, refl)))
limit_refused g kind master shadow bitmap (Down host) fits w = absurd w
limit_refused g kind master shadow bitmap NoVolume fits w = absurd w
limit_refused g kind master shadow bitmap NoSet fits w = absurd w
limit_refused g kind master shadow bitmap NoGroup fits w = absurd w
limit_refused g kind master shadow bitmap (Length n) fits w = absurd w
limit_refused g kind master shadow bitmap (WrongState word) fits w = absurd w
limit_refused g kind master shadow bitmap Exists fits w = absurd w
limit_refused g kind master shadow bitmap (Range n) fits w = absurd w
limit_refused g kind master shadow bitmap (Size need have) fits w = absurd w
limit_refused g kind master shadow bitmap NoMemory fits w = absurd w
limit_refused g kind master shadow bitmap Fault fits w = absurd w
limit_refused g kind master shadow bitmap (BusyVolume role) fits w = absurd w
limit_refused g kind master shadow bitmap NoContents fits w = absurd w
limit_refused g kind master shadow bitmap (BadRecord field) fits w = absurd w
limit_refused g kind master shadow bitmap (BadWord n) fits w = absurd w
limit_refused g kind master shadow bitmap NoFile fits w = absurd w
limit_refused g kind master shadow bitmap (NoTap n) fits w = absurd w
limit_refused g kind master shadow bitmap NotPrimary fits w = absurd w
limit_refused g kind master shadow bitmap LinkDown fits w = absurd w
limit_refused g kind master shadow bitmap (Unlike n) fits w = absurd w
limit_refused g kind master shadow bitmap (Tap tap code) fits w = absurd w
limit_refused g kind master shadow bitmap (Stale ours theirs) fits w = absurd w
limit_refused g kind master shadow bitmap (NoPlace n) fits w = absurd w
limit_refused g kind master shadow bitmap (Copying n) fits w = absurd w
limit_refused g kind master shadow bitmap (Offline need slots) fits w = absurd w
limit_refused g kind master shadow bitmap (WrongStamp ours theirs) fits w = absurd w
limit_refused g kind master shadow bitmap (Differ n) fits w = absurd w
limit_refused g kind master shadow bitmap (QueueFull writes blocks) fits w = absurd w
limit_refused g kind master shadow bitmap (Early n) fits w = absurd w

pub make_refused : (g : IiDisks) (kind : Kind) (master : ℕ) (shadow bitmap : Seen) (y : Why) (shadow' bitmap' : Seen) → limit_at g kind ≡ None → MakeRefused shadow bitmap (blocks_at g master) y shadow' bitmap' → EnableRefused g kind master shadow bitmap (refusal_of y) shadow' bitmap'
make_refused g kind master shadow bitmap (why.Size need have) shadow' bitmap' within w = w
make_refused g kind master shadow bitmap (why.BadRecord field) shadow' bitmap' within w = absurd w
make_refused g kind master shadow bitmap why.NoMemory shadow' bitmap' within w = w
make_refused g kind master shadow bitmap why.Fault shadow' bitmap' within w = (w.0, (within, w.1))

-- the blocks of a volume of a group
pub blocks_seen : {D : Type 0} (seen : D → Seen) (state : Seen) (block : GroupBlock) (volumes : List D) (sets : List HeldSet) (master : ℕ) (x : D) → master < length volumes → x ≡ slice_index_or volumes master x → blocks_at (the_group state block (map seen volumes) sets) master ≡ (seen x).size
blocks_seen seen state block volumes sets master x lt is = ap (λ (d : Seen). d.size) (get_or-map seen volumes master x state lt ∙ ap seen (sym is))

-- a set has its shadow's disk
pub no_shadow : (o : Option Seen) → o ≡ None → IsTrue (is_some o) → ⊥
no_shadow None e t = cc
no_shadow (Some d) e t = absurd (false≢true (sym (ap is_some e)))
