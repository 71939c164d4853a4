-- What a call on a set in chunks keeps is what a step of a set keeps of its group, whatever its overflow volume.
use Rattle.std.proofs.Common.{◌≡◌, inl, ℕ, ◌<◌, Result, OnOk, ◌∙◌, sym, refl, ap, subst}
use Rattle.std.proofs.lemmas.Result.{on_ok_weaker}
use Rattle.avs_seg.specs.Image.{Image}
use Rattle.avs_dev.specs.Seen.{Seen, IsTold, shown}
use Rattle.avs_dev.specs.Devices.{AllGoOn}
use Rattle.avs_dev.proofs.Going.{shown_told}
use Rattle.avs_chunks.specs.ChunkSet as chunk
use Rattle.avs_chunks.specs.ChunkSet.{ChunkSet, disk_of, disk_state, state_of}
use Rattle.avs_chunks.specs.Disks.{Master, Shadow, Bitmap, disk_at}
use Rattle.avs_chunks.specs.Calls.{KeepsBehind}
use Rattle.avs_sets.specs.Says.{BlockSays}
use Rattle.avs_sets.specs.Sets.{SetRead, chunks_of, KeepsMaster, KeepsShadow}
use Rattle.avs_sets.specs.Meaning.{chunks_by}
use Rattle.avs_sets.specs.Goes.{IsSameSet}
use Rattle.avs_sets.specs.Steps.{read_over, IsKnown, KeepsRead, KeepsSet, ShowsSame, StatesSame}
use Rattle.avs_sets.proofs.OwnSlots.{all_keeps, own_placed, all_takes}
use Rattle.avs_held.specs.declared.held.Seat.{Seat}
use Rattle.avs_held.specs.Held.{chunk_set}
use Rattle.avs_over.specs.Over.{OverSet, slots}
use Rattle.avs_sets.specs.Owners.{IsServed}
use Rattle.avs_held.specs.Rooms.{on_disks, IsOwned, KeepsOwned}
use Rattle.avs_held.proofs.Told.{own_is, own_not_over}
use Rattle.avs_held.proofs.Projected.{same_disk, all_spots, plain_read, states_are, read_is, behind_same}

module _ (says : BlockSays) (seat : Seat) (s : ChunkSet) (m over : Seen) where
  -- the disks tell their blocks, and the memory is in step: of the set itself
  module _ (kn : IsKnown says (chunk_set seat s) m over) where
    pub told_shadow : IsTold (disk_of s.shadow)
    told_shadow = subst (λ (d : Seen). IsTold d) (same_disk s.shadow) kn.shadow

    pub area_is : (says.slots seat.slot).area_b ≡ s.areas.live_b
    area_is = sym kn.area

    pub known_set : chunk.IsKnown s
    known_set = record {
      shadow = told_shadow;
      bitmap = kn.bitmap;
      step = record { each = λ c lt. kn.chunks.state c lt ∙ ap (λ (f : ℕ → ℕ). f c) (states_are says seat s over told_shadow kn.bitmap area_is) };
    }

    pub known_read : read_over says (chunk_set seat s) over ≡ plain_read s
    known_read = read_is says seat s over told_shadow kn.bitmap area_is

    pub master_shown : shown m ≡ m.image
    master_shown = shown_told m kn.master

  -- and back
  pub set_known : IsTold m → IsTold over → s.areas.live_b ≡ (says.slots seat.slot).area_b → chunk.IsKnown s → IsKnown says (chunk_set seat s) m over
  set_known master over_told area k = record {
    master = master;
    shadow = subst (λ (d : Seen). IsTold d) (sym (same_disk s.shadow)) k.shadow;
    bitmap = k.bitmap;
    over_told = over_told;
    area = area;
    chunks = record {
      state = λ c lt. k.step.each c lt ∙ sym (ap (λ (f : ℕ → ℕ). f c) (states_are says seat s over k.shadow k.bitmap (sym area)));
      place = λ c lt some. refl;
    };
  }

-- what no call on the contents changes, and what staging does not change either
pub record IsSameHeld (s s' : ChunkSet) : Type 0 where
  pub kind : s'.kind ≡ s.kind
  pub blocks : s'.blocks ≡ s.blocks
  pub live_b : s'.areas.live_b ≡ s.areas.live_b

pub same_shape : (seat : Seat) (s s' : ChunkSet) → IsSameHeld s s' → IsSameSet (chunk_set seat s) (chunk_set seat s')
same_shape seat s s' shape = record {
  slot = refl;
  kind = shape.kind;
  master = refl;
  size = ap (λ (n : ℕ). record { blocks = n; own = seat.own }) shape.blocks;
  over = refl;
}

module _ (says : BlockSays) (seat : Seat) (s s' : ChunkSet) (m m' over : Seen) {T E : Type 0} (r : Result T E) (shape : IsSameHeld s s') (goes : AllGoOn (disk_at s m) r (disk_at s' m'))
    (behind : IsTold (disk_of s.shadow) → KeepsBehind s s') where
  module _ (kn : IsKnown says (chunk_set seat s) m over) where
    told_now : IsTold (disk_of s'.shadow)
    told_now = (goes.lasts Shadow).told (told_shadow says seat s m over kn)

    bitmap_now : IsTold s'.areas.disk
    bitmap_now = (goes.lasts Bitmap).told kn.bitmap

    area_now : (says.slots seat.slot).area_b ≡ s'.areas.live_b
    area_now = sym kn.area ∙ sym shape.live_b

    pub read_now : read_over says (chunk_set seat s') over ≡ plain_read s'
    read_now = read_is says seat s' over told_now bitmap_now area_now

    pub states_now : (chunks_by says (chunk_set seat s')).state ≡ (λ c. disk_state s' c)
    states_now = states_are says seat s' over told_now bitmap_now area_now

    pub states_was : (chunks_by says (chunk_set seat s)).state ≡ (λ c. disk_state s c)
    states_was = states_are says seat s over (told_shadow says seat s m over kn) kn.bitmap (sym kn.area)

    pub master_now : shown m' ≡ m'.image
    master_now = shown_told m' ((goes.lasts Master).told kn.master)

    -- a fact on what is read is one on what the set's disks have
    pub on_reads : (P : SetRead → Image → SetRead → Image → Type 0) → P (plain_read s) m.image (plain_read s') m'.image
        → P (read_over says (chunk_set seat s) over) (shown m) (read_over says (chunk_set seat s') over) (shown m')
    on_reads P is = subst (λ (x : SetRead). P x (shown m) (read_over says (chunk_set seat s') over) (shown m')) (sym (known_read says seat s m over kn))
        (subst (λ (x : Image). P (plain_read s) x (read_over says (chunk_set seat s') over) (shown m')) (sym (master_shown says seat s m over kn))
        (subst (λ (x : SetRead). P (plain_read s) m.image x (shown m')) (sym read_now)
        (subst (λ (x : Image). P (plain_read s) m.image (plain_read s') x) (sym master_now) is)))

    reads : (mine : ℕ → Type 0) → KeepsMaster (plain_read s) m.image (plain_read s') m'.image → KeepsRead says mine (chunk_set seat s) m over (chunk_set seat s') m' over
    reads mine master = record {
      master = on_reads KeepsMaster master;
      behind = behind_same seat s s' shape.blocks (told_shadow says seat s m over kn) told_now (goes.lasts Shadow).size (behind (told_shadow says seat s m over kn));
      slots = all_keeps mine (shown over);
      takes = all_takes says (chunk_set seat s') (λ c. refl) mine (chunk_set seat s);
      placed = λ was. own_placed says (chunk_set seat s') (λ c. refl);
    }

    pub same_states : ((c : ℕ) → c < chunk.chunks_of s → disk_state s' c ≡ disk_state s c) → StatesSame (chunks_by says (chunk_set seat s)).state (chunks_by says (chunk_set seat s')).state (chunks_of (chunk_set seat s))
    same_states same = record { each = λ c lt. ap (λ (f : ℕ → ℕ). f c) states_now ∙ same c lt ∙ sym (ap (λ (f : ℕ → ℕ). f c) states_was) }

  -- the step
  module _ (mine : ℕ → Type 0) (known : chunk.IsKnown s → OnOk r (chunk.IsKnown s')) (master : chunk.IsKnown s → IsTold m → KeepsMaster (plain_read s) m.image (plain_read s') m'.image) where
    pub keeps : KeepsSet says mine (chunk_set seat s) m over r (chunk_set seat s') m' over
    keeps = record {
      same = same_shape seat s s' shape;
      live_b = shape.live_b;
      disks = all_spots seat s s' m m' over r goes;
      known = λ kn. on_ok_weaker r (λ k. set_known says seat s' m' over ((goes.lasts Master).told kn.master) kn.over_told (sym (area_now kn)) k) (known (known_set says seat s m over kn));
      read = λ kn. reads kn mine (master (known_set says seat s m over kn) kn.master);
    }

    -- one that changes nothing that is seen
    pub shows_same : (chunk.IsKnown s → IsTold m → KeepsShadow (plain_read s) m.image (plain_read s') m'.image)
        → (chunk.IsKnown s → (c : ℕ) → c < chunk.chunks_of s → disk_state s' c ≡ disk_state s c)
        → ShowsSame says mine (chunk_set seat s) m over r (chunk_set seat s') m' over
    shows_same shadow same = record {
      keeps = keeps;
      shadow = λ kn. on_reads kn KeepsShadow (shadow (known_set says seat s m over kn) kn.master);
      same = λ kn. same_states kn (same (known_set says seat s m over kn));
    }

-- ---- of the overflow volume it keeps all

-- none of its chunks stands there, so that it owns what it has there, whatever that volume
pub chunks_owned : (seat : Seat) (s : ChunkSet) (m : Seen) (o : OverSet) → IsOwned (on_disks (chunk_set seat s) m o)
chunks_owned seat s m o = record {
  apart = λ c d lt lt' ne some some' same. ne (sym (own_is d c same));
  taken = λ c slot lt some at. absurd (own_not_over c slot at);
}

pub chunks_served : (seat : Seat) (s : ChunkSet) (slots : ℕ) → IsServed slots (chunk_set seat s)
chunks_served seat s slots = record { each = λ c slot lt some at. absurd (own_not_over c slot at) }

module _ (seat : Seat) (s s' : ChunkSet) (m m' : Seen) (o : OverSet) where
  pub owned_kept : KeepsOwned (on_disks (chunk_set seat s) m o) (on_disks (chunk_set seat s') m' o)
  owned_kept = record {
    served = λ owned served. chunks_served seat s' (slots o);
    owned = λ owned. chunks_owned seat s' m' o;
    takes = record { each = λ slot. inl refl };
    label = λ owned told. refl;
  }
