-- Blocks of the shadow of a compact set are read, and written where chunks are split.
use Rattle.std.proofs.Common.{◌≡◌, inl, ℕ, ◌+◌, ◌*◌, ◌/◌, ◌<◌, ◌≤◌, true, false, not, IsTrue, List, length, Result, OnOk, ◌∙◌, sym, refl, ap, subst, arith}
use Rattle.std.proofs.lemmas.Result.{on_ok_weaker, on_err_weaker}
use Rattle.avs_seg.specs.Image.{Image, block_at, blocks_of, range, put, tabulate, IsMix}
use Rattle.avs_seg.specs.Segment.{seg_count}
use Rattle.avs_seg.proofs.Blocks.{same_images, length-tabulate, block_at-tabulate}
use Rattle.avs_seg.proofs.Exits.{ok_exit}
use Rattle.avs_dev.specs.Seen.{Seen, IsTold, shown}
use Rattle.avs_flip.specs.Areas.{live}
use Rattle.avs_over.specs.Slots.{Owners, owner_at}
use Rattle.avs_over.specs.Over.{OverSet}
use Rattle.avs_entries.specs.Entries.{entry_in, entry_on}
use Rattle.avs_compact.specs.CompactSet as compact
use Rattle.avs_compact.specs.CompactSet.{CompactSet, disk_of, entry_of, disk_entry, shadow_by, master_by, shadow_image, master_image}
use Rattle.avs_compact.specs.Calls as calls
use Rattle.avs_compact.specs.Places as places
use Rattle.avs_compact.specs.Places.{ArePlaced}
use Rattle.avs_compact.specs.Keeping as keeping
use Rattle.avs_compact.specs.Writing as writing
use Rattle.avs_compact.specs.Disks.{Shadow}
use Rattle.avs_compact.proofs.Readings.{shadow_at}
use Rattle.avs_sets.specs.Says.{BlockSays}
use Rattle.avs_sets.specs.Sets as sets
use Rattle.avs_sets.specs.Sets.{SetSeen, SetRead, read_from, KeepsMaster, KeepsShadow}
use Rattle.avs_sets.specs.Meaning.{shadow_over}
use Rattle.avs_sets.specs.Owners.{OwnsPlaces}
use Rattle.avs_sets.specs.Steps.{IsKnown, read_over, PutsShadow}
use Rattle.avs_held.specs.declared.held.Seat.{Seat}
use Rattle.avs_held.specs.Held.{area_of, slot_map, compact_set, IsSeated}
use Rattle.avs_held.specs.Rooms.{Mine, on_disks, owners_of, KeepsOwned}
use Rattle.avs_held.specs.Calls.{IsSplit, ReadsShadow, WritesShadow}
use Rattle.avs_held.proofs.Slotted as slotted
use Rattle.avs_held.proofs.Slotted.{AreFormed, same_disk, plain_read, known_set, known_read, master_shown, state_at, master_at, alike_plain, plain_alike, placed_set, set_placed, served_set, set_served}
use Rattle.avs_held.proofs.SlotSteps as steps
use Rattle.avs_held.proofs.SlotSteps.{IsSameSlots, placed_now, formed_disk, placed_disk, read_now, master_now, same_states, known, placed}
use Rattle.avs_held.proofs.SlotCalls.{memory_state}
use Rattle.avs_held.proofs.ShadowReads.{master_same, shadow_same}

never : false ≡ true → ⊥
never e = cc

-- ---- the images

master_block_at : (s : CompactSet) (o : OverSet) (m : Image) (i : ℕ) → i < s.blocks → block_at (master_image s o m) i ≡ keeping.master_block s o m i
unfolding master_by
master_block_at s o m i lt = block_at-tabulate _ _ i lt

tabulates : (n : ℕ) (f : ℕ → List ℕ) (img : Image) → length img ≡ n → ((i : ℕ) → i < n → f i ≡ block_at img i) → tabulate n f ≡ img
tabulates n f img long each = same_images (tabulate n f) img (length-tabulate n f ∙ sym long)
    (λ i lt. let inside : i < n = omega (arith, lt, length-tabulate n f) in block_at-tabulate n f i inside ∙ each i inside)

length_image : (s : CompactSet) (o : OverSet) (m : Image) → length (shadow_image s o m) ≡ s.blocks
unfolding shadow_by
length_image s o m = length-tabulate _ _

-- the shadow's image is that of what is read
pub plain_image : (s : CompactSet) (o : OverSet) (m : Image) → AreFormed (disk_entry s) (compact.chunks_of s) → shadow_over (plain_read s o) m ≡ shadow_image s o m
plain_image s o m form = tabulates s.blocks (λ i. sets.shadow_block (plain_read s o) m i) (shadow_image s o m) (length_image s o m)
    (λ i lt. slotted.shadow_at s o form m i lt ∙ sym (shadow_at s.blocks s.own (live s.areas) (disk_of s.shadow).image o.disk.image m i lt))

pub image_is : (says : BlockSays) (seat : Seat) (s : CompactSet) (m : Seen) (o : OverSet) → AreFormed (entry_of s) (compact.chunks_of s) → IsKnown says (compact_set seat s) m o.disk
    → shadow_over (read_over says (compact_set seat s) o.disk) (shown m) ≡ shadow_image s o m.image
image_is says seat s m o form kn = (λ p. shadow_over (known_read says seat s m o form kn p) (master_shown says seat s m o form kn p))
    ∙ plain_image s o m.image (formed_disk s o form (known_set says seat s m o form kn))

-- ---- blocks are read

module _ (seat : Seat) (s s' : CompactSet) (m m' : Seen) (o o' : OverSet) (at : ℕ) (out : List ℕ) {T E : Type 0} (r : Result T E) (fit : IsSeated seat s)
    (form : AreFormed (entry_of s) (compact.chunks_of s)) (a : calls.ReadsShadow s o m at out r s' o' m') where
  shape : IsSameSlots s s'
  shape = record {
    set = ap (λ (x : CompactSet). x.set) a.set;
    own = ap (λ (x : CompactSet). x.own) a.set;
    blocks = ap (λ (x : CompactSet). x.blocks) a.set;
    live_b = ap (λ (x : CompactSet). x.areas.live_b) a.set;
    there = a.shadow.0;
  }

  pub read_seat : IsSeated seat s'
  read_seat = steps.seated_kept seat s s' shape (a.goes.lasts Shadow).size fit

  over_same : o'.disk.image ≡ o.disk.image
  over_same = ap (λ (x : OverSet). x.disk.image) a.over

  reads_same : plain_read s' o' ≡ plain_read s o
  reads_same = λ p. read_from (slot_map (a.set p).own (seg_count (a.set p).blocks) (λ c. disk_entry (a.set p) c)) (a.set p).blocks ((a.shadow.1 p).image) (over_same p)

  image_same : m'.image ≡ m.image
  image_same = ap (λ (d : Seen). d.image) a.master

  on_same : (P : SetRead → Image → SetRead → Image → Type 0) → P (plain_read s o) m.image (plain_read s o) m.image → P (plain_read s o) m.image (plain_read s' o') m'.image
  on_same P is = subst (λ (x : Image). P (plain_read s o) m.image (plain_read s' o') x) (sym image_same) (subst (λ (x : SetRead). P (plain_read s o) m.image x m.image) (sym reads_same) is)

  entries_same : (c : ℕ) → disk_entry s' c ≡ disk_entry s c
  entries_same c = ap (λ (x : CompactSet). disk_entry x c) a.set

  placed_then : calls.IsKnown s o → keeping.IsPlaced s o → ArePlaced (disk_entry s') s'.own (compact.chunks_of s') s'.set o'.owners
  placed_then kn p = subst (λ (T : Owners). ArePlaced (disk_entry s') s'.own (compact.chunks_of s') s'.set T) (sym (ap (λ (x : OverSet). x.owners) a.over))
      (subst (λ (x : CompactSet). ArePlaced (disk_entry x) x.own (compact.chunks_of x) x.set o.owners) (sym a.set) (placed_disk s o form kn p))

  known_then : calls.IsKnown s o → OnOk r (calls.IsKnown s' o')
  known_then kn = on_ok_weaker r (λ is. subst (λ (x : OverSet). calls.IsKnown s' x) (sym is.1.0) (subst (λ (x : CompactSet). calls.IsKnown x o) (sym is.0) kn)) a.same

  over_then : keeping.IsPlaced s o → IsTold o.disk → places.KeepsOver s.set o o'
  over_then p told = record {
    label = ap (λ (img : Image). block_at img 0) over_same;
    slots = λ k i lt other. ap (λ (img : Image). block_at img (1 + 64 * k + i)) over_same;
  }

  pub reads_set : ReadsShadow (on_disks (compact_set seat s) m o) at out r (on_disks (compact_set seat s') m' o')
  reads_set = record {
    step = λ owned says. steps.shows_same seat s s' m m' o o' r shape a.goes fit form over_then known_then (λ kn p told. placed_then kn p)
        (λ kn p told. on_same KeepsMaster (master_same (plain_read s o) m.image))
        (λ kn p told. on_same KeepsShadow (shadow_same (plain_read s o) m.image))
        (λ c told lt. entries_same c) says owned;
    same = on_ok_weaker r (λ is p. on_disks (compact_set seat (is.0 p)) (is.1.1 p) (is.1.0 p)) a.same;
    reads = record {
      rest = ap (λ (x : CompactSet). compact_set seat x) a.set;
      there = a.shadow.0;
      shadow = subst (λ (d : Seen). sets.disk_of s'.shadow ≡ record d { faults = (sets.disk_of s'.shadow).faults }) (sym (same_disk s.shadow))
          (subst (λ (d : Seen). d ≡ record (disk_of s.shadow) { faults = d.faults }) (sym (same_disk s'.shadow)) a.shadow.1);
      master = a.master;
      over = a.over;
    };
    sure = λ m_steady s_steady o_steady. a.sure m_steady (subst (λ (d : Seen). IsTrue d.steady) (same_disk s.shadow) s_steady) o_steady;
    shows = λ says kn. on_ok_weaker r (λ is. is ∙ sym (ap (λ (img : Image). range img at (length out / 512)) (image_is says seat s m o form kn))) (a.shows (known_set says seat s m o form kn) kn.master);
  }

-- ---- blocks are written

-- the chunks of a range are split
pub split_slots : (seat : Seat) (s : CompactSet) → AreFormed (entry_of s) (compact.chunks_of s) → (at len : ℕ) → at + len ≤ s.blocks → IsSplit (compact_set seat s) at len → writing.AreSplit s at len
split_slots seat s form at len inside split = record {
  each = λ i lt.
      let there : (at + i) / 64 < seg_count s.blocks = omega (arith, lt, inside) in
      sym (memory_state s form ((at + i) / 64) there) ∙ split.each ((at + i) / 64) (omega arith) (omega (arith, lt));
}

module _ (seat : Seat) (s s' : CompactSet) (o o' : OverSet) (at : ℕ) (bytes : List ℕ) {T E : Type 0} (r : Result T E) (fit : IsSeated seat s)
    (form : AreFormed (entry_of s) (compact.chunks_of s)) (a : writing.PutsShadow s o at (blocks_of bytes) r s' o') where
  kept : IsSameSlots s s'
  kept = record {
    set = ap (λ (x : CompactSet). x.set) a.is;
    own = ap (λ (x : CompactSet). x.own) a.is;
    blocks = ap (λ (x : CompactSet). x.blocks) a.is;
    live_b = ap (λ (x : CompactSet). x.areas.live_b) a.is;
    there = a.there;
  }

  pub put_seat : IsSeated seat s'
  put_seat = steps.seated_kept seat s s' kept ((a.goes sets.absent).lasts Shadow).size fit

  entries_stay : (c : ℕ) → disk_entry s' c ≡ disk_entry s c
  entries_stay c = ap (λ (x : CompactSet). disk_entry x c) a.is

  owners_stay : o'.owners ≡ o.owners
  owners_stay = ap (λ (x : OverSet). x.owners) a.owners

  placed_still : calls.IsKnown s o → keeping.IsPlaced s o → ArePlaced (disk_entry s') s'.own (compact.chunks_of s') s'.set o'.owners
  placed_still kn p = subst (λ (T : Owners). ArePlaced (disk_entry s') s'.own (compact.chunks_of s') s'.set T) (sym owners_stay)
      (subst (λ (x : CompactSet). ArePlaced (disk_entry x) x.own (compact.chunks_of x) x.set o.owners) (sym a.is) (placed_disk s o form kn p))

  module _ (m : Seen) where
    module _ (kn : calls.IsKnown s o) (p : keeping.IsPlaced s o) where
      puts : writing.PutsBlocks s o m.image at (blocks_of bytes) r s' o'
      puts = a.blocks kn p m.image

      formed : AreFormed (disk_entry s) (compact.chunks_of s)
      formed = formed_disk s o form kn

      formed' : AreFormed (disk_entry s') (compact.chunks_of s')
      formed' = (placed_still kn p).form

      now : (i : ℕ) → i < s.blocks → i < s'.blocks
      now i lt = omega (arith, lt, kept.blocks)

      state_stays : (c : ℕ) → c < compact.chunks_of s → (plain_read s' o').state c ≡ (plain_read s o).state c
      state_stays c lt = λ q. (slot_map (a.is q).own (seg_count (a.is q).blocks) (λ c. disk_entry (a.is q) c)).state c

      master_stays : KeepsMaster (plain_read s o) m.image (plain_read s' o') m.image
      master_stays = record {
        master = λ i lt. master_at s' o' formed' m.image i (now i lt) ∙ sym (master_block_at s' o' m.image i (now i lt))
            ∙ ap (λ (img : Image). block_at img i) puts.master
            ∙ master_block_at s o m.image i lt ∙ sym (master_at s o formed m.image i lt);
        only = λ i lt ne. refl;
        alike = λ x. alike_plain s' o' formed' m.image (puts.alike (plain_alike s o formed m.image x));
        back = λ c lt is. sym (state_stays c lt) ∙ is;
        splits = λ c lt is. state_stays c lt ∙ is;
      }

    step : (says : BlockSays) → OwnsPlaces (owners_of o) (compact_set seat s) → PutsShadow says (Mine (compact_set seat s) o') (compact_set seat s) m o.disk at (blocks_of bytes) r (compact_set seat s') m o'.disk
    step says owned = record {
      keeps = steps.keeps seat s s' m m o o' r kept (a.goes m) fit form a.over (λ kn. ok_exit r (a.known kn)) (λ kn p told. placed_still kn p) (λ kn p told. master_stays kn p) says owned;
      same = λ kn. same_states seat s s' m m o o' r kept (a.goes m) fit form a.over says owned kn (λ c lt. entries_stay c);
      done = λ kn. on_ok_weaker r (λ is. image_now kn ∙ is ∙ sym (ap (λ (img : Image). put img at (blocks_of bytes)) (image_is says seat s m o form kn))) (puts (known_of kn) (placed_of kn)).done;
      stopped = λ kn. on_err_weaker r (λ mix. subst (λ (x : Image). IsMix x at (blocks_of bytes) (shadow_over (read_over says (compact_set seat s') o'.disk) (shown m))) (sym (image_is says seat s m o form kn))
          (subst (λ (x : Image). IsMix (shadow_image s o m.image) at (blocks_of bytes) x) (sym (image_now kn)) mix)) (puts (known_of kn) (placed_of kn)).stopped;
    }
      where
        known_of : IsKnown says (compact_set seat s) m o.disk → calls.IsKnown s o
        known_of kn = known seat s s' m m o o' r kept (a.goes m) fit form a.over says owned kn

        placed_of : IsKnown says (compact_set seat s) m o.disk → keeping.IsPlaced s o
        placed_of kn = placed seat s s' m m o o' r kept (a.goes m) fit form a.over says owned kn

        image_now : IsKnown says (compact_set seat s) m o.disk → shadow_over (read_over says (compact_set seat s') o'.disk) (shown m) ≡ shadow_image s' o' m.image
        image_now kn = (λ p. shadow_over (read_now seat s s' m m o o' r kept (a.goes m) fit form a.over says owned kn p) (master_now seat s s' m m o o' r kept (a.goes m) fit form a.over says owned kn p))
            ∙ plain_image s' o' m.image (formed' (known_of kn) (placed_of kn))

    form_still : AreFormed (entry_of s') (compact.chunks_of s')
    form_still = subst (λ (x : CompactSet). AreFormed (entry_of x) (compact.chunks_of x)) (sym a.is) form

    owned_still : KeepsOwned (on_disks (compact_set seat s) m o) (on_disks (compact_set seat s') m o')
    owned_still = record {
      served = λ owned served. set_served seat s' o' form_still (subst (λ (x : OverSet). calls.AreThere s' x) (sym a.owners)
          (record { each = (subst (λ (x : CompactSet). calls.AreThere x o) (sym a.is) (record { each = (served_set seat s o form served).each })).each }));
      owned = λ owned. set_placed seat s' o' form_still (subst (λ (T : Owners). ArePlaced (entry_of s') s'.own (compact.chunks_of s') s'.set T) (sym owners_stay)
          (subst (λ (x : CompactSet). ArePlaced (entry_of x) x.own (compact.chunks_of x) x.set o.owners) (sym a.is) (placed_set seat s o form owned)));
      takes = record { each = λ slot. inl (ap (λ (T : Owners). owner_at T slot) owners_stay) };
      label = λ owned told. (a.over (placed_set seat s o form owned) told).label;
    }

    pub writes_set : WritesShadow (on_disks (compact_set seat s) m o) at bytes r (on_disks (compact_set seat s') m o')
    writes_set = record {
      step = λ owned says. step says owned;
      rest = ap (λ (x : CompactSet). compact_set seat x) a.is;
      keeps = record {
        bitmap = λ told. record {
          label = ap (λ (x : CompactSet). block_at (shown x.areas.disk) 0) a.is;
          staged = ap (λ (x : CompactSet). slot_map x.own (seg_count x.blocks) (λ c. entry_on (area_of x.areas (not s.areas.live_b)) c)) a.is;
        };
        next = ap (λ (x : CompactSet). slot_map x.own (seg_count x.blocks) (λ c. entry_in x.next c)) a.is;
        there = a.there;
        settled = λ k. absurd (never k.kind);
        owned = owned_still;
        over = λ is. absurd (never (sym is));
      };
      written = λ is. absurd (never (sym is));
      unwritten = λ is. absurd (never (sym is));
    }
