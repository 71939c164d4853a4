-- What calls on contents keep: the shape of a group, that its disks are told, and what is held of a set.
use Rattle.std.proofs.Common.{◌≡◌, ◌⊎◌, ℕ, zero, suc, ◌<◌, ◌≤◌, Bool, true, IsTrue, All, List, [], ◌∷◌, ◌++◌, length, map, set, get_or, slice_index_or, Option, None, Some, is_some, refl, sym, ◌∙◌, ap, subst, arith}
use Rattle.std.specs.List.{list_all, flat_map}
use Rattle.std.specs.Option.{option_map}
use Rattle.std.proofs.Math.Seq.{map-set_same}
use Rattle.std.proofs.lemmas.List.{map-append, get_or-map, length-map}
use Rattle.std.proofs.lemmas.List.Elements.{All-set}
use Rattle.std.proofs.lemmas.List.Folds.{list_all-map}
use Rattle.avs_seg.specs.Segment.{seg_count}
use Rattle.avs_dev.specs.Seen.{Seen, IsTold}
use Rattle.avs_flip.specs.Areas.{Areas}
use Rattle.avs_code.specs.declared.slot_table.Slot.{Slot}
use Rattle.avs_code.specs.declared.group_blocks.GroupBlock.{GroupBlock}
use Rattle.avs_model.specs.declared.shadow.Kind.{Kind}
use Rattle.avs_model.specs.declared.shadow.Kind.TheVariants.{Ind, Dep}
use Rattle.avs_chunk.specs.States.{area_len, blocks_for}
use Rattle.avs_chunk.specs.Disks.{IsSameDisk, AreSameDisks}
use Rattle.avs_chunk.specs.ChunkSet.{ChunkSet, disk_of, disks_there, both_disks}
use Rattle.avs_chunk.specs.Calls.{Stays, disks_of as disks_of_chunks}
use Rattle.avs_ii.specs.Held.{HeldSet, IiDisks, slot_in, disks_of}
use Rattle.avs_ii.specs.Shape.{DiskShape, SetShape, GroupShape, disk_shape, set_shape, shape_of}
use Rattle.avs_ii.specs.Kept.{IsHeld, IsKept}
use Rattle.avs_ii.specs.Opening.{IsOnDisks}
use Rattle.avs_ii.specs.Parts.{set_parts, size_of}
use Rattle.avs_ii.specs.Making.{IsSetTold, fits_slot}
use Rattle.avs_ii.specs.Saved.{IsSettledInMemory}
use Rattle.avs_ii.specs.Calls.{are_steady}

-- ---- the disks of a group by its shape

abbrev set_disks : SetShape → List DiskShape
set_disks s = disks s.shadow s.bitmap
  where
    disks : Option DiskShape → DiskShape → List DiskShape
    disks None bitmap = bitmap ∷ []
    disks (Some shadow) bitmap = shadow ∷ bitmap ∷ []

two_shapes : (s : HeldSet) → map disk_shape (disks_there s.chunks) ≡ set_disks (set_shape s)
two_shapes s = go s.chunks.shadow
  where
    go : (o : Option Seen) → map disk_shape (both_disks o s.chunks.areas.disk) ≡ set_disks (record (set_shape s) { shadow = option_map disk_shape o })
    go None = refl
    go (Some d) = refl

sets_shapes : (sets : List HeldSet) → map disk_shape (flat_map (λ (s : HeldSet). disks_there s.chunks) sets) ≡ flat_map set_disks (map set_shape sets)
sets_shapes [] = refl
sets_shapes (s ∷ sets) =
    map-append disk_shape (disks_there s.chunks) (flat_map (λ (x : HeldSet). disks_there x.chunks) sets)
    ∙ ap (λ (l : List DiskShape). l ++ map disk_shape (flat_map (λ (x : HeldSet). disks_there x.chunks) sets)) (two_shapes s)
    ∙ ap (λ (l : List DiskShape). set_disks (set_shape s) ++ l) (sets_shapes sets)

steady_by : (g : IiDisks) → are_steady g ≡ list_all (λ (d : DiskShape). d.steady) ((shape_of g).state ∷ (shape_of g).volumes ++ flat_map set_disks (shape_of g).sets)
steady_by g =
    sym (list_all-map (λ (d : DiskShape). d.steady) disk_shape (disks_of g))
    ∙ ap (λ (l : List DiskShape). list_all (λ (d : DiskShape). d.steady) (disk_shape g.state ∷ l)) (map-append disk_shape g.volumes (flat_map (λ (s : HeldSet). disks_there s.chunks) g.sets) ∙ ap (λ (l : List DiskShape). map disk_shape g.volumes ++ l) (sets_shapes g.sets))

pub same_steady : (g g' : IiDisks) → shape_of g' ≡ shape_of g → are_steady g' ≡ are_steady g
same_steady g g' same =
    steady_by g'
    ∙ ap (λ (s : GroupShape). list_all (λ (d : DiskShape). d.steady) (s.state ∷ s.volumes ++ flat_map set_disks s.sets)) same
    ∙ sym (steady_by g)

-- ---- a disk

pub record KeepsDisk (old new : Seen) : Type 0 where
  pub shape : disk_shape new ≡ disk_shape old
  pub told : IsTold old → IsTold new

pub same_disk : (old new : Seen) → IsSameDisk old new → KeepsDisk old new
same_disk old new d = record { shape = λ i. record { size = d.size i; steady = d.steady i }; told = d.told }

module _ (V : List Seen) (vol : ℕ) (m m' : Seen) (disk : m ≡ slice_index_or V vol m) (keeps : KeepsDisk m m') where
  pub shapes_at : map disk_shape (set V vol m') ≡ map disk_shape V
  shapes_at = map-set_same disk_shape V vol m' m (keeps.shape ∙ ap disk_shape disk)

  pub told_set : vol < length V → All IsTold V → All IsTold (set V vol m')
  told_set there told = All-set IsTold V vol m' (keeps.told (subst (λ (d : Seen). IsTold d) (sym disk) (told vol m there))) told

-- ---- a set

pub record KeepsSet (h : HeldSet) (c : ChunkSet) : Type 0 where
  pub kind : c.kind ≡ h.chunks.kind
  pub blocks : c.blocks ≡ h.chunks.blocks
  pub there : is_some c.shadow ≡ is_some h.chunks.shadow
  pub first : c.areas.first ≡ h.chunks.areas.first
  pub len : c.areas.len ≡ h.chunks.areas.len
  pub live_b : c.areas.live_b ≡ h.chunks.areas.live_b
  pub shadow : KeepsDisk (disk_of h.chunks.shadow) (disk_of c.shadow)
  pub bitmap : KeepsDisk h.chunks.areas.disk c.areas.disk

pub keeps_written : (h : HeldSet) (c : ChunkSet) (m m' : Seen) → Stays h.chunks c → AreSameDisks (disks_of_chunks h.chunks m) (disks_of_chunks c m') → KeepsSet h c
keeps_written h c m m' stays same = record {
  kind = stays.kind;
  blocks = stays.blocks;
  there = stays.there;
  first = stays.first;
  len = stays.len;
  live_b = stays.live_b;
  shadow = same_disk (disk_of h.chunks.shadow) (disk_of c.shadow) same.shadow;
  bitmap = same_disk h.chunks.areas.disk c.areas.disk same.bitmap;
}

-- of a set of which at most the disks change
pub keeps_disks : (h : HeldSet) (c : ChunkSet) → c ≡ record h.chunks { shadow = c.shadow; areas = record h.chunks.areas { disk = c.areas.disk } } → is_some c.shadow ≡ is_some h.chunks.shadow
    → KeepsDisk (disk_of h.chunks.shadow) (disk_of c.shadow) → KeepsDisk h.chunks.areas.disk c.areas.disk → KeepsSet h c
keeps_disks h c rest there shadow bitmap = record {
  kind = ap (λ (x : ChunkSet). x.kind) rest;
  blocks = ap (λ (x : ChunkSet). x.blocks) rest;
  there = there;
  first = ap (λ (x : ChunkSet). x.areas.first) rest;
  len = ap (λ (x : ChunkSet). x.areas.len) rest;
  live_b = ap (λ (x : ChunkSet). x.areas.live_b) rest;
  shadow = shadow;
  bitmap = bitmap;
}

module _ (h : HeldSet) (c : ChunkSet) (keeps : KeepsSet h c) where
  abbrev h' : HeldSet
  h' = record h { chunks = c }

  pub keeps_shape : set_shape (record h { chunks = c }) ≡ set_shape h
  keeps_shape = λ i. record {
    slot = h.slot;
    master = h.master;
    kind = keeps.kind i;
    blocks = keeps.blocks i;
    shadow = shadows h.chunks.shadow c.shadow keeps.there keeps.shadow.shape i;
    bitmap = keeps.bitmap.shape i;
  }
    where
      shadows : (o o' : Option Seen) → is_some o' ≡ is_some o → disk_shape (disk_of o') ≡ disk_shape (disk_of o) → option_map disk_shape o' ≡ option_map disk_shape o
      shadows None None same is = refl
      shadows None (Some d) same is = cc
      shadows (Some d) None same is = cc
      shadows (Some d) (Some e) same is = ap (λ (x : DiskShape). Some x) is

  pub keeps_told : IsSetTold (set_parts h) → IsSetTold (set_parts (record h { chunks = c }))
  keeps_told told = record { shadow = keeps.shadow.told told.shadow; bitmap = keeps.bitmap.told told.bitmap }

  keeps_on : IsOnDisks h → IsOnDisks h'
  keeps_on on = record {
    fits = record {
      shadow = room h.chunks.shadow c.shadow keeps.there (ap (λ (d : DiskShape). d.size) keeps.shadow.shape) on.fits.shadow;
      bitmap = omega (arith, on.fits.bitmap, ap (λ (d : DiskShape). d.size) keeps.bitmap.shape, ap (λ (n : ℕ). blocks_for (seg_count n)) keeps.blocks);
    };
    areas = λ i. record {
      disk = c.areas.disk;
      first = (keeps.first ∙ ap (λ (a : Areas). a.first) on.areas) i;
      len = (keeps.len ∙ ap (λ (a : Areas). a.len) on.areas ∙ ap (λ (n : ℕ). area_len (seg_count n)) (sym keeps.blocks)) i;
      live_b = c.areas.live_b;
    };
  }
    where
      room : (o o' : Option Seen) → is_some o' ≡ is_some o → (disk_of o').size ≡ (disk_of o).size → ((d : Seen) → o ≡ Some d → h.chunks.blocks ≤ d.size) → (d : Seen) → o' ≡ Some d → c.blocks ≤ d.size
      room None None same size fits d is = cc
      room None (Some x) same size fits d is = cc
      room (Some y) None same size fits d is = cc
      room (Some y) (Some x) same size fits d is =
          let one : x.size ≡ d.size = ap (λ (o : Option Seen). (disk_of o).size) is in
          omega (arith, fits y refl, size, one, keeps.blocks)

  module _ (slots : List Slot) (V V' : List Seen) (same : map disk_shape V' ≡ map disk_shape V) where
    long : length V' ≡ length V
    long = omega (arith, length-map V' disk_shape, length-map V disk_shape, ap (λ (l : List DiskShape). length l) same)

    size_same : (v : ℕ) → v < length V → size_of V' v ≡ size_of V v
    size_same v lt = sized V' (omega (arith, lt, long)) ∙ ap (λ (l : List DiskShape). (slice_index_or l v none).size) same ∙ sym (sized V lt)
      where
        none : DiskShape
        none = record { size = 0; steady = true }

        no_disk : Seen
        no_disk = disk_of None

        sized : (l : List Seen) → v < length l → size_of l v ≡ (slice_index_or (map disk_shape l) v none).size
        sized l lt = get_or-map (λ (d : Seen). d.size) l v no_disk 0 lt ∙ sym (ap (λ (d : DiskShape). d.size) (get_or-map disk_shape l v no_disk none lt))

    pub keeps_held : IsSettledInMemory c → IsHeld slots V h → IsHeld slots V' (record h { chunks = c })
    keeps_held settled own = record {
      slot = own.slot;
      master = omega (arith, own.master, long);
      there = subst (λ (b : Bool). IsTrue b) (sym keeps.there) own.there;
      blocks = size_same h.master own.master ∙ own.blocks ∙ sym keeps.blocks;
      whole = subst (λ (k : Kind). (k ≡ Ind) ⊎ (k ≡ Dep)) (sym keeps.kind) own.whole;
      area = λ l. keeps.live_b ∙ own.area l;
      first = λ no. keeps.live_b ∙ own.first no;
      fits = λ l. ap (λ (k : Kind). fits_slot (slot_in slots h.slot) k) keeps.kind ∙ own.fits l;
      settled = settled;
      some = subst (λ (n : ℕ). 0 < n) (sym keeps.blocks) own.some;
      on = keeps_on own.on;
    }

-- the memory is as settled as it was where it did not change
pub settled_same : (h : HeldSet) (c : ChunkSet) → c ≡ record h.chunks { shadow = c.shadow; areas = record h.chunks.areas { disk = c.areas.disk } } → IsSettledInMemory h.chunks → IsSettledInMemory c
settled_same h c rest settled = subst (λ (x : ChunkSet). IsSettledInMemory x) (sym rest) (record { none = settled.none })

-- a group with one set, of which the set and the volumes change
pub keeps_group : (state : Seen) (block : GroupBlock) (V V' : List Seen) (h : HeldSet) (c : ChunkSet) → KeepsSet h c → map disk_shape V' ≡ map disk_shape V → IsSettledInMemory c
    → IsKept state block V (h ∷ []) → IsKept state block V' (record h { chunks = c } ∷ [])
keeps_group state block V V' h c keeps same settled kept = record {
  room = kept.room;
  keeps = kept.keeps;
  fits = kept.fits;
  count = omega (arith, kept.count, long h c keeps block.slots V V' same);
  held = λ i d lt. one i d lt;
}
  where
    one : (i : ℕ) (d : HeldSet) → i < 1 → IsHeld block.slots V' (get_or (record h { chunks = c } ∷ []) i d)
    one zero d lt = keeps_held h c keeps block.slots V V' same settled (kept.held 0 h (omega arith))
    one (suc i) d lt = absurd (omega (arith, lt))
