-- Tears on the disks of a group: one is armed, or was met.
use Rattle.std.proofs.Common.{◌≡◌, ◌≢◌, ℕ, Bool, true, false, Some, None, List, [], ◌∷◌, ◌++◌, length, map, refl, sym, ◌∙◌, ap}
use Rattle.std.specs.Prelude.{◌&&◌, nat_lt, slice_set, slice_get}
use Rattle.std.specs.List.{flat_map, position}
use Rattle.std.specs.Option.{option_map}
use Rattle.std.specs.Str.{bytes_eq}
use Rattle.std.proofs.lemmas.List.{set-set, set_comm}
use Rattle.avs_seg.specs.Image.{Image, block_at}
use Rattle.avs_dev.specs.Seen.{Seen}
use Rattle.avs_code.specs.GroupBlock.{group_block_at}
use Rattle.avs_chunk.specs.ChunkSet.{both_disks}
use Rattle.avs_model.specs.State.{HostState, VolumeState, with_volume_of}
use Rattle.avs_model.specs.declared.shadow.Kind.TheVariants.{Dep}
use Rattle.avs_model.proofs.Volumes.{with_volume_of-place}
use Rattle.avs_ii.specs.Held.{HeldSet, IiDisks, disks_of, is_live}
use Rattle.avs_ii.specs.Shape.{GroupShape, SetShape, disk_shape, set_shape, shape_of}
use Rattle.avs_ii.specs.Parts.{PartDisks, parts_of, set_parts}
use Rattle.avs_world.specs.declared.place.Place.{Place}
use Rattle.avs_world.specs.declared.group.ShadowSet.{ShadowSet}
use Rattle.avs_world.specs.Views.{FourDisks, one_set}
use Rattle.avs_world.specs.Holds.{IsSetOf, Shown, expected, gone, is_enabled, kept, shown, shown_with}
use Rattle.avs_world.proofs.Holding.{shows-set, three_volumes, volume_named}
use Rattle.avs_world.proofs.OneSet.{IsOneSet, one_element, one_there}

-- a disk that shows what it showed, but for whether a tear is armed on it
pub record Marks (sure : Bool) (old new : Seen) (flag : Bool) : Type 0 where
  pub told : length new.image ≡ length old.image
  pub size : new.size ≡ old.size
  pub steady : new.steady ≡ old.steady
  pub armed : sure ≡ true → new.armed ≡ flag

-- what is shown of a disk whose image is not: it is kept in a group's state, or gone
abbrev pub hidden : Bool → Seen → Shown
hidden spent d = record { image = []; spent = spent; told = length d.image; size = d.size; some = nat_lt 0 d.size; steady = d.steady; armed = d.steady && d.armed }

armed_so : (steady sure was flag : Bool) → steady ≡ sure → (sure ≡ true → was ≡ flag) → (steady && was) ≡ (sure && flag)
armed_so true true was flag same so = so refl
armed_so false false was flag same so = refl
armed_so true false was flag same so = cc
armed_so false true was flag same so = cc

module _ (sure : Bool) (old new : Seen) (flag : Bool) (v : VolumeState) (marks : Marks sure old new flag) where
  pub hidden_marked : (spent : Bool) → hidden spent old ≡ expected sure v → hidden spent new ≡ expected sure (record v { armed = flag })
  hidden_marked spent is =
      let steady : new.steady ≡ sure = marks.steady ∙ ap (λ (s : Shown). s.steady) is in
      (λ i. record (is i) {
        told = (marks.told ∙ ap (λ (s : Shown). s.told) is) i;
        size = (marks.size ∙ ap (λ (s : Shown). s.size) is) i;
        some = (ap (λ (n : ℕ). nat_lt 0 n) marks.size ∙ ap (λ (s : Shown). s.some) is) i;
        steady = steady i;
        armed = armed_so new.steady sure new.armed flag steady marks.armed i;
      })

-- another disk of one of the three volumes of a set that is enabled
module _ (places : List (Place Seen)) (set : ShadowSet) (disks : FourDisks) (d : Seen) where
  pub other_master : set.shadow ≢ set.master → shown_with places set (record disks { master = d }) true ≡ slice_set (shown_with places set disks true) set.master (kept d)
  other_master differs =
      let base = slice_set (map shown places) set.bitmap (gone disks.bitmap) in
      ap (λ (l : List Shown). slice_set l set.shadow (kept disks.shadow)) (sym (set-set base set.master (kept disks.master) (kept d)))
      ∙ set_comm (slice_set base set.master (kept disks.master)) set.master set.shadow (kept d) (kept disks.shadow) (λ e. differs (sym e))

  pub other_shadow : shown_with places set (record disks { shadow = d }) true ≡ slice_set (shown_with places set disks true) set.shadow (kept d)
  other_shadow = sym (set-set (slice_set (slice_set (map shown places) set.bitmap (gone disks.bitmap)) set.master (kept disks.master)) set.shadow (kept disks.shadow) (kept d))

  pub other_bitmap : set.bitmap ≢ set.master → set.bitmap ≢ set.shadow → shown_with places set (record disks { bitmap = d }) true ≡ slice_set (shown_with places set disks true) set.bitmap (gone d)
  other_bitmap master shadow =
      let base = slice_set (map shown places) set.bitmap (gone disks.bitmap) in
      ap (λ (l : List Shown). slice_set (slice_set l set.master (kept disks.master)) set.shadow (kept disks.shadow)) (sym (set-set (map shown places) set.bitmap (gone disks.bitmap) (gone d)))
      ∙ ap (λ (l : List Shown). slice_set l set.shadow (kept disks.shadow)) (set_comm base set.bitmap set.master (gone d) (kept disks.master) master)
      ∙ set_comm (slice_set base set.master (kept disks.master)) set.bitmap set.shadow (gone d) (kept disks.shadow) shadow

-- what is shown, and the volumes, where one of the three disks is so marked
module _ (steady : Bool) (names : List (List ℕ)) (host : HostState) (places : List (Place Seen)) (set : ShadowSet) (disks : FourDisks)
    (same : names ≡ map (λ (v : VolumeState). v.name) host.volumes) (shows : shown_with places set disks true ≡ map (expected steady) host.volumes) (set_of : IsSetOf names set) (flag : Bool) where
  abbrev pub mark : VolumeState → VolumeState
  mark v = record v { armed = flag }

  module _ (name : List ℕ) where
    -- the volumes by place
    pub marked_at : (k : ℕ) (v : VolumeState) → position (bytes_eq name) names ≡ Some k → slice_get host.volumes k ≡ Some v → with_volume_of host.volumes name mark ≡ slice_set host.volumes k (mark v)
    marked_at k v sought there = with_volume_of-place host.volumes name mark k v (volume_named names host same name k sought).here there

    shows_marked : (k : ℕ) (v : VolumeState) (s : Shown) → position (bytes_eq name) names ≡ Some k → slice_get host.volumes k ≡ Some v → s ≡ expected steady (mark v)
        → slice_set (shown_with places set disks true) k s ≡ map (expected steady) (with_volume_of host.volumes name mark)
    shows_marked k v s sought there is = shows-set steady (shown_with places set disks true) host.volumes k s (mark v) shows is ∙ ap (map (expected steady)) (sym (marked_at k v sought there))

    pub master_marked : position (bytes_eq name) names ≡ Some set.master → (d : Seen) → Marks steady disks.master d flag
        → shown_with places set (record disks { master = d }) true ≡ map (expected steady) (with_volume_of host.volumes name mark)
    master_marked sought d marks =
        let at = (three_volumes steady names host places set disks true same shows set_of).master in
        other_master places set disks d set_of.shadow_differs
        ∙ shows_marked set.master at.volume (kept d) sought at.there (hidden_marked steady disks.master d flag at.volume marks false at.is)

    pub shadow_marked : position (bytes_eq name) names ≡ Some set.shadow → (d : Seen) → Marks steady disks.shadow d flag
        → shown_with places set (record disks { shadow = d }) true ≡ map (expected steady) (with_volume_of host.volumes name mark)
    shadow_marked sought d marks =
        let at = (three_volumes steady names host places set disks true same shows set_of).shadow in
        other_shadow places set disks d
        ∙ shows_marked set.shadow at.volume (kept d) sought at.there (hidden_marked steady disks.shadow d flag at.volume marks false at.is)

    pub bitmap_marked : position (bytes_eq name) names ≡ Some set.bitmap → (d : Seen) → Marks steady disks.bitmap d flag
        → shown_with places set (record disks { bitmap = d }) true ≡ map (expected steady) (with_volume_of host.volumes name mark)
    bitmap_marked sought d marks =
        let at = (three_volumes steady names host places set disks true same shows set_of).bitmap in
        other_bitmap places set disks d set_of.bitmap_differs set_of.bitmap_differs_too
        ∙ shows_marked set.bitmap at.volume (gone d) sought at.there (hidden_marked steady disks.bitmap d flag at.volume marks true at.is)

-- ---- the four disks of a group with one set

abbrev pub four : FourDisks → List Seen
four disks = disks.state ∷ disks.master ∷ disks.shadow ∷ disks.bitmap ∷ []

-- the disks of such a group, in order
pub four_list : (g : IiDisks) (slot : ℕ) (disks : FourDisks) → parts_of g ≡ one_set slot disks → disks_of g ≡ four disks
four_list g slot disks is =
    let set = one_element set_parts g.sets (record { slot = slot; kind = Dep; master = 0; shadow = Some disks.shadow; bitmap = disks.bitmap; over = None }) (ap (λ (p : PartDisks). p.sets) is) in
    let of : both_disks set.0.chunks.shadow set.0.chunks.areas.disk ≡ disks.shadow ∷ disks.bitmap ∷ [] = (λ i. both_disks (set.1.1 i).shadow (set.1.1 i).bitmap) in
    (λ i. (ap (λ (p : PartDisks). p.state) is) i ∷ (ap (λ (p : PartDisks). p.volumes) is) i ++ flat_map (λ (s : HeldSet). both_disks s.chunks.shadow s.chunks.areas.disk) (set.1.0 i))
    ∙ ap (λ (l : List Seen). disks.state ∷ disks.master ∷ l ++ []) of

-- the parts of a group with one set
pub parts_one : (set : ShadowSet) (disks : FourDisks) (held : IiDisks) → IsOneSet set disks held → parts_of held ≡ one_set set.slot disks
parts_one set disks held is =
    (λ i. record { state = is.state i; volumes = is.volumes i; sets = map set_parts (is.sets i); overs = [] })
    ∙ (λ i. record {
      state = disks.state;
      volumes = disks.master ∷ [];
      sets = record { slot = is.slot i; kind = is.kind i; master = is.master i; shadow = is.shadow i; bitmap = is.bitmap i; over = None } ∷ [];
      overs = [];
    })

-- the disks of a group of one set whose shape is that of another one
pub record StaysOne (old : FourDisks) (set : ShadowSet) (blocks : ℕ) (new : IiDisks) : Type 0 where
  pub disks : FourDisks
  pub one : IsOneSet set disks new
  pub same_blocks : one.one.chunks.blocks ≡ blocks
  pub state : disk_shape disks.state ≡ disk_shape old.state
  pub master : disk_shape disks.master ≡ disk_shape old.master
  pub shadow : disk_shape disks.shadow ≡ disk_shape old.shadow
  pub bitmap : disk_shape disks.bitmap ≡ disk_shape old.bitmap

pub stays_one : (set : ShadowSet) (old : IiDisks) (disks : FourDisks) (new : IiDisks) (is : IsOneSet set disks old) → shape_of new ≡ shape_of old → StaysOne disks set is.one.chunks.blocks new
stays_one set old disks new is same =
    let volumes = one_element disk_shape new.volumes (disk_shape disks.master) (ap (λ (s : GroupShape). s.volumes) same ∙ ap (map disk_shape) is.volumes) in
    let sets = one_element set_shape new.sets (set_shape is.one) (ap (λ (s : GroupShape). s.sets) same ∙ ap (map set_shape) is.sets) in
    let shadow = one_there disk_shape sets.0.chunks.shadow (disk_shape disks.shadow) (ap (λ (s : SetShape). s.shadow) sets.1.1 ∙ ap (option_map disk_shape) is.shadow) in
    record {
      disks = record { state = new.state; master = volumes.0; shadow = shadow.0; bitmap = sets.0.chunks.areas.disk };
      one = record {
        one = sets.0;
        state = refl;
        volumes = volumes.1.0;
        sets = sets.1.0;
        slot = ap (λ (s : SetShape). s.slot) sets.1.1 ∙ is.slot;
        kind = ap (λ (s : SetShape). s.kind) sets.1.1 ∙ is.kind;
        master = ap (λ (s : SetShape). s.master) sets.1.1 ∙ is.master;
        shadow = shadow.1;
        bitmap = refl;
      };
      same_blocks = ap (λ (s : SetShape). s.blocks) sets.1.1;
      state = ap (λ (s : GroupShape). s.state) same ∙ ap disk_shape is.state;
      master = volumes.1.1;
      shadow = shadow.2;
      bitmap = ap (λ (s : SetShape). s.bitmap) sets.1.1 ∙ ap disk_shape is.bitmap;
    }

-- whether it is enabled, the image of its state disk tells
pub enabled_same : (set : ShadowSet) (old new : IiDisks) → new.state.image ≡ old.state.image → is_enabled set (parts_of new) ≡ is_enabled set (parts_of old)
enabled_same set old new same = ap (λ (image : Image). is_live (group_block_at (block_at image 1)).slots set.slot) same
