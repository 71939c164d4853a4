-- A group that is made, and a set of it that is enabled or given up.
use Rattle.std.proofs.Common.{◌≡◌, ◌⊎◌, inl, inr, ℕ, zero, suc, ◌+◌, ◌-◌, ◌/◌, ◌^◌, ◌<◌, ◌≤◌, min, Bool, true, false, not, cond, eqb, ◌&&◌, nat_lt, All, List, [], ◌∷◌, length, set, get_or, replicate, slice_index, slice_index_or, slice_set, Option, None, Some, is_some, Ok, refl, sym, ◌∙◌, ap, subst, arith}
use Rattle.std.specs.Prelude.{find}
use Rattle.std.specs.Option.{option_map}
use Rattle.std.proofs.Math.Path.{fun_ext}
use Rattle.std.proofs.lemmas.Bool.{false≢true, cases_lt, eqb-true, eq-eqb}
use Rattle.std.proofs.lemmas.List.{get_or-map, get_or-replicate, get_or_past, length-replicate}
use Rattle.avs_seg.specs.Image.{Image, block_at, put}
use Rattle.avs_seg.specs.Segment.{seg_count}
use Rattle.avs_seg.specs.declared.fault.Failed.{Failed}
use Rattle.avs_seg.proofs.Blocks.{length-tabulate, block_at-tabulate, same_images}
use Rattle.avs_seg.proofs.Puts.{put_inside}
use Rattle.avs_dev.specs.Seen.{Seen, IsTold}
use Rattle.avs_code.specs.Label.{LabelKeeps, LabelFits, label_block}
use Rattle.avs_code.specs.GroupBlock.{group_block, GroupBlockKeeps, GroupBlockFits}
use Rattle.avs_code.specs.Slot.{no_slot, SlotKeeps, SlotFits}
use Rattle.avs_code.specs.declared.slot_table.Slot.{Slot}
use Rattle.avs_code.specs.declared.group_blocks.GroupBlock.{GroupBlock}
use Rattle.avs_code.proofs.GroupBlocks.{group_block_at-is}
use Rattle.avs_model.specs.Shadows.{no_chunks, all_chunks, left_at_enabling, enabled_set, Online}
use Rattle.avs_model.specs.declared.shadow.Kind.{Kind}
use Rattle.avs_model.specs.declared.shadow.Kind.TheVariants.{Ind, Dep, Compact}
use Rattle.avs_chunk.specs.States.{on_master, split, on_shadow}
use Rattle.avs_chunk.specs.ChunkSet.{ChunkSet, chunks_of, disk_state, shadow_image, shadow_by, disk_of}
use Rattle.avs_ii.specs.Held.{HeldSet, IiDisks, is_live, pending_at}
use Rattle.avs_ii.specs.Meaning.{group_by, shadow_of, chunks_with, touched_of, left_of, disk_image, kept_on, meaning}
use Rattle.avs_ii.specs.Sound.{HoldsBlock, IsSoundSet, HasNoneBack, state_label}
use Rattle.avs_ii.specs.Kept.{IsHeld, IsKept}
use Rattle.avs_ii.specs.Parts.{size_of}
use Rattle.avs_ii.specs.Opened.{held_of, sets_of}
use Rattle.avs_ii.specs.declared.held.Held.{Held}
use Rattle.avs_ii.specs.Making.{empty_block, Formats, Opens, IsSetTold}
use Rattle.avs_ii.specs.Calls.{live_slot, next_block, block_with}
use Rattle.avs_ii.proofs.OpenSets.{lt_true}

-- ---- lists of one

pub all_none : {X : Type 0} (P : X → Type 0) → All P []
all_none P = λ i d lt. elim (none i lt) [ ]
  where
    none : (i : ℕ) → i < zero → ⊥
    none i lt = omega arith

pub all_of : {X : Type 0} (P : X → Type 0) (x : X) → P x → All P (x ∷ [])
all_of {X = X} P x p = λ i d lt. go i d lt
  where
    go : (i : ℕ) (d : X) → i < 1 → P (get_or (x ∷ []) i d)
    go zero d lt = p
    go (suc i) d lt = elim (none i lt) [ ]
      where
        none : (i : ℕ) → suc i < 1 → ⊥
        none i lt = omega arith

pub of_all : {X : Type 0} (P : X → Type 0) (x : X) → All P (x ∷ []) → P x
of_all P x all = all 0 x (omega arith)

all_same : {X : Type 0} (P : X → Type 0) (n : ℕ) (x : X) → P x → All P (replicate n x)
all_same P n x p = λ i d lt. subst P (sym (get_or-replicate n i x d (omega (arith, lt, length-replicate n x)))) p

-- ---- a group by its parts

abbrev pub the_group : Seen → GroupBlock → List Seen → List HeldSet → IiDisks
the_group state block V sets = record { state = state; block = block; volumes = V; sets = sets }

-- the disk of a set's master tells as many blocks as the set has
pub master_len : (slots : List Slot) (V : List Seen) (s : HeldSet) → IsHeld slots V s → All IsTold V → (d : Seen) → length (disk_image V s.master) ≡ s.chunks.blocks
master_len slots V s own told d =
    let m = slice_index_or V s.master d in
    let image : disk_image V s.master ≡ m.image = get_or-map (λ (x : Seen). x.image) V s.master d [] own.master in
    let size : size_of V s.master ≡ m.size = get_or-map (λ (x : Seen). x.size) V s.master d 0 own.master in
    ap (λ (i : Image). length i) image ∙ told s.master d own.master ∙ sym size ∙ own.blocks

-- ---- what a state disk holds

pub kept_is : (state : Seen) (block : GroupBlock) → HoldsBlock state block → kept_on state ≡ block
kept_is state block h = group_block_at-is (block_at state.image 1) block h.holds

pub meaning_by : (g : IiDisks) → HoldsBlock g.state g.block → meaning g ≡ group_by g.block.slots g.block.note g.volumes g.sets
meaning_by g h = ap (λ (b : GroupBlock). group_by b.slots b.note g.volumes g.sets) (kept_is g.state g.block h)

-- ---- a new group

pub empty_keeps : GroupBlockKeeps empty_block
empty_keeps = record { version = refl; slots = all_same SlotKeeps 16 no_slot (record { flags = omega arith; kind = omega arith; stamp = omega arith }) }

pub empty_fits : GroupBlockFits empty_block
empty_fits = record {
  sequence = omega arith;
  slot_count = length-replicate 16 no_slot;
  slots = all_same SlotFits 16 no_slot (record { need = omega arith; slots = omega arith });
  note_len = length-replicate 64 z;
  note = λ i. note_at i (cases_lt i 64);
}
  where
    z : ℕ
    z = 0

    note_at : (i : ℕ) → (i < 64) ⊎ (64 ≤ i) → slice_index (replicate 64 z) i < 256
    note_at i (inl lt) = omega (arith, get_or-replicate 64 i z z lt)
    note_at i (inr past) = omega (arith, get_or_past (replicate 64 z) i z (omega (arith, past, length-replicate 64 z)))

pub label_keeps : LabelKeeps state_label
label_keeps = record { version = refl; kind_some = omega arith; kind = omega arith; stamp = omega arith; stamp_none = λ _. refl }

pub label_fits : LabelFits state_label
label_fits = record { blocks = omega arith; segments = omega arith }

module _ (old new : Seen) (room : 64 ≤ old.size) (f : Formats {T = Unit {0}} {E = Failed} old empty_block (Ok tt) new) where
  abbrev pair : Image
  pair = label_block state_label ∷ group_block empty_block ∷ []

  image_new : IsTold old → new.image ≡ put old.image 0 pair
  image_new told = f.writes.done told ∙ ap (λ (l : Image). put old.image 0 l) f.blocks

  holds_new : IsTold old → HoldsBlock new empty_block
  holds_new told =
      let first : block_at new.image 0 ≡ label_block state_label = ap (λ (l : Image). block_at l 0) (image_new told) ∙ put_inside old.image 0 pair 0 (omega arith) (omega arith) (omega (arith, told, room)) in
      let second : block_at new.image 1 ≡ group_block empty_block = ap (λ (l : Image). block_at l 1) (image_new told) ∙ put_inside old.image 0 pair 1 (omega arith) (omega arith) (omega (arith, told, room)) in
      record {
        told = f.writes.told told;
        label = record { keeps = label_keeps; fits = label_fits; spelled = first };
        holds = record { keeps = empty_keeps; fits = empty_fits; spelled = second };
      }

  pub opens_new : Opens old (record { state = new; block = empty_block; volumes = []; sets = [] })
  opens_new = record {
    is = refl;
    disk = record { size = f.writes.size; steady = f.writes.steady; told = f.writes.told; later = f.writes.cause.later };
    armed = f.writes.still_armed;
    counted = f.writes.counted ∙ ap (λ (n : ℕ). min (old.written + n) (2 ^ 64 - 1)) (two f.bytes f.len);
    written = image_new;
    sound = λ told. record { holds = holds_new told; disks = record { told = all_none IsTold; each = all_none (IsSoundSet (replicate 16 no_slot)) } };
    group = λ told. meaning_by (record { state = new; block = empty_block; volumes = []; sets = [] }) (holds_new told);
    told = λ told. record { state = f.writes.told told; volumes = all_none IsTold; sets = all_none IsSetTold };
  }
    where
      two : (bytes : List ℕ) → length bytes ≡ 1024 → length bytes / 512 ≡ 2
      two bytes len = omega (arith, len)

  pub kept_new : IsKept new empty_block [] []
  kept_new = record {
    room = omega (arith, room, f.writes.size);
    keeps = empty_keeps;
    fits = empty_fits;
    count = omega arith;
    held = all_none (IsHeld (replicate 16 no_slot) []);
  }

-- ---- a set all of whose chunks stand on the master alone

module _ (s : ChunkSet) (img : Image) (fresh : (c : ℕ) → c < chunks_of s → disk_state s c ≡ on_master) (len : length img ≡ s.blocks) where
  pub shadow_fresh : shadow_image s img ≡ img
  unfolding shadow_by
  shadow_fresh = same_images _ _ long (λ i lt. each i (omega (arith, lt, long, len)))
    where
      long : length (shadow_image s img) ≡ length img
      long = length-tabulate _ _ ∙ sym len

      each : (i : ℕ) → i < s.blocks → block_at (shadow_image s img) i ≡ block_at img i
      each i lt = block_at-tabulate _ _ i lt ∙ ap (λ (b : Bool). cond b (block_at img i) (block_at (disk_of s.shadow).image i)) (eq-eqb (disk_state s (i / 64)) on_master (fresh (i / 64) (omega arith)))

module _ (s : ChunkSet) (fresh : (c : ℕ) → c < chunks_of s → disk_state s c ≡ on_master) where
  there : (c : ℕ) → nat_lt c (chunks_of s) ≡ true → c < chunks_of s
  there c t = lt_true c (chunks_of s) t

  other_test : (state c : ℕ) (b : Bool) → nat_lt c (chunks_of s) ≡ b → eqb on_master state ≡ false → (b && eqb (disk_state s c) state) ≡ false
  other_test state c true is other = ap (λ (k : ℕ). eqb k state) (fresh c (there c is)) ∙ other
  other_test state c false is other = refl

  same_test : (c : ℕ) (b : Bool) → nat_lt c (chunks_of s) ≡ b → (b && eqb (disk_state s c) on_master) ≡ b
  same_test c true is = ap (λ (k : ℕ). eqb k on_master) (fresh c (there c is))
  same_test c false is = refl

  touched_test : (c : ℕ) (b : Bool) → nat_lt c (chunks_of s) ≡ b → (b && not (eqb (disk_state s c) on_master)) ≡ false
  touched_test c true is = ap (λ (k : ℕ). not (eqb k on_master)) (fresh c (there c is))
  touched_test c false is = refl

  none_with : (state : ℕ) → eqb on_master state ≡ false → chunks_with s state ≡ no_chunks
  none_with state other = fun_ext (λ c. other_test state c (nat_lt c (chunks_of s)) refl other)

  all_with : (n : ℕ) → n ≡ s.blocks → chunks_with s on_master ≡ all_chunks n
  all_with n is = fun_ext (λ c. same_test c (nat_lt c (chunks_of s)) refl ∙ ap (λ (k : ℕ). nat_lt c (seg_count k)) (sym is))

  none_touched : (λ c. nat_lt c (chunks_of s) && not (eqb (disk_state s c) on_master)) ≡ no_chunks
  none_touched = fun_ext (λ c. touched_test c (nat_lt c (chunks_of s)) refl)

  touched_fresh : (kind : Kind) → touched_of kind s ≡ no_chunks
  touched_fresh Ind = refl
  touched_fresh Dep = none_touched
  touched_fresh Compact = none_touched

  left_fresh : (kind : Kind) (n : ℕ) → n ≡ s.blocks → left_of kind s ≡ left_at_enabling kind n
  left_fresh Ind n is = all_with n is
  left_fresh Dep n is = refl
  left_fresh Compact n is = refl

  pub none_back_fresh : HasNoneBack s
  none_back_fresh = record { none = λ c lt is. never (sym (fresh c lt) ∙ is) }
    where
      never : on_master ≡ on_shadow → ⊥
      never e = omega (arith, e)

-- a set that is enabled, as a state
pub state_fresh : (slot : ℕ) (s : HeldSet) (img : Image) → s.slot ≡ slot → ((c : ℕ) → c < chunks_of s.chunks → disk_state s.chunks c ≡ on_master) → length img ≡ s.chunks.blocks
    → shadow_of (live_slot s.chunks.kind) s s.chunks img ≡ enabled_set slot s.chunks.kind s.master img
state_fresh slot s img is fresh len = λ i. record {
  slot = is i;
  kind = s.chunks.kind;
  master = s.master;
  blocks = sym len i;
  image = shadow_fresh s.chunks img fresh len i;
  touched = touched_fresh s.chunks fresh s.chunks.kind i;
  moved = none_with s.chunks fresh split refl i;
  left = left_fresh s.chunks fresh s.chunks.kind (length img) len i;
  back = none_with s.chunks fresh on_shadow refl i;
  stopped = false;
  standing = Online;
}

-- ---- the pending set of a group with one set

find_here : (slots : List Slot) (h : HeldSet) (slot : ℕ) (a b : Bool) → is_live slots h.slot ≡ a → eqb h.slot slot ≡ b → find (λ s. eqb s.slot slot) (cond (not a) (h ∷ []) []) ≡ cond (not a && b) (Some h) None
find_here slots h slot true b la eb = refl
find_here slots h slot false true la eb = ap (λ (t : Bool). cond t (Some h) None) eb
find_here slots h slot false false la eb = ap (λ (t : Bool). cond t (Some h) None) eb

pub pending_one : (state : Seen) (block : GroupBlock) (V : List Seen) (h : HeldSet) (slot : ℕ) → pending_at (record { state = state; block = block; volumes = V; sets = h ∷ [] }) slot ≡ cond (not (is_live block.slots h.slot) && eqb h.slot slot) (Some h) None
pending_one state block V h slot = find_here block.slots h slot (is_live block.slots h.slot) (eqb h.slot slot) refl refl

-- what it means that it is found
pub record IsOnly (slots : List Slot) (sets : List HeldSet) (slot : ℕ) (s : HeldSet) : Type 0 where
  pub only : sets ≡ s ∷ []
  pub place : s.slot ≡ slot
  pub pending : is_live slots s.slot ≡ false

abbrev some_or : {X : Type 0} → X → Option X → X
some_or x None = x
some_or x (Some z) = z

pub some_same : {X : Type 0} (x y : X) → Some x ≡ Some y → x ≡ y
some_same x y e = ap (λ o. some_or x o) e

pub none_some : {X : Type 0} {x : X} → None ≡ Some x → ⊥
none_some e = false≢true (ap is_some e)

pub found_only : (state : Seen) (block : GroupBlock) (V : List Seen) (sets : List HeldSet) (slot : ℕ) (s : HeldSet) → length sets ≤ 1 → pending_at (record { state = state; block = block; volumes = V; sets = sets }) slot ≡ Some s → IsOnly block.slots sets slot s
found_only state block V [] slot s one found = absurd (none_some found)
found_only state block V (h ∷ []) slot s one found = by_tests (is_live block.slots h.slot) (eqb h.slot slot) refl refl (sym (pending_one state block V h slot) ∙ found)
  where
    by_tests : (a b : Bool) → is_live block.slots h.slot ≡ a → eqb h.slot slot ≡ b → cond (not (is_live block.slots h.slot) && eqb h.slot slot) (Some h) None ≡ Some s → IsOnly block.slots (h ∷ []) slot s
    by_tests true b la eb f = absurd (none_some (sym (ap (λ (t : Bool). cond (not t && eqb h.slot slot) (Some h) None) la) ∙ f))
    by_tests false false la eb f = absurd (none_some (sym (ap (λ (t : Bool). cond (not t && eqb h.slot slot) (Some h) None) la ∙ ap (λ (t : Bool). cond t (Some h) None) eb) ∙ f))
    by_tests false true la eb f =
        let same : h ≡ s = some_same h s (sym (ap (λ (t : Bool). cond (not t && eqb h.slot slot) (Some h) None) la ∙ ap (λ (t : Bool). cond t (Some h) None) eb) ∙ f) in
        record { only = ap (λ (x : HeldSet). x ∷ []) same; place = ap (λ (x : HeldSet). x.slot) (sym same) ∙ eqb-true h.slot slot eb; pending = ap (λ (x : HeldSet). is_live block.slots x.slot) (sym same) ∙ la }
found_only state block V (h ∷ k ∷ l) slot s one found = absurd (omega (arith, one))

-- ---- what a group finds of the set that is named

pub held_one : {D : Type 0} (P : HeldSet → Type 0) (set : Option (Held D)) (held : Held D) → set ≡ Some held → All P (sets_of set) → P (held_of held)
held_one {D = D} P set held is all = of_all P (held_of held) (subst (λ (o : Option (Held D)). All P (sets_of o)) is all)

pub at_most_one : {D : Type 0} (set : Option (Held D)) → length (sets_of set) ≤ 1
at_most_one None = omega arith
at_most_one (Some held) = omega arith

option_found : {X Y : Type 0} (f : X → Y) (o : Option X) (y : Y) → option_map f o ≡ Some y → (x : X) × ((o ≡ Some x) × (f x ≡ y))
option_found f None y e = absurd (none_some e)
option_found f (Some x) y e = (x, (refl, some_same (f x) y e))

pub record IsFound (slots : List Slot) (sets : List HeldSet) (slot : ℕ) (kind : Kind) : Type 0 where
  pub set : HeldSet
  pub only : sets ≡ set ∷ []
  pub place : set.slot ≡ slot
  pub pending : is_live slots set.slot ≡ false
  pub kind_is : set.chunks.kind ≡ kind

pub found_kind : (state : Seen) (block : GroupBlock) (V : List Seen) (sets : List HeldSet) (slot : ℕ) (kind : Kind) → length sets ≤ 1 → option_map (λ (s : HeldSet). s.chunks.kind) (pending_at (the_group state block V sets) slot) ≡ Some kind → IsFound block.slots sets slot kind
found_kind state block V sets slot kind one e =
    let f = option_found (λ (s : HeldSet). s.chunks.kind) (pending_at (the_group state block V sets) slot) kind e in
    let o = found_only state block V sets slot f.0 one f.1.0 in
    record { set = f.0; only = o.only; place = o.place; pending = o.pending; kind_is = f.1.1 }

pub next_is : (block : GroupBlock) (s : HeldSet) (slot : ℕ) (kind : Kind) → s.slot ≡ slot → s.chunks.kind ≡ kind → record (next_block block) { slots = slice_set block.slots slot (live_slot kind) } ≡ block_with block s
next_is block s slot kind is same =
    ap (λ (k : ℕ). record (next_block block) { slots = slice_set block.slots k (live_slot kind) }) (sym is)
    ∙ ap (λ (k : Kind). record (next_block block) { slots = slice_set block.slots s.slot (live_slot k) }) (sym same)
