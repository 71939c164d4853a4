-- The same of disks of any type, which contracts see.
use Rattle.std.proofs.Common.{◌≡◌, ℕ, ◌<◌, ◌≤◌, ◌/◌, ◌+◌, true, false, eqb, ◌&&◌, List, [], ◌∷◌, length, map, set, slice_index_or, Option, None, Some, Result, is_ok, sym, ◌∙◌, ap, subst, arith}
use Rattle.std.specs.Bool.{⊤}
use Rattle.std.proofs.lemmas.List.{get_or-map, map-set, length-map}
use Rattle.avs_dev.specs.Seen.{Seen, IsRange, Reads, Writes}
use Rattle.avs_dev.specs.Below.{IsRangeOf, ReadsBelow, WritesBelow, size_of}
use Rattle.avs_code.specs.declared.group_blocks.GroupBlock.{GroupBlock}
use Rattle.avs_ii.specs.declared.held.Held.{Held}
use Rattle.avs_ii.specs.Held.{HeldSet, IiDisks, is_live}
use Rattle.avs_ii.specs.Opened.{held_of, sets_of}
use Rattle.avs_ii.specs.Kept.{IsHeld, IsKept, HasRoom}
use Rattle.avs_ii.specs.AsBelow.{below_of, rest_of, WroteRest}
use Rattle.avs_chunk.specs.ChunkSet.{ChunkSet}
use Rattle.avs_ii.specs.Saved.{WritesMaster}
use Rattle.avs_ii.specs.Making.{no_faults}
use Rattle.avs_ii.specs.Calls.{on_each}
use Rattle.avs_ii.proofs.Making.{at_most_one}
use Rattle.avs_ii.proofs.Keeping.{Keeps, keeps_read, keeps_write, volume_keeps, master_keeps}
use Rattle.avs_ii.proofs.Belows.{as_group, at_one, size_at, size_is, master_kept, master_writes, master_wrote, v_kept, v_writes, v_reads, v_reads_rest, v_reads_same, v_reads_kept, none_wrote, one_wrote}

module _ {A : Type 0} (seen : A → Seen) (items : List A) (vol : ℕ) (was : A) (value : was ≡ slice_index_or items vol was) where
  pub there_as : vol < length items → vol < length (map seen items)
  there_as there = omega (arith, length-map items seen, there)

  pub disk_as : vol < length items → seen was ≡ slice_index_or (map seen items) vol (seen was)
  disk_as there = ap seen value ∙ sym (get_or-map seen items vol was (seen was) there)

  pub set_as : (new : A) → map seen (set items vol new) ≡ set (map seen items) vol (seen new)
  set_as new = map-set seen items vol new

-- the volume of a range is there, and the range lies in it
module _ {A : Type 0} (seen : A → Seen) (items : List A) (g : IiDisks) (volumes_are : map seen items ≡ g.volumes) (vol : ℕ) (was : A) (value : was ≡ slice_index_or items vol was) (at len : ℕ) (r : IsRangeOf (below_of g) vol at len) where
  pub inside_items : vol < length items
  inside_items = omega (arith, r.there, length-map g.volumes (λ (d : Seen). d.size), ap (λ (l : List Seen). length l) volumes_are, length-map items seen)

  pub range_as : IsRange (seen was) at len
  range_as = record {
    some = r.some;
    whole = r.whole;
    inside =
        let d = disk_as seen items vol was value inside_items ∙ ap (λ (l : List Seen). slice_index_or l vol (seen was)) volumes_are in
        let lt : vol < length g.volumes = omega (arith, r.there, length-map g.volumes (λ (d : Seen). d.size)) in
        omega (arith, r.inside, size_at g.volumes vol (seen was) (seen was) lt d);
  }

-- what is kept of the set that is held
pub kept_some : {D : Type 0} (state : Seen) (block : GroupBlock) (volumes : List Seen) (held : Option (Held D)) (h : Held D) → held ≡ Some h → IsKept state block volumes (sets_of held) → IsKept state block volumes (held_of h ∷ [])
kept_some {D = D} state block volumes held h is kept = subst (λ (o : Option (Held D)). IsKept state block volumes (sets_of o)) is kept

pub held_some : {D : Type 0} (state : Seen) (block : GroupBlock) (volumes : List Seen) (held : Option (Held D)) (h : Held D) → held ≡ Some h → IsKept state block volumes (sets_of held) → IsHeld block.slots volumes (held_of h)
held_some state block volumes held h is kept = at_one (IsHeld block.slots volumes) (held_of h) (kept_some state block volumes held h is kept).held

pub sets_some : {D : Type 0} (o : Option (Held D)) (h : Held D) → o ≡ Some h → sets_of o ≡ held_of h ∷ []
sets_some {D = D} o h is = ap (λ (x : Option (Held D)). sets_of x) is

pub room_some : {D : Type 0} {used capacity overs : ℕ} {sets : List HeldSet} (o : Option (Held D)) (h : Held D) → o ≡ Some h → HasRoom used capacity overs (sets_of o) → length sets ≡ 1 → HasRoom used capacity overs sets
room_some {D = D} o h is room one = record { empty = room.empty; place = omega (arith, room.place, ap (λ (x : Option (Held D)). length (sets_of x)) is, one); none = room.none }

-- ---- the exits of a write to a volume

module _ {A D : Type 0} (seen : A → Seen) (state : Seen) (block : GroupBlock) (items : List A) (o : Option (Held D)) (g : IiDisks) (view : as_group state block (map seen items) (sets_of o) ≡ g) (vol : ℕ) (was : A) (value : was ≡ slice_index_or items vol was) (at : ℕ) (bytes : List ℕ) (r : IsRangeOf (below_of g) vol at (length bytes)) where
  volumes_are : map seen items ≡ g.volumes
  volumes_are = ap (λ (x : IiDisks). x.volumes) view

  pub write_inside : vol < length items
  write_inside = inside_items seen items g volumes_are vol was value at (length bytes) r

  pub write_range : IsRange (seen was) at (length bytes)
  write_range = range_as seen items g volumes_are vol was value at (length bytes) r

  there : vol < length (map seen items)
  there = there_as seen items vol was value write_inside

  disk : seen was ≡ slice_index_or (map seen items) vol (seen was)
  disk = disk_as seen items vol was value write_inside

  after_as : (new : A) (sets : List HeldSet) → as_group state block (set (map seen items) vol (seen new)) sets ≡ as_group state block (map seen (set items vol new)) sets
  after_as new sets = ap (λ (l : List Seen). as_group state block l sets) (sym (set_as seen items vol was value new))

  -- of the set that is held
  module _ (h : Held D) (is : o ≡ Some h) (kept : IsKept state block (map seen items) (sets_of o)) where
    kept_h : IsKept state block (map seen items) (held_of h ∷ [])
    kept_h = kept_some state block (map seen items) o h is kept

    view_h : as_group state block (map seen items) (held_of h ∷ []) ≡ g
    view_h = ap (λ (x : Option (Held D)). as_group state block (map seen items) (sets_of x)) (sym is) ∙ view

    module _ (test : (eqb h.master vol && is_live block.slots h.slot) ≡ true) where
      pub set_size : (seen was).size ≡ h.chunks.blocks
      set_size = size_is state block (map seen items) (held_of h) kept_h vol (seen was) there disk test

      pub set_inside : at + length bytes / 512 ≤ h.chunks.blocks
      set_inside = omega (arith, write_range.inside, set_size)

      set_some : 0 < length bytes / 512
      set_some = omega (arith, write_range.some, write_range.whole)

      module _ {T E : Type 0} (result : Result T E) (new : A) (c' : ChunkSet) (w : WritesMaster h.chunks (seen was) at bytes result c' (seen new)) where
        pub exit_kept : IsKept state block (map seen (set items vol new)) (record (held_of h) { chunks = c' } ∷ [])
        exit_kept = subst (λ (l : List Seen). IsKept state block l (record (held_of h) { chunks = c' } ∷ [])) (sym (set_as seen items vol was value new)) (master_kept state block (map seen items) (held_of h) kept_h vol (seen was) there disk test at bytes c' (seen new) w.stays w.disks w.settled)

        pub exit_writes : WritesBelow ⊤ (below_of g) vol at bytes result (below_of (as_group state block (map seen (set items vol new)) (record (held_of h) { chunks = c' } ∷ [])))
        exit_writes =
            subst (λ (x : IiDisks). WritesBelow ⊤ (below_of x) vol at bytes result (below_of (as_group state block (map seen (set items vol new)) (record (held_of h) { chunks = c' } ∷ [])))) view_h
            (subst (λ (x : IiDisks). WritesBelow ⊤ (below_of (as_group state block (map seen items) (held_of h ∷ []))) vol at bytes result (below_of x)) (after_as new (record (held_of h) { chunks = c' } ∷ []))
            (master_writes state block (map seen items) (held_of h) kept_h vol (seen was) there disk test at bytes c' (seen new) w.stays w.disks w.settled result w))

        pub exit_wrote : WroteRest (rest_of g) vol at bytes (is_ok result) (rest_of (as_group state block (map seen (set items vol new)) (record (held_of h) { chunks = c' } ∷ [])))
        exit_wrote =
            subst (λ (x : IiDisks). WroteRest (rest_of x) vol at bytes (is_ok result) (rest_of (as_group state block (map seen (set items vol new)) (record (held_of h) { chunks = c' } ∷ [])))) view_h
            (subst (λ (x : IiDisks). WroteRest (rest_of (as_group state block (map seen items) (held_of h ∷ []))) vol at bytes (is_ok result) (rest_of x)) (after_as new (record (held_of h) { chunks = c' } ∷ []))
            (master_wrote state block (map seen items) (held_of h) kept_h vol (seen was) there disk test at bytes c' (seen new) w.stays w.disks w.settled set_some set_inside result w))

        pub exit_keeps : Keeps g (as_group state block (map seen (set items vol new)) (record (held_of h) { chunks = c' } ∷ []))
        exit_keeps =
            subst (λ (x : IiDisks). Keeps x (as_group state block (map seen (set items vol new)) (record (held_of h) { chunks = c' } ∷ []))) view_h
            (subst (λ (x : IiDisks). Keeps (as_group state block (map seen items) (held_of h ∷ [])) x) (after_as new (record (held_of h) { chunks = c' } ∷ []))
            (master_keeps state block (map seen items) (held_of h) kept_h vol (seen was) there disk test at bytes c' (seen new) result w))

    module _ (test : (eqb h.master vol && is_live block.slots h.slot) ≡ false) {T E : Type 0} (result : Result T E) (new : A) (w : Writes (seen was) at bytes result (seen new)) where
      pub other_wrote : WroteRest (rest_of g) vol at bytes (is_ok result) (rest_of (as_group state block (map seen (set items vol new)) (held_of h ∷ [])))
      other_wrote =
          subst (λ (x : IiDisks). WroteRest (rest_of x) vol at bytes (is_ok result) (rest_of (as_group state block (map seen (set items vol new)) (held_of h ∷ [])))) view_h
          (subst (λ (x : IiDisks). WroteRest (rest_of (as_group state block (map seen items) (held_of h ∷ []))) vol at bytes (is_ok result) (rest_of x)) (after_as new (held_of h ∷ []))
          (one_wrote state block (map seen items) vol (seen was) (seen new) there disk at bytes (held_of h) kept_h test result w))

  -- of a volume alone
  module _ {T E : Type 0} (result : Result T E) (new : A) (w : Writes (seen was) at bytes result (seen new)) where
    pub plain_kept : (sets : List HeldSet) → IsKept state block (map seen items) sets → IsKept state block (map seen (set items vol new)) sets
    plain_kept sets kept = subst (λ (l : List Seen). IsKept state block l sets) (sym (set_as seen items vol was value new)) (v_kept state block (map seen items) sets vol (seen was) (seen new) there disk w.size kept)

    pub plain_writes : (sets : List HeldSet) → sets_of o ≡ sets → WritesBelow ⊤ (below_of g) vol at bytes result (below_of (as_group state block (map seen (set items vol new)) sets))
    plain_writes sets is =
        subst (λ (x : IiDisks). WritesBelow ⊤ (below_of x) vol at bytes result (below_of (as_group state block (map seen (set items vol new)) sets))) (ap (λ (l : List HeldSet). as_group state block (map seen items) l) (sym is) ∙ view)
        (subst (λ (x : IiDisks). WritesBelow ⊤ (below_of (as_group state block (map seen items) sets)) vol at bytes result (below_of x)) (after_as new sets)
        (v_writes state block (map seen items) sets vol (seen was) (seen new) there disk at bytes result w))

    pub plain_keeps : (sets : List HeldSet) → sets_of o ≡ sets → IsKept state block (map seen items) sets → Keeps g (as_group state block (map seen (set items vol new)) sets)
    plain_keeps sets is kept =
        subst (λ (x : IiDisks). Keeps x (as_group state block (map seen (set items vol new)) sets)) (ap (λ (l : List HeldSet). as_group state block (map seen items) l) (sym is) ∙ view)
        (subst (λ (x : IiDisks). Keeps (as_group state block (map seen items) sets) x) (after_as new sets)
        (volume_keeps state block (map seen items) sets vol (seen was) (seen new) there disk (keeps_write (seen was) (seen new) at bytes result w) (subst (λ (l : List HeldSet). length l ≤ 1) is (at_most_one o)) kept))

    pub none_wrote_as : o ≡ None → WroteRest (rest_of g) vol at bytes (is_ok result) (rest_of (as_group state block (map seen (set items vol new)) (sets_of o)))
    none_wrote_as is =
        subst (λ (x : IiDisks). WroteRest (rest_of x) vol at bytes (is_ok result) (rest_of (as_group state block (map seen (set items vol new)) (sets_of o)))) view
        (subst (λ (x : IiDisks). WroteRest (rest_of (as_group state block (map seen items) (sets_of o))) vol at bytes (is_ok result) (rest_of x)) (after_as new (sets_of o))
        (subst (λ (x : Option (Held D)). WroteRest (rest_of (as_group state block (map seen items) (sets_of x))) vol at bytes (is_ok result) (rest_of (as_group state block (set (map seen items) vol (seen new)) (sets_of x)))) (sym is)
        (none_wrote state block (map seen items) vol (seen was) (seen new) there disk at bytes result w)))

-- ---- a read of a volume

module _ {A D : Type 0} (seen : A → Seen) (state : Seen) (block : GroupBlock) (items : List A) (o : Option (Held D)) (g : IiDisks) (view : as_group state block (map seen items) (sets_of o) ≡ g) (vol : ℕ) (was : A) (value : was ≡ slice_index_or items vol was) (at : ℕ) (bytes : List ℕ) (r : IsRangeOf (below_of g) vol at (length bytes)) {T E : Type 0} (result : Result T E) (new : A) (out : List ℕ) (w : Reads (seen was) at out result (seen new)) where
  inside_r : vol < length items
  inside_r = write_inside seen state block items o g view vol was value at bytes r

  there_r : vol < length (map seen items)
  there_r = there_as seen items vol was value inside_r

  disk_r : seen was ≡ slice_index_or (map seen items) vol (seen was)
  disk_r = disk_as seen items vol was value inside_r

  now_r : as_group state block (set (map seen items) vol (seen new)) (sets_of o) ≡ as_group state block (map seen (set items vol new)) (sets_of o)
  now_r = ap (λ (l : List Seen). as_group state block l (sets_of o)) (sym (set_as seen items vol was value new))

  pub read_below : ReadsBelow ⊤ (below_of g) vol at out result (below_of (as_group state block (map seen (set items vol new)) (sets_of o)))
  read_below =
      subst (λ (x : IiDisks). ReadsBelow ⊤ (below_of x) vol at out result (below_of (as_group state block (map seen (set items vol new)) (sets_of o)))) view
      (subst (λ (x : IiDisks). ReadsBelow ⊤ (below_of (as_group state block (map seen items) (sets_of o))) vol at out result (below_of x)) now_r
      (v_reads state block (map seen items) (sets_of o) vol (seen was) (seen new) there_r disk_r at out result w))

  pub read_rest : rest_of (as_group state block (map seen (set items vol new)) (sets_of o)) ≡ rest_of g
  read_rest = ap rest_of (sym now_r) ∙ v_reads_rest state block (map seen items) (sets_of o) vol (seen was) (seen new) there_r disk_r at out result w ∙ ap rest_of view

  pub read_same : on_each no_faults (as_group state block (map seen (set items vol new)) (sets_of o)) ≡ on_each no_faults g
  read_same = ap (λ (x : IiDisks). on_each no_faults x) (sym now_r) ∙ v_reads_same state block (map seen items) (sets_of o) vol (seen was) (seen new) there_r disk_r at out result w ∙ ap (λ (x : IiDisks). on_each no_faults x) view

  pub read_keeps : IsKept state block (map seen items) (sets_of o) → Keeps g (as_group state block (map seen (set items vol new)) (sets_of o))
  read_keeps kept =
      subst (λ (x : IiDisks). Keeps x (as_group state block (map seen (set items vol new)) (sets_of o))) view
      (subst (λ (x : IiDisks). Keeps (as_group state block (map seen items) (sets_of o)) x) now_r
      (volume_keeps state block (map seen items) (sets_of o) vol (seen was) (seen new) there_r disk_r (keeps_read (seen was) (seen new) at out result w) (at_most_one o) kept))

  pub read_kept : IsKept state block (map seen items) (sets_of o) → IsKept state block (map seen (set items vol new)) (sets_of o)
  read_kept kept = subst (λ (l : List Seen). IsKept state block l (sets_of o)) (sym (set_as seen items vol was value new)) (v_reads_kept state block (map seen items) (sets_of o) vol (seen was) (seen new) there_r disk_r at out result w kept)

pub size_as : {A D : Type 0} (seen : A → Seen) (state : Seen) (block : GroupBlock) (items : List A) (o : Option (Held D)) (g : IiDisks) → as_group state block (map seen items) (sets_of o) ≡ g → (vol : ℕ) (was : A) → was ≡ slice_index_or items vol was → vol < length (below_of g).sizes → (seen was).size ≡ size_of (below_of g) vol
size_as seen state block items o g view vol was value there =
    let volumes : map seen items ≡ g.volumes = ap (λ (x : IiDisks). x.volumes) view in
    let lt : vol < length items = omega (arith, there, length-map g.volumes (λ (d : Seen). d.size), ap (λ (l : List Seen). length l) volumes, length-map items seen) in
    let d = disk_as seen items vol was value lt in
    sym (size_at (map seen items) vol (seen was) (seen was) (there_as seen items vol was value lt) d) ∙ ap (λ (x : IiDisks). size_of (below_of x) vol) view
