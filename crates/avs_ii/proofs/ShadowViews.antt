-- Reads and writes of a shadow over disks of any type.
use Rattle.std.proofs.Common.{◌≡◌, ℕ, ◌<◌, ◌≤◌, ◌/◌, ◌+◌, true, false, eqb, ◌&&◌, List, [], ◌∷◌, length, map, set, slice_index_or, Option, None, Some, Result, sym, ◌∙◌, ap, subst, arith}
use Rattle.std.proofs.lemmas.List.{length-map}
use Rattle.avs_dev.specs.Seen.{Seen}
use Rattle.avs_code.specs.declared.group_blocks.GroupBlock.{GroupBlock}
use Rattle.avs_chunk.specs.ChunkSet.{ChunkSet}
use Rattle.avs_chunk.specs.Calls.{WritesShadow, ReadsShadow}
use Rattle.avs_ii.specs.declared.held.Held.{Held}
use Rattle.avs_ii.specs.Held.{IiDisks, is_live, set_at}
use Rattle.avs_ii.specs.Opened.{held_of, sets_of}
use Rattle.avs_ii.specs.Kept.{IsHeld, IsKept}
use Rattle.avs_ii.specs.Calls.{IsShadowRange, WritesSet, ReadsSet, faulted}
use Rattle.avs_ii.specs.Sound.{IsSound}
use Rattle.avs_ii.specs.Parts.{parts_of}
use Rattle.avs_ii.specs.Making.{AreWhole}
use Rattle.avs_ii.proofs.Making.{at_most_one}
use Rattle.avs_ii.proofs.Loading.{whole_sound}
use Rattle.avs_ii.proofs.Belows.{as_group}
use Rattle.avs_ii.proofs.Views.{disk_as, set_as, kept_some, held_some}
use Rattle.avs_ii.proofs.Shadows.{set_found, set_missing, size_m, writes_set, settled_after, shadow_kept, reads_set, read_set_kept}

-- no set is held, or another one
pub none_set : {D : Type 0} (state : Seen) (block : GroupBlock) (V : List Seen) (o : Option (Held D)) (g : IiDisks) (slot : ℕ) → as_group state block V (sets_of o) ≡ g → o ≡ None → set_at g slot ≡ None
none_set {D = D} state block V o g slot view is =
    ap (λ (x : IiDisks). set_at x slot) (sym view) ∙ ap (λ (x : Option (Held D)). set_at (as_group state block V (sets_of x)) slot) is

-- a sound group is found on its parts
pub whole_as : {D : Type 0} (state : Seen) (block : GroupBlock) (V : List Seen) (o : Option (Held D)) (g : IiDisks) → as_group state block V (sets_of o) ≡ g → IsKept state block V (sets_of o) → IsSound g → AreWhole (parts_of g)
whole_as state block V o g view kept =
    subst (λ (x : IiDisks). IsSound x → AreWhole (parts_of x)) view (whole_sound state block V (sets_of o) (at_most_one o) kept)

module _ {A D : Type 0} (seen : A → Seen) (state : Seen) (block : GroupBlock) (items : List A) (o : Option (Held D)) (g : IiDisks) (view : as_group state block (map seen items) (sets_of o) ≡ g) (h : Held D) (is : o ≡ Some h) (kept : IsKept state block (map seen items) (sets_of o)) (slot : ℕ) where
  kept_h : IsKept state block (map seen items) (held_of h ∷ [])
  kept_h = kept_some state block (map seen items) o h is kept

  own : IsHeld block.slots (map seen items) (held_of h)
  own = held_some state block (map seen items) o h is kept

  pub view_h : as_group state block (map seen items) (held_of h ∷ []) ≡ g
  view_h = ap (λ (x : Option (Held D)). as_group state block (map seen items) (sets_of x)) (sym is) ∙ view

  pub master_there : h.master < length items
  master_there = omega (arith, own.master, length-map items seen)

  pub other_set : (eqb h.slot slot && is_live block.slots h.slot) ≡ false → set_at g slot ≡ None
  other_set test = ap (λ (x : IiDisks). set_at x slot) (sym view_h) ∙ set_missing state block (map seen items) (held_of h) slot test

  module _ (test : (eqb h.slot slot && is_live block.slots h.slot) ≡ true) (was : A) (value : was ≡ slice_index_or items h.master was) where
    disk : seen was ≡ slice_index_or (map seen items) h.master (seen was)
    disk = disk_as seen items h.master was value master_there

    pub master_size : (seen was).size ≡ h.chunks.blocks
    master_size = size_m state block (map seen items) (held_of h) kept_h slot test (seen was) disk

    pub shadow_inside : (at len : ℕ) → IsShadowRange g slot at len → at + len / 512 ≤ h.chunks.blocks
    shadow_inside at len r = r.inside (held_of h) (ap (λ (x : IiDisks). set_at x slot) (sym view_h) ∙ set_found state block (map seen items) (held_of h) slot test)

    module _ (at : ℕ) (bytes : List ℕ) (r : IsShadowRange g slot at (length bytes)) (c' : ChunkSet) (new : A) {T E : Type 0} (result : Result T E) where
      some : 0 < length bytes / 512
      some = omega (arith, r.some, r.whole)

      inside : at + length bytes / 512 ≤ h.chunks.blocks
      inside = shadow_inside at (length bytes) r

      pub write_set : WritesShadow h.chunks (seen was) at bytes result c' (seen new) → WritesSet g slot at bytes (faulted result) (as_group state block (map seen (set items h.master new)) (record (held_of h) { chunks = c' } ∷ []))
      write_set w =
          subst (λ (x : IiDisks). WritesSet x slot at bytes (faulted result) (as_group state block (map seen (set items h.master new)) (record (held_of h) { chunks = c' } ∷ []))) view_h
          (subst (λ (l : List Seen). WritesSet (as_group state block (map seen items) (held_of h ∷ [])) slot at bytes (faulted result) (as_group state block l (record (held_of h) { chunks = c' } ∷ []))) (sym (set_as seen items h.master was value new))
          (writes_set state block (map seen items) (held_of h) kept_h slot test (seen was) disk at bytes some inside c' (seen new) result w))

      pub write_set_kept : WritesShadow h.chunks (seen was) at bytes result c' (seen new) → IsKept state block (map seen (set items h.master new)) (record (held_of h) { chunks = c' } ∷ [])
      write_set_kept w =
          subst (λ (l : List Seen). IsKept state block l (record (held_of h) { chunks = c' } ∷ [])) (sym (set_as seen items h.master was value new))
          (shadow_kept state block (map seen items) (held_of h) kept_h slot test (seen was) disk at bytes some inside c' (seen new) result w (settled_after state block (map seen items) (held_of h) kept_h slot test (seen was) disk at bytes some inside c' (seen new) result w))

    module _ (at : ℕ) (out : List ℕ) (c' : ChunkSet) (new : A) {T E : Type 0} (result : Result T E) (w : ReadsShadow h.chunks (seen was) at out result c' (seen new)) where
      pub read_set : ReadsSet g slot out at (faulted result) (as_group state block (map seen (set items h.master new)) (record (held_of h) { chunks = c' } ∷ []))
      read_set =
          subst (λ (x : IiDisks). ReadsSet x slot out at (faulted result) (as_group state block (map seen (set items h.master new)) (record (held_of h) { chunks = c' } ∷ []))) view_h
          (subst (λ (l : List Seen). ReadsSet (as_group state block (map seen items) (held_of h ∷ [])) slot out at (faulted result) (as_group state block l (record (held_of h) { chunks = c' } ∷ []))) (sym (set_as seen items h.master was value new))
          (reads_set state block (map seen items) (held_of h) kept_h slot test (seen was) disk at c' (seen new) out result w))

      pub read_set_kept_as : IsKept state block (map seen (set items h.master new)) (record (held_of h) { chunks = c' } ∷ [])
      read_set_kept_as =
          subst (λ (l : List Seen). IsKept state block l (record (held_of h) { chunks = c' } ∷ [])) (sym (set_as seen items h.master was value new))
          (read_set_kept state block (map seen items) (held_of h) kept_h slot test (seen was) disk at c' (seen new) out result w)
