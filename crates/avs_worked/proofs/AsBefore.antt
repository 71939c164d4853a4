-- The stages of a group of sets that are online do what the stages of the first groups do.
use Rattle.std.proofs.Common.{◌≡◌, ℕ, cond, List, [], ◌∷◌, map, refl, sym, ◌∙◌, ap, subst, inl, inr}
use Rattle.std.specs.Prelude.{Option}
use Rattle.std.proofs.lemmas.Bool.{cases_Bool, cond-true, cond-false}
use Rattle.avs_model.specs.ShadowSets.{ChunkLists, Contents, SetSize, ShadowState, Standing, Online, Offline, Exported, chunk_written}
use Rattle.avs_model.specs.GroupStates.{has_slot}
use Rattle.avs_model.specs.Shadows as before
use Rattle.avs_model.specs.declared.shadow.Kind.{Kind}
use Rattle.avs_model.specs.declared.shadow.Kind.TheVariants.{Ind, Dep, Compact}

-- a set as the first groups have it
abbrev pub standing_before : Standing → before.Standing
standing_before Online = before.Online
standing_before (Offline need slots) = before.Offline need slots
standing_before (Exported stamp) = before.Exported stamp

abbrev pub set_before : ShadowState → before.ShadowState
set_before set = record {
  slot = set.slot;
  kind = set.kind;
  master = set.master;
  blocks = set.size.blocks;
  image = set.contents.image;
  touched = set.lists.touched;
  moved = set.lists.moved;
  left = set.lists.left;
  back = set.lists.back;
  stopped = set.lists.stopped;
  standing = standing_before set.standing;
}

-- one chunk of a set that is online is written
abbrev pub online : ℕ → Kind → ℕ → SetSize → Option ℕ → ChunkLists → Contents → ShadowState
online slot kind master size over lists contents = record {
  slot = slot;
  kind = kind;
  master = master;
  size = size;
  over = over;
  lists = lists;
  standing = Online;
  contents = contents;
}

pub written_online : (slot : ℕ) (kind : Kind) (master : ℕ) (size : SetSize) (over : Option ℕ) (lists : ChunkLists) (contents : Contents) (chunk : ℕ)
    → set_before (chunk_written chunk (online slot kind master size over lists contents))
    ≡ before.chunk_written (set_before (online slot kind master size over lists contents)) chunk
written_online slot Ind master size over lists contents chunk = refl
written_online slot Dep master size over lists contents chunk = refl
written_online slot Compact master size over lists contents chunk = refl

pub written_as_before : (chunk : ℕ) (set : ShadowState) → set.standing ≡ Online → set_before (chunk_written chunk set) ≡ before.chunk_written (set_before set) chunk
written_as_before chunk set is =
    subst (λ (standing : Standing). set_before (chunk_written chunk (record set { standing = standing })) ≡ before.chunk_written (set_before (record set { standing = standing })) chunk)
    (sym is) (written_online set.slot set.kind set.master set.size set.over set.lists set.contents chunk)

-- each set is online
abbrev pub AreOnline : List ShadowState → Type 0
AreOnline [] = Unit {0}
AreOnline (set ∷ sets) = (set.standing ≡ Online) × AreOnline sets

pub one_marked : (slot chunk : ℕ) (set : ShadowState) → set.standing ≡ Online
    → set_before (cond (has_slot slot set) (chunk_written chunk set) set) ≡ cond (has_slot slot set) (before.chunk_written (set_before set) chunk) (set_before set)
one_marked slot chunk set is = elim (cases_Bool (has_slot slot set)) [
  | inl own ↦
      ap set_before (cond-true (has_slot slot set) (chunk_written chunk set) set own)
      ∙ written_as_before chunk set is
      ∙ sym (cond-true (has_slot slot set) (before.chunk_written (set_before set) chunk) (set_before set) own)
  | inr other ↦
      ap set_before (cond-false (has_slot slot set) (chunk_written chunk set) set other)
      ∙ sym (cond-false (has_slot slot set) (before.chunk_written (set_before set) chunk) (set_before set) other)
]

-- the sets behind a mark
pub marked_as_before : (slot chunk : ℕ) (sets : List ShadowState) → AreOnline sets
    → map set_before (map (λ (set : ShadowState). cond (has_slot slot set) (chunk_written chunk set) set) sets)
    ≡ before.changed_at slot (λ (set : before.ShadowState). before.chunk_written set chunk) (map set_before sets)
marked_as_before slot chunk [] are = refl
marked_as_before slot chunk (set ∷ sets) are =
    ap (λ (one : before.ShadowState). one ∷ map set_before (map (λ (set : ShadowState). cond (has_slot slot set) (chunk_written chunk set) set) sets)) (one_marked slot chunk set are.0)
    ∙ ap (λ (rest : List before.ShadowState). cond (has_slot slot set) (before.chunk_written (set_before set) chunk) (set_before set) ∷ rest) (marked_as_before slot chunk sets are.1)
