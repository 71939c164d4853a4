-- A step of a set that writes its overflow volume: the other sets stand where they stood, since their slots are others.
use Rattle.std.proofs.Common.{◌≡◌, ◌≢◌, inl, inr, ℕ, ◌+◌, ◌*◌, ◌/◌, ◌%◌, true, Option, None, Some, List, ◌∙◌, sym, refl, ap, subst, arith}
use Rattle.std.proofs.lemmas.Bool.{cases_eq}
use Rattle.avs_seg.specs.Image.{Image, block_at}
use Rattle.avs_dev.specs.Seen.{Seen, shown}
use Rattle.avs_sets.specs.Says.{BlockSays}
use Rattle.avs_sets.specs.Sets.{ChunkPlace, OwnSlot, OverSlot, SetSeen, shadow_disk, block_in}
use Rattle.avs_sets.specs.Meaning.{image_in, over_image, is_enabled, chunks_by}
use Rattle.avs_sets.specs.Whole.{IsFree, AreSlotsApart}
use Rattle.avs_sets.specs.Steps.{KeepsSlots, TakesPlaces}
use Rattle.avs_sets.proofs.Lift.{AllStill}

-- the overflow volumes but that of the set are as before, and it is but for slots of the set
pub record OversStay (mine : ℕ → Type 0) (O O' : List (Option Seen)) (over : Option ℕ) : Type 0 where
  pub others : (o : ℕ) → Some o ≢ over → image_in O' o ≡ image_in O o
  pub slots : KeepsSlots mine (over_image O over) (over_image O' over)

module _ (says : BlockSays) (mine : ℕ → Type 0) (O O' : List (Option Seen)) (over : Option ℕ) (stay : OversStay mine O O' over) (t : SetSeen) (free : (slot : ℕ) → mine slot → IsFree says t over slot) where
  -- a block in its place
  in_place : is_enabled says t ≡ true → (i : ℕ) → (chunks_by says t).state (i / 64) ≢ 0 → (p : ChunkPlace) → (chunks_by says t).place (i / 64) ≡ p
      → block_in (shown (shadow_disk t)) (over_image O' t.over) p i ≡ block_in (shown (shadow_disk t)) (over_image O t.over) p i
  in_place live i some (OwnSlot slot) at = refl
  in_place live i some (OverSlot slot) at = go t.over over refl refl
    where
      other : (o : ℕ) → Some o ≢ over → block_at (over_image O' (Some o)) (1 + (64 * slot + i % 64)) ≡ block_at (over_image O (Some o)) (1 + (64 * slot + i % 64))
      other o ne = ap (λ (img : Image). block_at img (1 + (64 * slot + i % 64))) (stay.others o ne)

      same : t.over ≡ over → block_at (over_image O' over) (1 + (64 * slot + i % 64)) ≡ block_at (over_image O over) (1 + (64 * slot + i % 64))
      same is = stay.slots.outside slot (i % 64) (omega arith) (λ own. (free slot own).each live is (i / 64) some at)

      go : (a b : Option ℕ) → t.over ≡ a → over ≡ b → block_at (over_image O' a) (1 + (64 * slot + i % 64)) ≡ block_at (over_image O a) (1 + (64 * slot + i % 64))
      go None b a_is b_is = refl
      go (Some o) None a_is b_is = other o (λ e. apart (e ∙ b_is))
        where
          apart : Some o ≡ None → ⊥
          apart e = cc
      go (Some o) (Some o') a_is b_is = elim (cases_eq o o') [
        | inl e ↦
            let is : t.over ≡ over = a_is ∙ ap (λ (n : ℕ). Some n) e ∙ sym b_is in
            subst (λ (x : Option ℕ). block_at (over_image O' x) (1 + (64 * slot + i % 64)) ≡ block_at (over_image O x) (1 + (64 * slot + i % 64))) (sym is ∙ a_is) (same is)
        | inr ne ↦ other o (λ e. ne (number (e ∙ b_is)))
      ]
        where
          number : Some o ≡ Some o' → o ≡ o'
          number e = cc

  pub all_still : AllStill says O O' t
  all_still = record { stands = λ live i some. in_place live i some ((chunks_by says t).place (i / 64)) refl }

-- nothing is written there
pub still_same : (says : BlockSays) (O : List (Option Seen)) (t : SetSeen) → AllStill says O O t
still_same says O t = record { stands = λ live i some. refl }

-- the slots of two sets stay apart
pub still_apart : (says : BlockSays) (mine : ℕ → Type 0) (s s' t : SetSeen) → s'.slot ≡ s.slot → s'.over ≡ s.over → TakesPlaces says mine s s'
    → ((slot : ℕ) → mine slot → IsFree says t s.over slot) → AreSlotsApart says s t → AreSlotsApart says s' t
still_apart says mine s s' t slot_is over_is takes free a = record {
  each = λ ls lt same c d slot some at other there. elim (takes.each c some) [
    | inl (was, stays) ↦ a.each (ap (λ (n : ℕ). (says.slots n).enabled) (sym slot_is) ∙ ls) lt (sym over_is ∙ same) c d slot was (sym stays ∙ at) other there
    | inr (inl (own, is)) ↦ apart own slot (sym is ∙ at)
    | inr (inr (new, (taken, is))) ↦ (free new taken).each lt (sym same ∙ over_is) d other (there ∙ sym at ∙ is)
  ];
}
  where
    apart : (p q : ℕ) → OwnSlot p ≡ OverSlot q → ⊥
    apart p q e = cc

-- a slot that a set has is free of each set whose slots are apart from its own
pub free_of : (says : BlockSays) (s t : SetSeen) → is_enabled says s ≡ true → AreSlotsApart says s t → (c slot : ℕ) → (chunks_by says s).state c ≢ 0 → (chunks_by says s).place c ≡ OverSlot slot → IsFree says t s.over slot
free_of says s t live a c slot some at = record { each = λ lt same d other there. a.each live lt (sym same) c d slot some at other there }
