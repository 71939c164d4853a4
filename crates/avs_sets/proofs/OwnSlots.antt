-- A set that has each chunk in the slot of its number: what it gives of places.
use Rattle.std.proofs.Common.{◌≡◌, inl, inr, ℕ, ◌+◌, ◌*◌, ◌/◌, ◌%◌, ◌∙◌, sym, refl, ap, arith}
use Rattle.avs_seg.specs.Image.{Image, block_at}
use Rattle.avs_sets.specs.Says.{BlockSays}
use Rattle.avs_sets.specs.Sets.{OwnSlot, OverSlot, SetSeen, block_in}
use Rattle.avs_sets.specs.Meaning.{chunks_by}
use Rattle.avs_sets.specs.Whole.{IsPlaced, AreSlotsApart}
use Rattle.avs_sets.specs.Steps.{no_slot, KeepsSlots, TakesPlaces}

-- block i of the shadow is block i of its disk
pub own_block : (shadow over : Image) (i : ℕ) → block_in shadow over (OwnSlot (i / 64)) i ≡ block_at shadow i
own_block shadow over i = let e : 64 * (i / 64) + i % 64 ≡ i = omega arith in ap (λ (n : ℕ). block_at shadow n) e

pub all_keeps : (mine : ℕ → Type 0) (img : Image) → KeepsSlots mine img img
all_keeps mine img = record { outside = λ slot i lt other. refl }

pub own_keeps : (img : Image) → KeepsSlots no_slot img img
own_keeps img = all_keeps no_slot img

slot_is : (a b : ℕ) → OwnSlot a ≡ OwnSlot b → a ≡ b
slot_is a b e = cc

own_not_over : (a b : ℕ) → OwnSlot a ≡ OverSlot b → ⊥
own_not_over a b e = cc

module _ (says : BlockSays) (s : SetSeen) (own : (c : ℕ) → (chunks_by says s).place c ≡ OwnSlot c) where
  pub own_placed : IsPlaced says s
  own_placed = record { each = λ c d ne some other same. ne (slot_is c d (sym (own c) ∙ same ∙ own d)) }

  pub all_takes : (mine : ℕ → Type 0) (old : SetSeen) → TakesPlaces says mine old s
  all_takes mine old = record { each = λ c some. inr (inl (c, own c)) }

  pub own_takes : (old : SetSeen) → TakesPlaces says no_slot old s
  own_takes old = all_takes no_slot old

  -- it has no slot of an overflow volume
  pub own_apart : (t : SetSeen) → AreSlotsApart says s t
  own_apart t = record { each = λ ls lt same c d slot some at other there. own_not_over c slot (sym (own c) ∙ at) }

  pub apart_own : (t : SetSeen) → AreSlotsApart says t s
  apart_own t = record { each = λ lt ls same c d slot some at other there. own_not_over d slot (sym (own d) ∙ there) }
