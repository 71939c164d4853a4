-- The stamp of a slot is within its limit.
use Rattle.std.proofs.Common.{◌≡◌, inl, inr, ℕ, ◌≤◌, ◌^◌, Bool, true, false, cond, length, ◌∙◌, sym, refl, ap, subst, arith}
use Rattle.std.proofs.lemmas.Bool.{cases_lt}
use Rattle.std.proofs.lemmas.List.{get_or_past}
use Rattle.std.proofs.lemmas.List.Elements.{All-get_or}
use Rattle.avs_code.specs.Slot.{SlotKeeps, no_slot}
use Rattle.avs_code.specs.GroupBlock.{GroupBlockKeeps}
use Rattle.avs_code.specs.declared.slot_table.Slot.{Slot}
use Rattle.avs_code.specs.declared.group_blocks.GroupBlock.{GroupBlock}
use Rattle.avs_model.specs.ShadowSets.{Standing, Online, Offline, Exported}
use Rattle.avs_sets.specs.Says.{SlotSays}
use Rattle.avs_state.specs.Saying.{has_flag, slot_at, says_of, said_of, standing_by, standing_of, stamp_of}
use Rattle.avs_state.specs.declared.slot_states.Standing.{Standing as StandingSaid}
use Rattle.avs_state.specs.declared.slot_states.Standing.TheVariants as said
use Rattle.avs_state.specs.declared.slot_states.SlotState.{SlotState}

slot_keeps : (block : GroupBlock) → GroupBlockKeeps block → (n : ℕ) → (slot_at block n).stamp ≤ 2 ^ 62
slot_keeps block keeps n = elim (cases_lt n (length block.slots)) [
  | inl lt ↦ (All-get_or SlotKeeps block.slots n no_slot lt keeps.slots).stamp
  | inr le ↦ subst (λ (s : Slot). s.stamp ≤ 2 ^ 62) (sym (get_or_past block.slots n no_slot le)) (omega arith)
]

-- the stamp that a standing has, or 0
abbrev stamp_in : Standing → ℕ
stamp_in Online = 0
stamp_in (Offline need slots) = 0
stamp_in (Exported stamp) = stamp

low : (s : Slot) → s.stamp ≤ 2 ^ 62 → stamp_in (standing_by s) ≤ 2 ^ 62
low s fits = exported (has_flag 16 s)
  where
    offline : (b : Bool) → stamp_in (cond b (Offline s.need s.slots) Online) ≤ 2 ^ 62
    offline true = omega arith
    offline false = omega arith

    exported : (b : Bool) → stamp_in (cond b (Exported s.stamp) (cond (has_flag 8 s) (Offline s.need s.slots) Online)) ≤ 2 ^ 62
    exported true = fits
    exported false = offline (has_flag 8 s)

same : (t : StandingSaid) → stamp_in (standing_of t) ≡ stamp_of t
same said.Online = refl
same (said.Offline need slots) = refl
same (said.Exported stamp) = refl

pub stamp_fits : (block : GroupBlock) → GroupBlockKeeps block → (n : ℕ) (state : SlotState) → (says_of block).slots n ≡ said_of state → stamp_of state.standing ≤ 2 ^ 62
stamp_fits block keeps n state says = subst (λ (x : ℕ). x ≤ 2 ^ 62) (ap (λ (x : SlotSays). stamp_in x.standing) says ∙ same state.standing) (low (slot_at block n) (slot_keeps block keeps n))
