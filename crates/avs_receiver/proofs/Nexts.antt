-- The next place is applied: it lands, and what it does below is done or not.
use Rattle.std.proofs.Common.{◌≡◌, inl, inr, ℕ, ◌+◌, Bool, true, List, Result, Ok, Err, sym, refl, ap, subst, ◌∙◌}
use Rattle.std.proofs.lemmas.Bool.{cases_Bool}
use Rattle.avs_dev.specs.Below.{BelowSeen}
use Rattle.avs_model.specs.declared.answer.Refusal.TheVariants as refusal
use Rattle.avs_model.specs.declared.entry.Entry.{Entry}
use Rattle.avs_mirrors.specs.Entries.{is_mark}
use Rattle.avs_mirrors.specs.Half.{Replicating, is_session}
use Rattle.avs_sync.specs.declared.note.Note.{Note}
use Rattle.avs_halves.specs.Writing.{PutsNote}
use Rattle.avs_land.specs.Landing.{Landing, Lands}
use Rattle.avs_halves.specs.Over.{IsOver}
use Rattle.avs_receiver.specs.Held.{ReceiverHalf, ReceiverHeld, held}
use Rattle.avs_receiver.specs.Meaning.{state_in}
use Rattle.avs_receiver.specs.Marking.{IsMarkNote, PutsEntry}
use Rattle.avs_receiver.specs.Applying.{CanApply, IsApplied, IsApplyStopped, IsNext, RestApplied, RestPut}
use Rattle.avs_receiver.proofs.Stopped.{not_err}
use Rattle.avs_receiver.proofs.Applications.{blocks_stopped, note_stopped, wipe_stopped}
use Rattle.avs_receiver.proofs.Happened.{blocks_are, mark_is}

module _ (sound : Type 0) (below : BelowSeen) (h : ReceiverHalf) (place : ℕ) (e : Entry) (on : is_session (state_in h.note) ≡ true) (next : place ≡ h.applied + 1) (can : CanApply (held below h) place e) (over : IsOver below h.sets)
    {E : Type 0} (land : Landing) (u : Unit {0}) (lands : Lands {E = E} h.land h.note.session place e (Ok u) land) (end : ReceiverHeld) where
  noted : {T F : Type 0} (note : Note) (r : Result T F) → IsMarkNote (record h { land = land }) place note → PutsNote sound below note r end.below → PutsNote sound below (record h.note { state = Replicating; empty = note.empty; mark = place }) r end.below
  noted note r is p = subst (λ (n : Note). PutsNote sound below n r end.below) is.is p

  pub next_done : {F : Type 0} (sound_new : Type 0) (sounds : sound → sound_new) → PutsEntry {E = F} sound (held below (record h { land = land })) place e (Ok u) end → IsApplied sound sound_new (held below h) place e (held end.below (record end.half { applied = place }))
  next_done sound_new sounds p = elim (cases_Bool (is_mark e.kind)) [
    | inl marks ↦ elim (p.mark marks) [
      | inl stops ↦ absurd (not_err stops.answer)
      | inr w ↦ subst (λ (x : ReceiverHalf). IsApplied sound sound_new (held below h) place e (held end.below (record x { applied = place })))
          (sym (w.half ∙ ap (λ (n : Note). record h { land = land; note = n; sets = end.half.sets }) w.is.is))
          (mark_is sound sound_new sounds below h place e on next can over land u lands end.below w.note.empty end.half.sets marks w.is.slots (noted w.note (Ok u) w.is w.puts) w.wipes)
    ]
    | inr blocks ↦ let b = p.blocks blocks in subst (λ (x : ReceiverHalf). IsApplied sound sound_new (held below h) place e (held end.below (record x { applied = place })))
        (sym b.half)
        (blocks_are sound sound_new sounds below h place e on next can over land u lands end.below b.bytes blocks b.blocks b.writes)
  ]

  pub next_stopped : {F : Type 0} (session : ℕ) (x : F) → session ≡ h.note.session → PutsEntry {E = F} sound (held below (record h { land = land })) place e (Err x) end → IsApplyStopped sound (held below h) session place e refusal.Fault end
  next_stopped session x ours p = elim (cases_Bool (is_mark e.kind)) [
    | inl marks ↦ elim (p.mark marks) [
      | inl s ↦ subst (λ (y : ReceiverHalf). IsApplyStopped sound (held below h) session place e refusal.Fault (held end.below y))
          (sym s.half)
          (note_stopped sound below h place e on next can over session refusal.Fault refl ours land u lands end.below x s.note.empty place marks (noted s.note (Err x) s.is s.puts))
      | inr w ↦ subst (λ (y : ReceiverHalf). IsApplyStopped sound (held below h) session place e refusal.Fault (held end.below y))
          (sym (w.half ∙ ap (λ (n : Note). record h { land = land; note = n; sets = end.half.sets }) w.is.is))
          (wipe_stopped sound below h place e on next can over session refusal.Fault refl ours land u lands end.below x w.note.empty place end.half.sets marks (noted w.note (Ok u) w.is w.puts) w.wipes)
    ]
    | inr blocks ↦ let b = p.blocks blocks in subst (λ (y : ReceiverHalf). IsApplyStopped sound (held below h) session place e refusal.Fault (held end.below y))
        (sym b.half)
        (blocks_stopped sound below h place e on next can over session refusal.Fault refl ours land u lands end.below x b.bytes blocks b.blocks b.writes)
  ]

-- what is kept besides below
pub rest_then : {R : Type 0} (wrote : R → ℕ → ℕ → List ℕ → Bool → R → Type 0) (rest new : R) (below : BelowSeen) (h : ReceiverHalf) (land : Landing) (session place : ℕ) (e : Entry) (ok : Bool) → IsNext (held below h) session place
    → RestPut wrote rest (held below (record h { land = land })) e ok new → RestApplied wrote rest (held below h) session place e ok new
rest_then wrote rest new below h land session place e ok next p = elim (cases_Bool (is_mark e.kind)) [
  | inl marks ↦ inl (record { same = p.mark marks; unless = λ done is. marks })
  | inr blocks ↦ let b = p.blocks blocks in inr (record { next = next; blocks = blocks; once = record { bytes = b.bytes; blocks = b.blocks; once = b.once } })
]
