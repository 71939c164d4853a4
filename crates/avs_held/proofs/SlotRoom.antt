-- The slots that a compact set needs and has room for, where a call settles a chunk that has one, or writes and reads blocks alone.
use Rattle.std.proofs.Common.{◌≡◌, ◌≢◌, ℕ, Bool, cond, Option, None, Some, Result, OnOk, sym, refl, ap, subst, arith}
use Rattle.std.proofs.lemmas.Bool.{ne_eqb}
use Rattle.std.proofs.lemmas.Result.{on_ok_weaker}
use Rattle.avs_seg.proofs.Exits.{ok_exit}
use Rattle.avs_dev.specs.Seen.{Seen}
use Rattle.avs_over.specs.Over.{OverSet}
use Rattle.avs_compact.specs.CompactSet as compact
use Rattle.avs_compact.specs.CompactSet.{CompactSet, entry_of}
use Rattle.avs_entries.specs.Entries.{state_by}
use Rattle.avs_compact.specs.Keeping.{CountsSlots, Settles}
use Rattle.avs_compact.specs.Copying as copying

-- nothing of slots has changed
pub counts_same : (s s' : CompactSet) (o o' : OverSet) (shadow : Option Seen) (disk : Seen) → s' ≡ record s { shadow = shadow } → o' ≡ record o { disk = disk } → CountsSlots s o 0 s' o'
counts_same s s' o o' shadow disk is over_is = subst (λ (x : CompactSet). CountsSlots s o 0 x o') (sym is)
    (subst (λ (y : OverSet). CountsSlots s o 0 (record s { shadow = shadow }) y) (sym over_is) (record { need = omega arith; room = refl; taken = λ was. was }))

pub counts_none : (s s' : CompactSet) (o o' : OverSet) → s' ≡ s → o' ≡ o → CountsSlots s o 0 s' o'
counts_none s s' o o' is over_is = subst (λ (x : CompactSet). CountsSlots s o 0 x o') (sym is)
    (subst (λ (y : OverSet). CountsSlots s o 0 s y) (sym over_is) (record { need = omega arith; room = refl; taken = λ was. was }))

module _ (s s' : CompactSet) (m m' : Seen) (o o' : OverSet) where
  -- a chunk that has a slot is settled
  pub counts_settled : {T E : Type 0} (chunk target : ℕ) (r : Result T E) → state_by (entry_of s chunk) ≡ 3 → Settles s o m chunk target r s' o' m' → OnOk r (CountsSlots s o 0 s' o')
  counts_settled chunk target r back st = on_ok_weaker r (λ x. subst (λ (n : ℕ). CountsSlots s o n s' o') (ap (λ (b : Bool). cond b 1 0) (ne_eqb (entry_of s chunk) 0 some)) x) st.counts
    where
      some : entry_of s chunk ≢ 0
      some none = omega (arith, back, none)

  pub counts_due : {E : Type 0} (due : Option ℕ) (r : Result (Option ℕ) E) → copying.FindsDue (entry_of s) (compact.chunks_of s) due → copying.CopiesDue s o m due r s' o' m' → OnOk r (CountsSlots s o 0 s' o')
  counts_due None r f (nothing, ended) = ok_exit r (counts_none s s' o o' nothing.set nothing.over)
  counts_due (Some chunk) r f (st, is) = counts_settled chunk 1 r f.due st
