-- What stands where an errand has run that may restore sets.
use Rattle.std.proofs.Common.{◌≡◌, ◌≢◌, ◌⊎◌, inl, inr, ℕ, ◌<◌, Bool, true, false, ◌&&◌, ◌||◌, not, eqb, List, length, Some, ◌∙◌, sym, refl, ap, subst, arith}
use Rattle.std.specs.Prelude.{nat_lt}
use Rattle.std.specs.Int.{bit_at}
use Rattle.std.proofs.lemmas.Bool.{cases_Bool}
use Rattle.std.proofs.lemmas.Bool.Decides.{nat_tests}
use Rattle.avs_seg.specs.Image.{Image}
use Rattle.avs_dev.specs.Below.{BelowSeen, IsToldAt}
use Rattle.avs_sync.specs.Note.{IsNote, note_at}
use Rattle.avs_sync.specs.declared.note.Note.{Note}
use Rattle.avs_sync.proofs.Notes.{note_at-is}
use Rattle.avs_halves.specs.Found.{is_filled}
use Rattle.avs_halves.specs.Marks.{AreMarks, AreNamedFilled, IsUnnamed, Mark, named}
use Rattle.avs_halves.specs.Over.{IsOver}
use Rattle.avs_halves.specs.Restoring.{LeavesAll, RestoresOrLeaves}
use Rattle.avs_halves.specs.SetBits.{SetBits, set_at}
use Rattle.avs_halves.proofs.Filling.{named_there}
use Rattle.avs_halves.proofs.Staying.{told_note}

-- ---- what lies below

module _ (sets : List SetBits) (marks : List Mark) (below new : BelowSeen) (bytes : List ℕ) where
  -- the volumes of the sets are told
  pub told_then : (ok : Bool) → ((set : ℕ) → set < length sets → IsToldAt below (set_at sets set).vol) → RestoresOrLeaves sets marks bytes ok below new → (set : ℕ) → set < length sets → IsToldAt new (set_at sets set).vol
  told_then ok told (inl l) set low = let v = l.each set low in ap (λ (img : Image). length img) v.image ∙ told set low ∙ sym v.size
  told_then ok told (inr r) set low = elim (cases_Bool (named marks set)) [
    | inl on ↦ (r.changed set on).told (told set low)
    | inr off ↦ let v = r.others set low off in ap (λ (img : Image). length img) v.image ∙ told set low ∙ sym v.size
  ]

  pub stored_then : below.stored ≡ Some below.note → RestoresOrLeaves sets marks bytes true below new → new.stored ≡ Some new.note
  stored_then stored (inl l) = l.stored ∙ stored ∙ ap Some (sym (l.note refl))
  stored_then stored (inr r) = r.stored (told_note below below.note stored) ∙ ap Some (sym (r.note refl))

-- ---- the note in memory: as it was, or the one that was given, as the bytes below are

abbrev pub EndsWith : BelowSeen → List ℕ → ℕ → ℕ → ℕ → Type 0
EndsWith new bytes old given last = ((new.note ≢ bytes) × (last ≡ old)) ⊎ ((new.note ≡ bytes) × (last ≡ given))

module _ (sets : List SetBits) (marks : List Mark) (below new : BelowSeen) (note : Note) (bytes : List ℕ) (empty last : ℕ) (old : IsNote below.note note) (is : IsNote bytes (record note { empty = empty })) where
  -- the note in memory is the one below
  pub note_then : RestoresOrLeaves sets marks bytes true below new → EndsWith new bytes note.empty empty last → IsNote new.note (record note { empty = last })
  note_then (inl l) (inl other) = subst (λ (b : List ℕ). IsNote b (record note { empty = last })) (sym (l.note refl)) (subst (λ (k : ℕ). IsNote below.note (record note { empty = k })) (sym other.1) old)
  note_then (inr r) (inl other) = absurd (other.0 (r.note refl))
  note_then any (inr same) = subst (λ (b : List ℕ). IsNote b (record note { empty = last })) (sym same.0) (subst (λ (k : ℕ). IsNote bytes (record note { empty = k })) (sym same.1) is)

  -- where all was left its slots are as they were
  pub last_left : LeavesAll sets true below new → EndsWith new bytes note.empty empty last → last ≡ note.empty
  last_left l (inl other) = other.1
  last_left l (inr same) = same.1 ∙ ap (λ (n : Note). n.empty) (sym (note_at-is bytes (record note { empty = empty }) is) ∙ ap note_at (sym same.0 ∙ l.note refl) ∙ note_at-is below.note note old)

pub last_restored : (new : BelowSeen) (bytes : List ℕ) (old given last : ℕ) → new.note ≡ bytes → EndsWith new bytes old given last → last ≡ given
last_restored new bytes old given last now (inl other) = absurd (other.0 now)
last_restored new bytes old given last now (inr same) = same.1

-- the slots of no named set are as they were
pub last_others : (sets : List SetBits) (marks : List Mark) (new : BelowSeen) (bytes : List ℕ) (old given last : ℕ) → AreNamedFilled sets marks old given → EndsWith new bytes old given last → (slot : ℕ) → slot < 16 → IsUnnamed sets marks slot → bit_at last slot ≡ bit_at old slot
last_others sets marks new bytes old given last f (inl other) slot low un = ap (λ (k : ℕ). bit_at k slot) other.1
last_others sets marks new bytes old given last f (inr same) slot low un = ap (λ (k : ℕ). bit_at k slot) same.1 ∙ f.others slot low un

-- ---- the named sets have contents

low_on : (a b : ℕ) → a < b → nat_lt a b ≡ true
low_on a b low = grind (arith, nat_tests)

low_of : (a b : ℕ) → nat_lt a b ≡ true → a < b
low_of a b on = grind (arith, nat_tests)

contents_one : (there on was now : Bool) → (on ≡ true → (there ≡ true) × (now ≡ true)) → (on ≡ false → there ≡ true → now ≡ was) → (there && now) ≡ (on || (there && was))
contents_one true true was now full same = (full refl).1
contents_one true false was now full same = same refl refl
contents_one false true was now full same = (full refl).0
contents_one false false was now full same = refl

module _ (sets : List SetBits) (marks : List Mark) (below : BelowSeen) (over : IsOver below sets) (are : AreMarks sets marks) where
  -- the slot of a set that is not named is that of no other
  unnamed : (set : ℕ) → set < length sets → named marks set ≡ false → IsUnnamed sets marks (set_at sets set).slot
  unnamed set low off other on same = no (named marks set) off (subst (λ (k : ℕ). named marks k ≡ true) (over.slots set other low (named_there sets marks other are on) same) on)
    where
      no : (b : Bool) → b ≡ false → b ≡ true → ⊥
      no b isnt is = cc

  pub contents_named : (old empty : ℕ) → AreNamedFilled sets marks old empty → (t : ℕ)
      → (nat_lt t (length sets) && is_filled empty (set_at sets t).slot) ≡ (named marks t || (nat_lt t (length sets) && is_filled old (set_at sets t).slot))
  contents_named old empty f t = contents_one (nat_lt t (length sets)) (named marks t) (is_filled old (set_at sets t).slot) (is_filled empty (set_at sets t).slot)
      (λ on. (low_on t (length sets) (named_there sets marks t are on), f.sets_are t on))
      (λ off there. same off (low_of t (length sets) there))
    where
      same : named marks t ≡ false → t < length sets → is_filled empty (set_at sets t).slot ≡ is_filled old (set_at sets t).slot
      same off low = ap (λ (b : ℕ). not (eqb b 1)) (f.others (set_at sets t).slot (over.each t low).slot (unnamed t low off))
