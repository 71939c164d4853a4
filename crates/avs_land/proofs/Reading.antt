-- What is read of a landing volume.
use Rattle.std.proofs.Common.{◌≡◌, inl, inr, ℕ, ◌/◌, List, [], ◌∷◌, length, Some, Result, Ok, Err, refl, sym, ◌∙◌, ap, subst, arith}
use Rattle.avs_seg.specs.Image.{Block, Image, block_at, range}
use Rattle.avs_seg.proofs.Ranges.{range_one}
use Rattle.avs_seg.proofs.Bytes.{blocks_of_one}
use Rattle.avs_dev.specs.Seen.{Seen, IsTold, Reads}
use Rattle.avs_dev.specs.declared.back.Why.{Why}
use Rattle.avs_dev.specs.declared.back.Why.TheVariants.{Size, BadRecord, NoMemory, Fault}
use Rattle.avs_code.specs.Header.{IsLandHeader, land_header_rules}
use Rattle.avs_code.specs.Label.{IsLabel, IsBadLabel, ReadsUse, label_for}
use Rattle.avs_code.specs.Rules.{first_broken, Reads as ReadsRecord}
use Rattle.avs_code.specs.declared.labels.Label.{Label}
use Rattle.avs_code.specs.declared.labels.LabelUse.{LabelUse}
use Rattle.avs_code.specs.declared.records.BadRecord.{BadRecord as BadField}
use Rattle.avs_code.specs.declared.land_headers.LandHeader.{LandHeader}
use Rattle.avs_land.specs.Landed.{landing_use, landing_label, IsLanding}
use Rattle.avs_land.specs.Steps.{Tells, ReadsAs, IsOtherLabel, IsOtherHeader, IsOtherVolume}

-- one block that was read
pub tells_block : {T E : Type 0} (old new : Seen) (at : ℕ) (bytes : List ℕ) (x : T) → length bytes ≡ 512 → Reads {E = E} old at bytes (Ok x) new → Tells old (block_at old.image at ≡ bytes) new
tells_block old new at bytes x len r = record {
  kept = r.rest ∙ ap (λ (n : ℕ). record old { faults = n }) r.goes.done.faults;
  told = λ told.
      let one : length bytes / 512 ≡ 1 = ap (λ (n : ℕ). n / 512) len in
      let shown : bytes ∷ [] ≡ block_at old.image at ∷ [] = sym (blocks_of_one bytes len) ∙ r.shows told ∙ ap (λ (n : ℕ). range old.image at n) one ∙ range_one old.image at in
      sym (ap (λ (img : Image). block_at img 0) shown);
}

pub tells_more : {A B : Type 0} (old new : Seen) → Tells old A new → (A → B) → Tells old B new
tells_more old new t f = record { kept = t.kept; told = λ told. f (t.told told) }

-- ---- what the readers of records answered

pub label_is : (img : Image) (block : Block) (x : Label) (wanted : LabelUse) → block_at img 0 ≡ block → wanted ≡ landing_use → ReadsUse wanted block (Ok x) → IsLabel (block_at img 0) landing_label
label_is img block x wanted same mine r =
    let kind : wanted.kind ≡ 3 = ap (λ (u : LabelUse). u.kind) mine in
    let none : x.stamp ≡ 0 = r.unstamped (λ is. absurd (omega (arith, kind, is))) in
    let whole : x ≡ landing_label = r.ok.1 ∙ ap (λ (s : ℕ). label_for wanted s) none ∙ ap (λ (u : LabelUse). label_for u 0) mine in
    subst (λ (b : Block). IsLabel b landing_label) (sym same) (subst (λ (l : Label). IsLabel block l) whole r.ok.0)

never : {T E : Type 0} (r : Result T E) (e : E) (x : T) → r ≡ Err e → r ≡ Ok x → ⊥
never r e x is other = cc

pub label_other : (img : Image) (block : Block) (wanted : LabelUse) (e : BadField) → block_at img 0 ≡ block → wanted ≡ landing_use → ReadsUse wanted block (Err e) → IsOtherLabel img e.0
label_other img block wanted e same mine r = record {
  bad = subst (λ (b : Block). IsBadLabel b landing_use e.0) (sym same) (subst (λ (u : LabelUse). IsBadLabel block u e.0) mine r.bad);
  none = λ label. never (Err e) e (label_for wanted 0) refl (r.exact 0 (subst (λ (u : LabelUse). IsLabel block (label_for u 0)) (sym mine) (subst (λ (b : Block). IsLabel b landing_label) same label)));
}

same_ok : {T E : Type 0} (r : Result T E) (x y : T) → r ≡ Ok x → r ≡ Ok y → x ≡ y
same_ok r x y is other = cc

pub header_only : (img : Image) (block : Block) (x h : LandHeader) → block_at img 1 ≡ block → ReadsRecord IsLandHeader land_header_rules block (Ok x) → IsLandHeader (block_at img 1) h → x ≡ h
header_only img block x h same r is = same_ok (Ok x) x h refl (r.exact h (subst (λ (b : Block). IsLandHeader b h) same is))

pub header_other : (img : Image) (block : Block) (e : BadField) → block_at img 1 ≡ block → ReadsRecord IsLandHeader land_header_rules block (Err e) → IsOtherHeader img e.0
header_other img block e same r = record {
  bad = subst (λ (b : Block). first_broken (land_header_rules b) ≡ Some e.0) (sym same) r.field;
  none = λ h is. never (Err e) e h refl (r.exact h (subst (λ (b : Block). IsLandHeader b h) same is));
}

-- ---- the label, and then the header

module _ (img : Image) where
  abbrev HasLabel : Type 0
  HasLabel = IsLabel (block_at img 0) landing_label

  other_label : (field : ℕ) → IsOtherLabel img field → IsOtherVolume img field
  other_label field other = record { bad = inl other.bad; none = λ readable. other.none readable.is.label }

  other_header : (field : ℕ) → HasLabel → IsOtherHeader img field → IsOtherVolume img field
  other_header field label other = record { bad = inr (record { label = label; broken = other.bad }); none = λ readable. other.none readable.header readable.is.header }

-- the label was not read, or is another one
pub label_refused : {T T' : Type 0} (Is : T → Type 0) (Is' : T' → Type 0) (old new : Seen) (why : Why) → ReadsAs Is (IsOtherLabel old.image) old (Err why) new → ReadsAs Is' (IsOtherVolume old.image) old (Err why) new
label_refused Is Is' old new (Size need have) r = r
label_refused Is Is' old new (BadRecord field) r = tells_more old new r (other_label old.image field)
label_refused Is Is' old new NoMemory r = r
label_refused Is Is' old new Fault r = r

-- the header behind a label
pub header_read : (old new : Seen) (result : Result LandHeader Why) → (IsTold old → IsLabel (block_at old.image 0) landing_label) → ReadsAs (IsLandHeader (block_at old.image 1)) (IsOtherHeader old.image) old result new → ReadsAs (IsLanding old.image) (IsOtherVolume old.image) old result new
header_read old new (Ok h) label r = record { kept = r.kept; told = λ told. record { label = label told; header = r.told told } }
header_read old new (Err (Size need have)) label r = r
header_read old new (Err (BadRecord field)) label r = record { kept = r.kept; told = λ told. other_header old.image field (label told) (r.told told) }
header_read old new (Err NoMemory) label r = r
header_read old new (Err Fault) label r = r
