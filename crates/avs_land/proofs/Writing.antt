-- What is written to a landing volume.
use Rattle.std.proofs.Common.{◌≡◌, ◌⊎◌, inl, inr, ℕ, ◌/◌, ◌<◌, ◌≤◌, [], ◌∷◌, Result, Ok, Err, refl, sym, ◌∙◌, ap, subst, arith}
use Rattle.avs_seg.specs.Image.{Block, Image, block_at, put, IsMix, ChangesWithin}
use Rattle.avs_seg.proofs.Puts.{put_one}
use Rattle.avs_seg.proofs.Bytes.{blocks_of_one}
use Rattle.avs_seg.proofs.Changes.{ChangesWithin_then, ChangesWithin_wider}
use Rattle.avs_seg.proofs.Mixes.{mix_one}
use Rattle.avs_dev.specs.Seen.{Seen, IsTold}
use Rattle.avs_dev.specs.Memory.{counted}
use Rattle.avs_dev.proofs.Going.{goes_then, goes_err}
use Rattle.avs_code.specs.Header.{IsLandHeader}
use Rattle.avs_code.specs.Label.{IsLabel}
use Rattle.avs_land.specs.Landed.{landing_label, no_header}
use Rattle.avs_land.specs.Steps.{WritesBlock, Formats}

-- ---- one block

module _ {T E : Type 0} (Is : Block → Type 0) (at : ℕ) (old new : Seen) (room : at < old.size) where
  pub block_done : (x : T) → (w : WritesBlock {T = T} {E = E} Is at old (Ok x) new) → IsTold old → new.image ≡ put old.image at (w.block ∷ [])
  block_done x w told = w.writes.done told ∙ ap (put old.image at) (blocks_of_one w.block w.size)

  -- it is old or new
  pub block_torn : (e : E) → (w : WritesBlock {T = T} {E = E} Is at old (Err e) new) → IsTold old → (new.image ≡ old.image) ⊎ (new.image ≡ put old.image at (w.block ∷ []))
  block_torn e w told = mix_one old.image new.image at w.block (omega (arith, told)) (subst (λ (bs : Image). IsMix old.image at bs new.image) (blocks_of_one w.block w.size) (w.writes.failed told))

  -- nothing else changes
  pub block_only : (r : Result T E) → (w : WritesBlock Is at old r new) → IsTold old → ChangesWithin at 1 old.image new.image
  block_only r w told = subst (λ (n : ℕ). ChangesWithin at n old.image new.image) (ap (λ (n : ℕ). n / 512) w.size) (w.writes.within told)

  pub block_counted : (x : T) → (w : WritesBlock {T = T} {E = E} Is at old (Ok x) new) → new.written ≡ counted old.written 1
  block_counted x w = w.writes.counted ∙ ap (λ (n : ℕ). counted old.written (n / 512)) w.size

-- ---- the label, and then the header of a volume on which nothing has landed

module _ (old : Seen) where
  abbrev IsLabelBlock : Block → Type 0
  IsLabelBlock b = IsLabel b landing_label

  abbrev IsHeaderBlock : Block → Type 0
  IsHeaderBlock b = IsLandHeader b no_header

  pub formats_none : {T E T' E' : Type 0} (new : Seen) → 514 ≤ old.size → (e : E) (e' : E') → WritesBlock {T = T} IsLabelBlock 0 old (Err e) new → Formats {T = T'} old (Err e') new
  formats_none new room e e' w = record {
    goes = goes_err old new e e' w.writes.goes;
    within = λ told. ChangesWithin_wider 0 1 0 2 old.image new.image (omega arith) (omega arith) (block_only IsLabelBlock 0 old new (omega arith) (Err e) w told);
    done = λ told. tt;
    label = λ told. elim (block_torn IsLabelBlock 0 old new (omega arith) e w told) [
      | inl same ↦ inl (ap (λ (img : Image). block_at img 0) same)
      | inr there ↦ inr (subst IsLabelBlock (sym (ap (λ (img : Image). block_at img 0) there ∙ put_one old.image 0 w.block 0 refl (omega (arith, told)))) w.is)
    ];
    header = λ told. inl ((block_only IsLabelBlock 0 old new (omega arith) (Err e) w told).outside 1 (inr (omega arith)));
    label_first = λ told. inr ((block_only IsLabelBlock 0 old new (omega arith) (Err e) w told).outside 1 (inr (omega arith)));
    written = tt;
    unwritten = inl w.writes.uncounted;
  }

  module _ {T E : Type 0} (mid new : Seen) (room : 514 ≤ old.size) (x : T) (first : WritesBlock {T = T} {E = E} IsLabelBlock 0 old (Ok x) mid) where
    sizes : mid.size ≡ old.size
    sizes = first.writes.size

    label_there : IsTold old → IsLabelBlock (block_at mid.image 0)
    label_there told = subst IsLabelBlock (sym (ap (λ (img : Image). block_at img 0) (block_done IsLabelBlock 0 old mid (omega arith) x first told) ∙ put_one old.image 0 first.block 0 refl (omega (arith, told)))) first.is

    old_header : IsTold old → block_at mid.image 1 ≡ block_at old.image 1
    old_header told = (block_only IsLabelBlock 0 old mid (omega arith) (Ok x) first told).outside 1 (inr (omega arith))

    both_within : {T' E' : Type 0} (r : Result T' E') → WritesBlock IsHeaderBlock 1 mid r new → IsTold old → ChangesWithin 0 2 old.image new.image
    both_within r w told = ChangesWithin_then 0 2 old.image mid.image new.image
        (ChangesWithin_wider 0 1 0 2 old.image mid.image (omega arith) (omega arith) (block_only IsLabelBlock 0 old mid (omega arith) (Ok x) first told))
        (ChangesWithin_wider 1 1 0 2 mid.image new.image (omega arith) (omega arith) (block_only IsHeaderBlock 1 mid new (omega (arith, sizes)) r w (first.writes.told told)))

    label_left : {T' E' : Type 0} (r : Result T' E') → WritesBlock IsHeaderBlock 1 mid r new → IsTold old → IsLabelBlock (block_at new.image 0)
    label_left r w told = subst IsLabelBlock (sym ((block_only IsHeaderBlock 1 mid new (omega (arith, sizes)) r w (first.writes.told told)).outside 0 (inl (omega arith)))) (label_there told)

    header_there : IsTold mid → (b : Block) → new.image ≡ put mid.image 1 (b ∷ []) → IsHeaderBlock b → IsHeaderBlock (block_at new.image 1)
    header_there told b is keeps = subst IsHeaderBlock (sym (ap (λ (img : Image). block_at img 1) is ∙ put_one mid.image 1 b 1 refl (omega (arith, told, sizes)))) keeps

    pub formats : {T' E' : Type 0} (r : Result T' E') → WritesBlock IsHeaderBlock 1 mid r new → Formats old r new
    formats (Ok y) w = record {
      goes = goes_then old mid new x (Ok y) first.writes.goes w.writes.goes;
      within = both_within (Ok y) w;
      done = λ told. record {
        label = label_left (Ok y) w told;
        header = header_there (first.writes.told told) w.block (block_done IsHeaderBlock 1 mid new (omega (arith, sizes)) y w (first.writes.told told)) w.is;
      };
      label = λ told. tt;
      header = λ told. tt;
      label_first = λ told. tt;
      written = omega (arith, block_counted IsLabelBlock 0 old mid (omega arith) x first, block_counted IsHeaderBlock 1 mid new (omega (arith, sizes)) y w);
      unwritten = tt;
    }
    formats (Err e) w = record {
      goes = goes_then old mid new x (Err e) first.writes.goes w.writes.goes;
      within = both_within (Err e) w;
      done = λ told. tt;
      label = λ told. inr (label_left (Err e) w told);
      header = λ told. elim (block_torn IsHeaderBlock 1 mid new (omega (arith, sizes)) e w (first.writes.told told)) [
        | inl same ↦ inl (ap (λ (img : Image). block_at img 1) same ∙ old_header told)
        | inr there ↦ inr (header_there (first.writes.told told) w.block there w.is)
      ];
      label_first = λ told. inl (label_left (Err e) w told);
      written = tt;
      unwritten = inr (w.writes.uncounted ∙ block_counted IsLabelBlock 0 old mid (omega arith) x first);
    }
