-- The bitmap of an import is formatted.
use Rattle.std.proofs.Common.{◌≡◌, ◌⊎◌, inl, inr, ℕ, ◌+◌, ◌-◌, ◌*◌, ◌/◌, ◌%◌, ◌<◌, ◌≤◌, false, List, [], ◌∷◌, length, get_or, take, drop, replicate, Result, Ok, Err, refl, sym, ◌∙◌, ap, subst, arith}
use Rattle.std.proofs.lemmas.Bool.{cases_lt}
use Rattle.std.proofs.lemmas.List.{get_or-replicate, get_or_past, length-replicate}
use Rattle.avs_seg.specs.Image.{Block, Image, block_at, put, blocks_of, IsMix, ChangesWithin}
use Rattle.avs_seg.proofs.Bytes.{blocks_of_one, block_at-blocks_of, length-blocks_of}
use Rattle.avs_seg.proofs.Changes.{ChangesWithin_then, ChangesWithin_wider, ChangesWithin-same}
use Rattle.avs_seg.proofs.Mixes.{mix_one}
use Rattle.avs_seg.proofs.Puts.{put_one, put_inside, put_outside}
use Rattle.avs_dev.specs.Seen.{Seen, IsTold, Writes}
use Rattle.avs_dev.specs.Memory.{counted}
use Rattle.avs_dev.proofs.Going.{goes_same, goes_then, goes_err}
use Rattle.avs_code.specs.Label.{IsLabel, label_block}
use Rattle.avs_code.specs.declared.labels.Label.{Label}
use Rattle.avs_bits.specs.Bit.{bit_of, disk_bit}
use Rattle.avs_bits.proofs.SomeBits.{bit_of-zero_byte, bit_of-block}
use Rattle.avs_model.specs.Limits.{import_blocks}
use Rattle.avs_join.specs.Formatting.{IsUnlabelled, IsImportLabel, IsNewBitmap, Formats, WritesFirst, IsNoLabel, ClearsBits}

-- ---- a block of zeros is no label

first_byte : Block → ℕ
first_byte block = get_or block 0 0

no_label : (x : Label) → IsLabel (replicate 512 0) x → ⊥
unfolding label_block first_byte
no_label x is =
    let there : first_byte (replicate 512 0) ≡ 65 = ap first_byte is.spelled in
    let zero : first_byte (replicate 512 0) ≡ 0 = get_or-replicate 512 0 0 0 (omega arith) in
    omega (arith, there, zero)

pub zeros_no_label : IsNoLabel (replicate 512 0)
zeros_no_label = record { none = no_label }

-- ---- clear bits

zero_bit : (n p : ℕ) → bit_of (replicate n 0) p ≡ false
zero_bit n p = bit_of-zero_byte (replicate n 0) p p (elim (cases_lt (p / 8) n) [
  | inl lt ↦ get_or-replicate n (p / 8) 0 0 lt
  | inr past ↦ get_or_past (replicate n 0) (p / 8) 0 (omega (arith, length-replicate {A = ℕ} n 0))
]) refl

zero_block_bit : (n k p : ℕ) → bit_of (take 512 (drop (512 * k) (replicate n 0))) (p % 4096) ≡ false
zero_block_bit n k p =
    let same : (4096 * k + p % 4096) % 4096 ≡ p % 4096 = omega arith in
    ap (λ (j : ℕ). bit_of (take 512 (drop (512 * k) (replicate n 0))) j) (sym same)
    ∙ bit_of-block (replicate n 0) k (4096 * k + p % 4096) (omega arith)
    ∙ zero_bit n (4096 * k + p % 4096)

module _ (old new : Seen) (count : ℕ) (fits : count < old.size) where
  abbrev zeros : List ℕ
  zeros = replicate (512 * count) 0

  long : length zeros / 512 ≡ count
  long = omega (arith, length-replicate {A = ℕ} (512 * count) 0)

  zeros_put : IsTold old → new.image ≡ put old.image 1 (blocks_of zeros) → (p : ℕ) → 4096 ≤ p → p < 4096 * (count + 1) → disk_bit new.image p ≡ false
  unfolding disk_bit
  zeros_put told is p low high =
      let inside : p / 4096 < 1 + length (blocks_of zeros) = omega (arith, length-blocks_of zeros, long) in
      ap (λ (img : Image). bit_of (block_at img (p / 4096)) (p % 4096)) is
      ∙ ap (λ (b : Block). bit_of b (p % 4096)) (put_inside old.image 1 (blocks_of zeros) (p / 4096) (omega arith) inside (omega (arith, told)) ∙ block_at-blocks_of zeros (p / 4096 - 1) (omega (arith, long)))
      ∙ zero_block_bit (512 * count) (p / 4096 - 1) p

  pub bits_written : {T E : Type 0} (r : Result T E) → Writes old 1 zeros r new → ClearsBits old count r new
  bits_written (Ok x) w = record {
    goes = w.goes;
    within = λ told. subst (λ (n : ℕ). ChangesWithin 1 n old.image new.image) long (w.within told);
    clear = λ told. zeros_put told (w.done told);
    counted = let is = w.counted in omega (arith, is, long);
    most = let is = w.counted in omega (arith, is, long);
  }
  bits_written (Err e) w = record {
    goes = w.goes;
    within = λ told. subst (λ (n : ℕ). ChangesWithin 1 n old.image new.image) long (w.within told);
    clear = λ told. tt;
    counted = tt;
    most = let same = w.uncounted in omega (arith, same);
  }

-- there are none
pub no_bits : {T E : Type 0} (old : Seen) (count : ℕ) (x : T) → count ≡ 0 → ClearsBits {E = E} old count (Ok x) old
no_bits old count x none = record {
  goes = goes_same old x;
  within = λ told. ChangesWithin-same 1 count old.image;
  clear = λ told p low high. absurd (omega arith);
  counted = let is : 1 ≡ count + 1 = omega arith in ap (counted old.written) is;
  most = omega arith;
}

-- ---- block 0

module _ {T E : Type 0} (Is : Block → Type 0) (old new : Seen) (some : 0 < old.size) where
  pub first_put : (x : T) → (w : WritesFirst {T = T} {E = E} Is old (Ok x) new) → IsTold old → new.image ≡ put old.image 0 (w.block ∷ [])
  first_put x w told = w.writes.done told ∙ ap (put old.image 0) (blocks_of_one w.block w.size)

  pub first_torn : (e : E) → (w : WritesFirst {T = T} {E = E} Is old (Err e) new) → IsTold old → (new.image ≡ old.image) ⊎ (new.image ≡ put old.image 0 (w.block ∷ []))
  first_torn e w told = mix_one old.image new.image 0 w.block (omega (arith, told)) (subst (λ (bs : Image). IsMix old.image 0 bs new.image) (blocks_of_one w.block w.size) (w.writes.failed told))

  pub first_only : (r : Result T E) → (w : WritesFirst Is old r new) → IsTold old → ChangesWithin 0 1 old.image new.image
  first_only r w told = subst (λ (n : ℕ). ChangesWithin 0 n old.image new.image) (ap (λ (n : ℕ). n / 512) w.size) (w.writes.within told)

  pub first_counted : (x : T) → (w : WritesFirst {T = T} {E = E} Is old (Ok x) new) → new.written ≡ counted old.written 1
  first_counted x w = w.writes.counted ∙ ap (λ (n : ℕ). counted old.written (n / 512)) w.size

pub first_is : (old new : Seen) → 0 < old.size → (b : Block) → IsTold old → new.image ≡ put old.image 0 (b ∷ []) → block_at new.image 0 ≡ b
first_is old new some b told is = ap (λ (img : Image). block_at img 0) is ∙ put_one old.image 0 b 0 refl (omega (arith, told))

-- ---- the three writes

module _ (blocks stamp : ℕ) where
  abbrev IsMine : Block → Type 0
  IsMine = IsImportLabel blocks stamp

  wider : (at n : ℕ) (img new : Image) → at + n ≤ import_blocks blocks → ChangesWithin at n img new → ChangesWithin 0 (import_blocks blocks) img new
  wider at n img new fits c = ChangesWithin_wider at n 0 (import_blocks blocks) img new (omega arith) (omega (arith, fits)) c

  unlabelled : (img : Image) (b : Block) → block_at img 0 ≡ b → IsNoLabel b → IsUnlabelled img
  unlabelled img b same is = record { none = λ x label. is.none x (subst (λ (c : Block). IsLabel c x) same label) }

  still_unlabelled : (img new : Image) → block_at new 0 ≡ block_at img 0 → IsUnlabelled img → IsUnlabelled new
  still_unlabelled img new same is = record { none = λ x label. is.none x (subst (λ (c : Block). IsLabel c x) same label) }

  -- the label stays as it was, or goes
  pub label_failed : {T E T' E' : Type 0} (old new : Seen) → import_blocks blocks ≤ old.size → (e : E) (e' : E') → WritesFirst {T = T} IsNoLabel old (Err e) new → Formats {T = T'} old blocks stamp (Err e') new
  label_failed old new fits e e' w = record {
    goes = goes_err old new e e' w.writes.goes;
    within = λ told. wider 0 1 old.image new.image (omega arith) (first_only IsNoLabel old new (omega arith) (Err e) w told);
    done = λ told. tt;
    stopped = λ told. elim (first_torn IsNoLabel old new (omega arith) e w told) [
      | inl same ↦ inl same
      | inr gone ↦ inr (inl (unlabelled new.image w.block (first_is old new (omega arith) w.block told gone) w.is))
    ];
    counted = tt;
    most = let same = w.writes.uncounted in omega (arith, same);
  }

  -- it is gone
  module _ {T E : Type 0} (old mid : Seen) (fits : import_blocks blocks ≤ old.size) (x : T) (w : WritesFirst {T = T} {E = E} IsNoLabel old (Ok x) mid) where
    size : mid.size ≡ old.size
    size = w.writes.size

    mid_told : IsTold old → IsTold mid
    mid_told = w.writes.told

    gone : IsTold old → IsUnlabelled mid.image
    gone told = unlabelled mid.image w.block (first_is old mid (omega arith) w.block told (first_put IsNoLabel old mid (omega arith) x w told)) w.is

    mid_within : IsTold old → ChangesWithin 0 (import_blocks blocks) old.image mid.image
    mid_within told = wider 0 1 old.image mid.image (omega arith) (first_only IsNoLabel old mid (omega arith) (Ok x) w told)

    count : ℕ
    count = import_blocks blocks - 1

    one_written : mid.written ≡ counted old.written 1
    one_written = first_counted IsNoLabel old mid (omega arith) x w

    pub bits_failed : {T' E' T'' E'' : Type 0} (new : Seen) (e : E') (e' : E'') → ClearsBits {T = T'} mid (import_blocks blocks - 1) (Err e) new → Formats {T = T''} old blocks stamp (Err e') new
    bits_failed new e e' c = record {
      goes = goes_then old mid new x (Err e') w.writes.goes (goes_err mid new e e' c.goes);
      within = λ told. ChangesWithin_then 0 (import_blocks blocks) old.image mid.image new.image (mid_within told) (wider 1 (import_blocks blocks - 1) mid.image new.image (omega arith) (c.within (mid_told told)));
      done = λ told. tt;
      stopped = λ told. inr (inl (still_unlabelled mid.image new.image ((c.within (mid_told told)).outside 0 (inl (omega arith))) (gone told)));
      counted = tt;
      most = let most = c.most in omega (arith, most, one_written);
    }

    -- the bits are clear
    module _ {T' E' : Type 0} (clear : Seen) (y : T') (c : ClearsBits {T = T'} {E = E'} mid (import_blocks blocks - 1) (Ok y) clear) where
      clear_size : clear.size ≡ old.size
      clear_size = c.goes.lasts.size ∙ size

      clear_told : IsTold old → IsTold clear
      clear_told told = c.goes.lasts.told (mid_told told)

      clear_gone : IsTold old → IsUnlabelled clear.image
      clear_gone told = still_unlabelled mid.image clear.image ((c.within (mid_told told)).outside 0 (inl (omega arith))) (gone told)

      clear_within : IsTold old → ChangesWithin 0 (import_blocks blocks) old.image clear.image
      clear_within told = ChangesWithin_then 0 (import_blocks blocks) old.image mid.image clear.image (mid_within told) (wider 1 (import_blocks blocks - 1) mid.image clear.image (omega arith) (c.within (mid_told told)))

      all : IsTold old → (p : ℕ) → 4096 ≤ p → p < 4096 * import_blocks blocks → disk_bit clear.image p ≡ false
      all told p low high = c.clear (mid_told told) p low (omega arith)

      -- the label comes
      comes : (new : Seen) (b : Block) → IsTold old → IsMine b → new.image ≡ put clear.image 0 (b ∷ []) → IsNewBitmap blocks stamp new.image
      unfolding disk_bit
      comes new b told is image = record {
        label = subst IsMine (sym (first_is clear new (omega (arith, clear_size)) b (clear_told told) image)) is;
        clear = record { each = λ p low high. ap (λ (img : Image). bit_of (block_at img (p / 4096)) (p % 4096)) image ∙ ap (λ (l : Block). bit_of l (p % 4096)) (put_outside clear.image 0 (b ∷ []) (p / 4096) (inr (omega arith))) ∙ all told p low high };
      }

      goes_on : {T2 E2 : Type 0} (new : Seen) (r : Result T2 E2) → WritesFirst IsMine clear r new → IsTold old → ChangesWithin 0 (import_blocks blocks) old.image new.image
      goes_on new r l told = ChangesWithin_then 0 (import_blocks blocks) old.image clear.image new.image (clear_within told) (wider 0 1 clear.image new.image (omega arith) (first_only IsMine clear new (omega (arith, clear_size)) r l (clear_told told)))

      pub formats : {T2 E2 : Type 0} (new : Seen) (r : Result T2 E2) → WritesFirst IsMine clear r new → Formats old blocks stamp r new
      formats new (Ok z) l = record {
        goes = goes_then old mid new x (Ok z) w.writes.goes (goes_then mid clear new y (Ok z) c.goes l.writes.goes);
        within = goes_on new (Ok z) l;
        done = λ told. comes new l.block told l.is (first_put IsMine clear new (omega (arith, clear_size)) z l (clear_told told));
        stopped = λ told. tt;
        counted = let second = c.counted in let third = first_counted IsMine clear new (omega (arith, clear_size)) z l in omega (arith, second, third, one_written);
        most = tt;
      }
      formats new (Err e) l = record {
        goes = goes_then old mid new x (Err e) w.writes.goes (goes_then mid clear new y (Err e) c.goes l.writes.goes);
        within = goes_on new (Err e) l;
        done = λ told. tt;
        stopped = λ told. elim (first_torn IsMine clear new (omega (arith, clear_size)) e l (clear_told told)) [
          | inl same ↦ inr (inl (still_unlabelled clear.image new.image (ap (λ (img : Image). block_at img 0) same) (clear_gone told)))
          | inr there ↦ inr (inr (comes new l.block told l.is there))
        ];
        counted = tt;
        most = let second = c.most in let third = l.writes.uncounted in omega (arith, second, third, one_written);
      }
