-- Blocks of a volume are written whose sets have saved its chunks.
use Rattle.std.proofs.Common.{◌≡◌, ◌≢◌, inl, inr, ℕ, ◌+◌, ◌/◌, ◌<◌, ◌≤◌, Bool, true, false, cond, eqb, Option, None, Some, List, [], length, map, set, get_or, ◌∙◌, sym, refl, ap, subst, arith}
use Rattle.std.specs.List.{range_with_len}
use Rattle.std.specs.Option.{option_map, unwrap_or}
use Rattle.std.proofs.lemmas.Bool.{cases_lt, cases_eq, ne_eqb}
use Rattle.std.proofs.lemmas.List.{ext_get_or, get_or-set_same, get_or-set_other, length-set, get_or_past}
use Rattle.std.proofs.lemmas.List.FromFn.{length-map-range_with_len, get_or-map-range_with_len}
use Rattle.avs_seg.specs.Image.{Image, Block, block_at, put, IsMix, ChangesWithin}
use Rattle.avs_seg.proofs.Blocks.{length-tabulate, block_at-tabulate, same_images}
use Rattle.avs_seg.proofs.Puts.{length-put, put_inside, put_outside}
use Rattle.avs_dev.specs.Seen.{Seen, IsTold, shown}
use Rattle.avs_model.specs.ShadowSets.{is_online, is_offline}
use Rattle.avs_model.specs.GroupStates.{volume_image, with_volume}
use Rattle.avs_sets.specs.Says.{BlockSays}
use Rattle.avs_sets.specs.Sets.{SetSeen, disk_of, shadow_block}
use Rattle.avs_sets.specs.Meaning.{set_of, disk_in, image_in, is_enabled, standing_of, chunks_by, read, is_back, pick, picked, volume_by, shadow_over, behind_of, set_by, group_by}
use Rattle.avs_sets.specs.Whole.{AreWhole}
use Rattle.avs_sets.proofs.Lift.{same_tabulate, same_contents, online_not_offline, pick_none, none_back}
use Rattle.avs_sets.proofs.Lists.{keeps_all}

-- a row of which one place changes
pub one_of_row : {X : Type 0} (d : X) (n v : ℕ) (f g : ℕ → X) → v < n → ((w : ℕ) → w ≢ v → f w ≡ g w) → map f (range_with_len 0 n) ≡ set (map g (range_with_len 0 n)) v (f v)
one_of_row d n v f g lt same = ext_get_or d _ _ (length-map-range_with_len f 0 n ∙ sym (length-set (map g (range_with_len 0 n)) v (f v) ∙ length-map-range_with_len g 0 n)) (λ i l. each i (omega (arith, l, length-map-range_with_len f 0 n)))
  where
    each : (i : ℕ) → i < n → get_or (map f (range_with_len 0 n)) i d ≡ get_or (set (map g (range_with_len 0 n)) v (f v)) i d
    each i l = elim (cases_eq i v) [
      | inl is ↦ get_or-map-range_with_len f 0 n i i d l (omega arith) ∙ ap f is ∙ sym (ap (λ (k : ℕ). get_or (set (map g (range_with_len 0 n)) v (f v)) k d) is ∙ get_or-set_same (map g (range_with_len 0 n)) v (f v) d (omega (arith, lt, length-map-range_with_len g 0 n)))
      | inr ne ↦ get_or-map-range_with_len f 0 n i i d l (omega arith) ∙ same i ne ∙ sym (get_or-set_other (map g (range_with_len 0 n)) v i (f v) d ne ∙ get_or-map-range_with_len g 0 n i i d l (omega arith))
    ]

behind : (img : Image) (i : ℕ) → length img ≤ i → block_at img i ≡ []
behind img i le = get_or_past img i [] le

-- ---- an image over which blocks are picked, where none of a range is picked

module _ (says : BlockSays) (O : List (Option Seen)) (S : List SetSeen) (v : ℕ) (old new : Image) (long : length new ≡ length old) (at : ℕ) (bs : Image)
    (none : (i : ℕ) → i < length old → at ≤ i → i < at + length bs → (k : ℕ) → k < length S → is_back says v i (set_of S k) ≡ false) where
  was : (i : ℕ) → i < length old → block_at (picked says O S v old) i ≡ pick says O S v i (block_at old i)
  was i l = block_at-tabulate (length old) (λ j. pick says O S v j (block_at old j)) i l

  now : (i : ℕ) → i < length old → block_at (picked says O S v new) i ≡ pick says O S v i (block_at new i)
  now i l = block_at-tabulate (length new) (λ j. pick says O S v j (block_at new j)) i (omega (arith, l, long))

  len_was : length (picked says O S v old) ≡ length old
  len_was = length-tabulate _ _

  len_now : length (picked says O S v new) ≡ length old
  len_now = length-tabulate _ _ ∙ long

  past : (i : ℕ) → length old ≤ i → block_at (picked says O S v new) i ≡ block_at (picked says O S v old) i
  past i le = behind (picked says O S v new) i (omega (arith, le, len_now)) ∙ sym (behind (picked says O S v old) i (omega (arith, le, len_was)))

  pub over_mix : IsMix old at bs new → IsMix (picked says O S v old) at bs (picked says O S v new)
  over_mix mix = record {
    same_length = len_now ∙ sym len_was;
    outside = λ i o. elim (cases_lt i (length old)) [
      | inl l ↦ now i l ∙ ap (λ (b : Block). pick says O S v i b) (mix.outside i o) ∙ sym (was i l)
      | inr le ↦ past i le
    ];
    inside = λ i low high. elim (cases_lt i (length old)) [
      | inl l ↦
          let n = none i l low high in
          let is = now i l ∙ pick_none says O S v i (block_at new i) n in
          let had = was i l ∙ pick_none says O S v i (block_at old i) n in
          elim (mix.inside i low high) [ inl a ↦ inl (is ∙ a ∙ sym had) | inr b ↦ inr (is ∙ b) ]
      | inr le ↦ inl (past i le)
    ];
  }

  pub over_put : new ≡ put old at bs → picked says O S v new ≡ put (picked says O S v old) at bs
  over_put is = same_images _ _ (len_now ∙ sym (length-put (picked says O S v old) at bs ∙ len_was)) (λ i l. each i (omega (arith, l, len_now)))
    where
      put_is : (i : ℕ) → block_at new i ≡ block_at (put old at bs) i
      put_is i = ap (λ (img : Image). block_at img i) is

      each : (i : ℕ) → i < length old → block_at (picked says O S v new) i ≡ block_at (put (picked says O S v old) at bs) i
      each i l = elim (cases_lt i at) [
        | inl low ↦ now i l ∙ ap (λ (b : Block). pick says O S v i b) (put_is i ∙ put_outside old at bs i (inl low)) ∙ sym (put_outside (picked says O S v old) at bs i (inl low) ∙ was i l)
        | inr ge ↦ elim (cases_lt i (at + length bs)) [
          | inl within ↦ now i l ∙ pick_none says O S v i _ (none i l ge within) ∙ put_is i ∙ put_inside old at bs i ge within l ∙ sym (put_inside (picked says O S v old) at bs i ge within (omega (arith, l, len_was)))
          | inr high ↦ now i l ∙ ap (λ (b : Block). pick says O S v i b) (put_is i ∙ put_outside old at bs i (inr high)) ∙ sym (put_outside (picked says O S v old) at bs i (inr high) ∙ was i l)
        ]
      ]

-- ---- the group, where the disk of one volume changes in a range that its sets have saved

-- in the range each enabled set of the volume is split, or offline with its contents elsewhere too
pub record AreSavedOn (says : BlockSays) (S : List SetSeen) (v at n : ℕ) : Type 0 where
  pub online : (k : ℕ) → k < length S → is_enabled says (set_of S k) ≡ true → is_offline (standing_of says (set_of S k)) ≡ false → (set_of S k).master ≡ v
      → (i : ℕ) → i < (set_of S k).size.blocks → at ≤ i → i < at + n → (chunks_by says (set_of S k)).state (i / 64) ≡ 2
  pub none : (k : ℕ) → k < length S → is_enabled says (set_of S k) ≡ true → (set_of S k).master ≡ v
      → (i : ℕ) → i < (set_of S k).size.blocks → at ≤ i → i < at + n → (chunks_by says (set_of S k)).state (i / 64) ≢ 3

module _ (says : BlockSays) (V V' O : List (Option Seen)) (S : List SetSeen) (v : ℕ) (m m' : Seen) (there : v < length V) (was : get_or V v None ≡ Some m) (now : get_or V' v None ≡ Some m')
    (others : (w : ℕ) → w ≢ v → get_or V' w None ≡ get_or V w None) (long_v : length V' ≡ length V) (at : ℕ) (bs : Image) (changes : ChangesWithin at (length bs) (shown m) (shown m'))
    (fits : (k : ℕ) → k < length S → (set_of S k).master ≡ v → (set_of S k).size.blocks ≡ length (shown m)) (saved : AreSavedOn says S v at (length bs)) where
  image_was : image_in V v ≡ shown m
  image_was = ap (λ (d : Option Seen). shown (disk_of d)) was

  image_now : image_in V' v ≡ shown m'
  image_now = ap (λ (d : Option Seen). shown (disk_of d)) now

  image_other : (w : ℕ) → w ≢ v → image_in V' w ≡ image_in V w
  image_other w ne = ap (λ (d : Option Seen). shown (disk_of d)) (others w ne)

  none : (i : ℕ) → i < length (shown m) → at ≤ i → i < at + length bs → (k : ℕ) → k < length S → is_back says v i (set_of S k) ≡ false
  none i l low high k lt = none_back says (set_of S k) v i (λ live is. saved.none k lt live is i (omega (arith, l, fits k lt is)) low high)

  -- outside of the range, and where a set that is online is not split, the disk is as before
  disk_same : (k : ℕ) → k < length S → is_enabled says (set_of S k) ≡ true → is_offline (standing_of says (set_of S k)) ≡ false → (i : ℕ) → i < (set_of S k).size.blocks → (chunks_by says (set_of S k)).state (i / 64) ≢ 2
      → block_at (image_in V' (set_of S k).master) i ≡ block_at (image_in V (set_of S k).master) i
  disk_same k lt live on i l ne = elim (cases_eq (set_of S k).master v) [
    | inr other ↦ ap (λ (img : Image). block_at img i) (image_other (set_of S k).master other)
    | inl is ↦ ap (λ (w : ℕ). block_at (image_in V' w) i) is ∙ ap (λ (img : Image). block_at img i) image_now ∙ elim (cases_lt i at) [
      | inl low ↦ changes.outside i (inl low)
      | inr ge ↦ elim (cases_lt i (at + length bs)) [
        | inr high ↦ changes.outside i (inr high)
        | inl within ↦ elim (ne (saved.online k lt live on is i l ge within)) [ ]
      ]
    ] ∙ sym (ap (λ (img : Image). block_at img i) image_was) ∙ ap (λ (w : ℕ). block_at (image_in V w) i) (sym is)
  ]

  -- the shadows are as before
  set_same : (k : ℕ) → k < length S → is_enabled says (set_of S k) ≡ true → set_by says V' O (set_of S k) ≡ set_by says V O (set_of S k)
  set_same k lt live = λ p. record (set_by says V O (set_of S k)) {
    contents = same_contents (standing_of says (set_of S k)) (shadow_over (read says O (set_of S k)) (image_in V' (set_of S k).master)) (shadow_over (read says O (set_of S k)) (image_in V (set_of S k).master)) (behind_of (set_of S k))
        (λ on. same_tabulate _ _ _ _ refl (block (online_not_offline _ on))) p;
  }
    where
      zero_two : (n : ℕ) → n ≡ 0 → n ≡ 2 → ⊥
      zero_two n a b = omega (arith, a, b)

      block : is_offline (standing_of says (set_of S k)) ≡ false → (i : ℕ) → i < (set_of S k).size.blocks → shadow_block (read says O (set_of S k)) (image_in V' (set_of S k).master) i ≡ shadow_block (read says O (set_of S k)) (image_in V (set_of S k).master) i
      block on i l = elim (cases_eq ((chunks_by says (set_of S k)).state (i / 64)) 0) [
        | inl zero_is ↦ ap (λ (x : Block). cond (eqb ((chunks_by says (set_of S k)).state (i / 64)) 0) x ((read says O (set_of S k)).stands i)) (disk_same k lt live on i l (λ two. zero_two _ zero_is two))
        | inr some ↦
            ap (λ (b : Bool). cond b (block_at (image_in V' (set_of S k).master) i) ((read says O (set_of S k)).stands i)) (ne_eqb _ 0 some)
            ∙ sym (ap (λ (b : Bool). cond b (block_at (image_in V (set_of S k).master) i) ((read says O (set_of S k)).stands i)) (ne_eqb _ 0 some))
      ]

  pub group_put : (image : Image) → picked says O S v (shown m') ≡ image → group_by says V' O S ≡ with_volume (group_by says V O S) v image
  group_put image is = λ p. record {
    volumes = (ap (λ (n : ℕ). map (λ w. volume_by says V' O S w) (range_with_len 0 n)) long_v
        ∙ one_of_row None (length V) v (λ w. volume_by says V' O S w) (λ w. volume_by says V O S w) there (λ w ne. ap (λ (d : Option Seen). option_map (λ disk. picked says O S w (shown disk)) d) (others w ne))
        ∙ ap (λ (img : Option Image). set (map (λ w. volume_by says V O S w) (range_with_len 0 (length V))) v img) (ap (λ (d : Option Seen). option_map (λ disk. picked says O S v (shown disk)) d) now ∙ ap (λ (img : Image). Some img) is)) p;
    overs = (group_by says V O S).overs;
    sets = (keeps_all (λ t. is_enabled says t) (λ t. set_by says V O t) (λ t. set_by says V' O t) S (λ k lt live. set_same k lt live)) p;
    note = says.note;
    sequence = says.sequence;
  }

  pub put_image : volume_image (group_by says V O S) v ≡ picked says O S v (shown m)
  put_image = ap (λ (img : Option Image). unwrap_or img []) (get_or-map-range_with_len (λ w. volume_by says V O S w) 0 (length V) v v None there (omega arith) ∙ ap (λ (d : Option Seen). option_map (λ disk. picked says O S v (shown disk)) d) was)

  -- all of the range is written, or each block of it is old or new
  pub put_done : shown m' ≡ put (shown m) at bs → group_by says V' O S ≡ with_volume (group_by says V O S) v (put (volume_image (group_by says V O S) v) at bs)
  put_done is = group_put _ (over_put says O S v (shown m) (shown m') changes.same_length at bs none is ∙ ap (λ (img : Image). put img at bs) (sym put_image))

  pub put_part : IsMix (shown m) at bs (shown m') → (image : Image) × (IsMix (volume_image (group_by says V O S) v) at bs image) × (group_by says V' O S ≡ with_volume (group_by says V O S) v image)
  put_part mix = (picked says O S v (shown m'), subst (λ (img : Image). IsMix img at bs (picked says O S v (shown m'))) (sym put_image) (over_mix says O S v (shown m) (shown m') changes.same_length at bs none mix), group_put _ refl)

  pub put_whole : AreWhole says V O S → ((w : ℕ) → IsTold (disk_in V' w)) → AreWhole says V' O S
  put_whole w told = record {
    volumes_told = told;
    overs_told = w.overs_told;
    each = λ k lt. record { shadow = (w.each k lt).shadow; bitmap = (w.each k lt).bitmap; kind = (w.each k lt).kind; off = (w.each k lt).off; placed = (w.each k lt).placed; alike = λ live on. record { same = alike k lt live on } };
    apart = w.apart;
    slots_apart = w.slots_apart;
  }
    where
      one_two : (n : ℕ) → n ≡ 1 → n ≡ 2 → ⊥
      one_two n a b = omega (arith, a, b)

      alike : (k : ℕ) → k < length S → is_enabled says (set_of S k) ≡ true → is_online (standing_of says (set_of S k)) ≡ true → (i : ℕ) → i < (set_of S k).size.blocks → (chunks_by says (set_of S k)).state (i / 64) ≡ 1
          → (read says O (set_of S k)).stands i ≡ block_at (image_in V' (set_of S k).master) i
      alike k lt live on i l one = ((w.each k lt).alike live on).same i l one ∙ sym (disk_same k lt live (online_not_offline _ on) i l (λ two. one_two _ one two))
