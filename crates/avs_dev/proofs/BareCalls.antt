-- What a call of one disk makes of plain disks beside a state disk.
use Rattle.std.proofs.Common.{◌≡◌, ◌≢◌, ◌⊎◌, inl, inr, ℕ, suc, ◌+◌, ◌-◌, ◌/◌, ◌^◌, ◌<◌, min, Bool, true, false, cond, eqb, IsTrue, List, [], ◌∷◌, ◌++◌, length, set, take, replicate, slice_index, slice_index_or, slice_set, Option, None, Some, is_some, is_ok, Result, Ok, Err, IsErr, refl, sym, ◌∙◌, ap, subst, arith}
use Rattle.std.proofs.Math.Seq.{map-set_same}
use Rattle.std.proofs.lemmas.Bool.{cases_Bool, cases_eq, eqb-true, eq-eqb}
use Rattle.std.proofs.lemmas.List.{get_or-map, map-set, get_or-set_same, get_or-set_other, length-set, length-append, length-replicate, drop_at, take_at}
use Rattle.std.proofs.lemmas.Result.{on_ok_weaker, on_err_weaker}
use Rattle.avs_seg.specs.Image.{Image, Block, block_at, blocks_of, put, range, IsMix, ChangesWithin}
use Rattle.avs_seg.proofs.Bytes.{blocks_of_one}
use Rattle.avs_seg.proofs.Mixes.{mix_one}
use Rattle.avs_seg.proofs.Puts.{put_one}
use Rattle.avs_seg.proofs.Ranges.{range_one}
use Rattle.avs_dev.specs.Seen.{Seen, IsTold, IsRange, Reads, Writes, shown}
use Rattle.avs_dev.specs.Below.{BelowSeen, image_of, size_of, IsToldAt, IsNoteTold, IsRangeOf, ReadsBelow, WritesBelow, SetsNote}
use Rattle.avs_dev.specs.Bare.{BareDisks, disks_of, volume_at, note_in, note_block, stored_on, below_of, written_on, AddsBlocks, ReadsVolume, WritesVolume, WritesNote, Opens}
use Rattle.avs_dev.proofs.Going.{shown_told, told_shown, goes_err, writes_err}
use Rattle.avs_dev.proofs.SomeDisks.{HasOneCause_at, UsesOneTear_at, steady_same, steady_at}

-- ---- a volume

module _ (b : BareDisks) (vol : ℕ) (there : vol < length b.volumes) where
  pub image_is : image_of (below_of b) vol ≡ shown (volume_at b vol)
  image_is = get_or-map shown b.volumes vol b.state [] there

  pub size_is : size_of (below_of b) vol ≡ (volume_at b vol).size
  size_is = get_or-map (λ (d : Seen). d.size) b.volumes vol b.state 0 there

  pub told_is : 0 < (volume_at b vol).size → IsToldAt (below_of b) vol → IsTold (volume_at b vol)
  told_is some told = told_shown (volume_at b vol) some (ap (λ (i : Image). length i) (sym image_is) ∙ told ∙ size_is)

  pub image_told : IsTold (volume_at b vol) → image_of (below_of b) vol ≡ (volume_at b vol).image
  image_told told = image_is ∙ shown_told (volume_at b vol) told

  pub has_blocks : (at len : ℕ) → IsRangeOf (below_of b) vol at len → 0 < (volume_at b vol).size
  has_blocks at len r = omega (arith, r.some, r.whole, r.inside, size_is)

  pub is_range : (at len : ℕ) → IsRangeOf (below_of b) vol at len → IsRange (volume_at b vol) at len
  is_range at len r = record { some = r.some; whole = r.whole; inside = omega (arith, r.inside, size_is) }

-- ---- a call of a volume

module _ (b : BareDisks) (vol : ℕ) (new : Seen) (there : vol < length b.volumes) where
  abbrev after : BareDisks
  after = record b { volumes = slice_set b.volumes vol new }

  pub volume_after : volume_at after vol ≡ new
  volume_after = get_or-set_same b.volumes vol new b.state there

  there_after : vol < length (set b.volumes vol new)
  there_after = omega (arith, length-set b.volumes vol new, there)

  image_after : image_of (below_of after) vol ≡ shown new
  image_after = get_or-map shown (set b.volumes vol new) vol b.state [] there_after ∙ ap shown volume_after

  image_same : shown new ≡ shown (volume_at b vol) → (below_of after).images ≡ (below_of b).images
  image_same same = map-set_same shown b.volumes vol new b.state same

  size_same : new.size ≡ (volume_at b vol).size → (below_of after).sizes ≡ (below_of b).sizes
  size_same same = map-set_same (λ (d : Seen). d.size) b.volumes vol new b.state same

  armed_same : new.armed ≡ (volume_at b vol).armed → (below_of after).armed ≡ (below_of b).armed
  armed_same same = map-set_same (λ (d : Seen). d.armed) (disks_of b) (suc vol) new b.state same

  suc_there : suc vol < length (disks_of b)
  suc_there = omega (arith, there)

  pub written_same : new.written ≡ (volume_at b vol).written → written_on after ≡ written_on b
  written_same same = map-set_same (λ (d : Seen). d.written) b.volumes vol new b.state same

  pub written_more : (n : ℕ) → new.written ≡ min ((volume_at b vol).written + n) (2 ^ 64 - 1) → written_on after ≡ slice_set (written_on b) vol (min (slice_index (written_on b) vol + n) (2 ^ 64 - 1))
  written_more n is =
      map-set (λ (d : Seen). d.written) b.volumes vol new
      ∙ ap (λ (k : ℕ). set (written_on b) vol k) (is ∙ ap (λ (k : ℕ). min (k + n) (2 ^ 64 - 1)) (sym (get_or-map (λ (d : Seen). d.written) b.volumes vol b.state 0 there)))

  images_set : (below_of after).images ≡ slice_set (below_of b).images vol (image_of (below_of after) vol)
  images_set = map-set shown b.volumes vol new ∙ ap (λ (i : Image). set (below_of b).images vol i) (sym image_after)

  image_other : (other : ℕ) → other ≢ vol → image_of (below_of after) other ≡ image_of (below_of b) other
  image_other other apart = ap (λ (l : List Image). slice_index_or l other []) images_set ∙ get_or-set_other (below_of b).images vol other (image_of (below_of after) vol) [] apart

module _ {T E : Type 0} (b : BareDisks) (vol at : ℕ) (bytes : List ℕ) (result : Result T E) (new : Seen) (there : vol < length b.volumes) (some : 0 < (volume_at b vol).size) where
  -- a read
  pub Reads-below : {S : Type 0} → Reads (volume_at b vol) at bytes result new → ReadsBelow S (below_of b) vol at bytes result (below_of (record b { volumes = slice_set b.volumes vol new }))
  Reads-below {S} r =
      let images = image_same b vol new there (ap shown r.rest) in
      let sizes = size_same b vol new there (ap (λ (d : Seen). d.size) r.rest) in
      let armed = armed_same b vol new there (ap (λ (d : Seen). d.armed) r.rest) in
      let steady = steady_same (disks_of b) (suc vol) new b.state (suc_there b vol new there) (ap (λ (d : Seen). d.steady) r.rest) in
      let s : BelowSeen = below_of (record b { volumes = slice_set b.volumes vol new }) in
      let o : BelowSeen = below_of b in
      record {
        kept = ap (λ (l : List Image). record s { images = l }) images
            ∙ ap (λ (l : List ℕ). record s { images = o.images; sizes = l }) sizes
            ∙ ap (λ (l : List Bool). record s { images = o.images; sizes = o.sizes; armed = l }) armed
            ∙ ap (λ (x : Bool). record s { images = o.images; sizes = o.sizes; armed = o.armed; steady = x }) steady;
        images = images;
        sizes = sizes;
        cause = HasOneCause_at (disks_of b) (suc vol) new b.state (suc_there b vol new there) result r.cause r.goes;
        told = λ any told. ap (λ (l : List Image). length (slice_index_or l any [])) images ∙ told ∙ sym (ap (λ (l : List ℕ). slice_index l any) sizes);
        shows = λ sound told.
            let was = told_is b vol there some told in
            on_ok_weaker result (λ is. is ∙ ap (λ (i : Image). range i at (length bytes / 512)) (sym (image_told b vol there was))) (r.shows was);
        sure = λ all. r.sure (steady_at (disks_of b) (suc vol) new b.state (suc_there b vol new there) all);
      }

  pub Reads-volume : Reads (volume_at b vol) at bytes result new → ReadsVolume b vol at bytes result (record b { volumes = slice_set b.volumes vol new })
  Reads-volume r =
      let now = volume_after b vol new there in
      record {
        rest = ap (λ (d : Seen). record b { volumes = slice_set b.volumes vol d }) (sym now);
        reads = subst (λ (d : Seen). Reads (volume_at b vol) at bytes result d) (sym now) r;
      }

  -- a write
  pub Writes-below : {S : Type 0} → Writes (volume_at b vol) at bytes result new → WritesBelow S (below_of b) vol at bytes result (below_of (record b { volumes = slice_set b.volumes vol new }))
  Writes-below {S} w =
      let sizes = size_same b vol new there w.size in
      let s : BelowSeen = below_of (record b { volumes = slice_set b.volumes vol new }) in
      let bs = blocks_of bytes in
      record {
        others = images_set b vol new there;
        sizes = sizes;
        note = refl;
        stored = refl;
        steady = steady_same (disks_of b) (suc vol) new b.state (suc_there b vol new there) w.steady;
        cause = HasOneCause_at (disks_of b) (suc vol) new b.state (suc_there b vol new there) result w.cause w.goes;
        done = λ sound told.
            let first = told_is b vol there some told in
            on_ok_weaker result (λ is. now first w ∙ is ∙ ap (λ (i : Image). put i at bs) (sym (was first))) (w.done first);
        failed = λ sound told.
            let first = told_is b vol there some told in
            on_err_weaker result (λ mixed.
            subst (λ (i : Image). IsMix i at bs (image_of s vol)) (sym (was first))
            (subst (λ (i : Image). IsMix (volume_at b vol).image at bs i) (sym (now first w)) mixed)) (w.failed first);
        within = λ sound told.
            let first = told_is b vol there some told in
            subst (λ (i : Image). ChangesWithin at (length bytes / 512) i (image_of s vol)) (sym (was first))
            (subst (λ (i : Image). ChangesWithin at (length bytes / 512) (volume_at b vol).image i) (sym (now first w)) (w.within first));
        told = told_after w sizes;
        kept = image_other b vol new there;
        still_armed = on_ok_weaker result (armed_same b vol new there) w.still_armed;
        spent = λ all. on_err_weaker result (UsesOneTear_at (disks_of b) (suc vol) new b.state (suc_there b vol new there)) (w.spent (steady_at (disks_of b) (suc vol) new b.state (suc_there b vol new there) all));
      }
    where
      was : IsTold (volume_at b vol) → image_of (below_of b) vol ≡ (volume_at b vol).image
      was first = image_told b vol there first

      now : IsTold (volume_at b vol) → Writes (volume_at b vol) at bytes result new → image_of (below_of (record b { volumes = slice_set b.volumes vol new })) vol ≡ new.image
      now first w = image_after b vol new there ∙ shown_told new (w.told first)

      told_after : Writes (volume_at b vol) at bytes result new → (below_of (record b { volumes = slice_set b.volumes vol new })).sizes ≡ (below_of b).sizes → (any : ℕ) → IsToldAt (below_of b) any → IsToldAt (below_of (record b { volumes = slice_set b.volumes vol new })) any
      told_after w sizes any told =
          let same = ap (λ (l : List ℕ). slice_index l any) sizes in
          elim (cases_eq any vol) [
            | inl is ↦ subst (λ (v : ℕ). IsToldAt (below_of (record b { volumes = slice_set b.volumes vol new })) v) (sym is) (told_there w sizes (subst (λ (v : ℕ). IsToldAt (below_of b) v) is told))
            | inr apart ↦ ap (λ (i : Image). length i) (image_other b vol new there any apart) ∙ told ∙ sym same
          ]
        where
          told_there : Writes (volume_at b vol) at bytes result new → (below_of (record b { volumes = slice_set b.volumes vol new })).sizes ≡ (below_of b).sizes → IsToldAt (below_of b) vol → IsToldAt (below_of (record b { volumes = slice_set b.volumes vol new })) vol
          told_there w sizes told = ap (λ (i : Image). length i) (now (told_is b vol there some told) w) ∙ w.told (told_is b vol there some told) ∙ w.size ∙ sym (size_is b vol there) ∙ sym (ap (λ (l : List ℕ). slice_index l vol) sizes)

  pub Writes-volume : Writes (volume_at b vol) at bytes result new → WritesVolume b vol at bytes result (record b { volumes = slice_set b.volumes vol new })
  Writes-volume w =
      let now = volume_after b vol new there in
      record {
        rest = ap (λ (d : Seen). record b { volumes = slice_set b.volumes vol d }) (sym now);
        writes = subst (λ (d : Seen). Writes (volume_at b vol) at bytes result d) (sym now) w;
      }

pub Writes-adds : {T E : Type 0} (b : BareDisks) (vol at : ℕ) (bytes : List ℕ) (result : Result T E) (new : Seen) → vol < length b.volumes → Writes (volume_at b vol) at bytes result new → AddsBlocks (written_on b) vol at bytes (is_ok result) (written_on (record b { volumes = slice_set b.volumes vol new }))
Writes-adds b vol at bytes (Ok x) new there w = written_more b vol new there (length bytes / 512) w.counted
Writes-adds b vol at bytes (Err e) new there w = written_same b vol new there w.uncounted

-- ---- the note

pub length-note_block : (note : List ℕ) → length note ≡ 64 → length (note_block note) ≡ 512
length-note_block note len = omega (arith, length-append (replicate 400 0) (note ++ replicate 48 0), length-append note (replicate 48 0), length-replicate {A = ℕ} 400 0, length-replicate {A = ℕ} 48 0, len)

pub note_in-note_block : (note : List ℕ) → length note ≡ 64 → note_in (note_block note) ≡ note
note_in-note_block note len = ap (λ (l : List ℕ). take 64 l) (drop_at (replicate 400 0) (note ++ replicate 48 0) 400 (length-replicate {A = ℕ} 400 0)) ∙ take_at note (replicate 48 0) 64 len

-- a disk tells its note exactly where it tells its blocks
stored_told : (d : Seen) → IsTold d → stored_on d ≡ Some (note_in (block_at d.image 1))
stored_told d told = ap (λ (b : Bool). cond b (Some (note_in (block_at d.image 1))) None) (eq-eqb (length d.image) d.size told)

told_stored : (d : Seen) → IsTrue (is_some (stored_on d)) → IsTold d
told_stored d some = elim (cases_Bool (eqb (length d.image) d.size)) [
  | inl same ↦ eqb-true (length d.image) d.size same
  | inr other ↦ absurd (apart (subst (λ (b : Bool). IsTrue (is_some (cond b (Some (note_in (block_at d.image 1))) None))) other some))
]
  where
    apart : IsTrue false → ⊥
    apart is = cc

-- the note is in the block that a read gives
module _ {T E : Type 0} (old : Seen) (out : List ℕ) (x : T) (new : Seen) (len : length out ≡ 512) (r : Reads {E = E} old 1 out (Ok x) new) where
  note_read : IsTold old → note_in out ≡ note_in (block_at old.image 1)
  note_read told =
      let blocks = sym (blocks_of_one out len) ∙ r.shows told ∙ ap (λ (n : ℕ). range old.image 1 n) (ap (λ (n : ℕ). n / 512) len) ∙ range_one old.image 1 in
      ap (λ (i : Image). note_in (block_at i 0)) blocks

  in_step : IsTrue (is_some (stored_on new)) → stored_on new ≡ Some (note_in out)
  in_step some =
      let told_new = told_stored new some in
      let image : new.image ≡ old.image = ap (λ (d : Seen). d.image) r.rest in
      let told : IsTold old = ap (λ (i : Image). length i) (sym image) ∙ told_new ∙ ap (λ (d : Seen). d.size) r.rest in
      stored_told new told_new ∙ ap (λ (i : Image). Some (note_in (block_at i 1))) image ∙ ap (λ (l : List ℕ). Some l) (sym (note_read told))

  pub Opens-read : (volumes : List Seen) → 1 < old.size → volumes ≡ [] → Opens old (record { state = new; volumes = volumes; note = note_in out })
  Opens-read volumes fits none = record {
    kept = r.rest ∙ ap (λ (n : ℕ). record old { faults = n }) r.goes.done.faults;
    rest = r.rest;
    none = none;
    note = note_read;
    step = in_step;
    fits = omega (arith, fits, ap (λ (d : Seen). d.size) r.rest);
  }

-- the block of a note is written
module _ (b : BareDisks) (note : List ℕ) (new : Seen) (fits : 1 < b.state.size) (len : length note ≡ 64) where
  abbrev noted : BareDisks
  noted = record b { state = new; note = note }

  one : blocks_of (note_block note) ≡ note_block note ∷ []
  one = blocks_of_one (note_block note) (length-note_block note len)

  inside : IsTold b.state → 1 < length b.state.image
  inside told = omega (arith, fits, told)

  stored_new : IsTold new → new.image ≡ put b.state.image 1 (note_block note ∷ []) → IsTold b.state → stored_on new ≡ Some note
  stored_new told_new is told =
      stored_told new told_new
      ∙ ap (λ (l : List ℕ). Some l) (ap (λ (x : Block). note_in x) (ap (λ (i : Image). block_at i 1) is ∙ put_one b.state.image 1 (note_block note) 1 refl (inside told)) ∙ note_in-note_block note len)

  stored_old : IsTold new → new.image ≡ b.state.image → IsTold b.state → stored_on new ≡ stored_on b.state
  stored_old told_new is told = stored_told new told_new ∙ ap (λ (i : Image). Some (note_in (block_at i 1))) is ∙ sym (stored_told b.state told)

  pub stored_after : {T E : Type 0} (x : T) → Writes {E = E} b.state 1 (note_block note) (Ok x) new → IsNoteTold (below_of b) → stored_on new ≡ Some note
  stored_after x w some =
      let told = told_stored b.state some in
      stored_new (w.told told) (w.done told ∙ ap (λ (i : Image). put b.state.image 1 i) one) told

  -- the note in memory is that on the disk
  pub in_step_after : {T E : Type 0} (x : T) → Writes {E = E} b.state 1 (note_block note) (Ok x) new → IsTrue (is_some (stored_on new)) → stored_on new ≡ Some note
  in_step_after x w some =
      let told = w.tells (told_stored new some) in
      stored_after x w (ap (λ (o : Option (List ℕ)). is_some o) (stored_told b.state told))

  pub stored_left : {T E : Type 0} (e : E) → Writes {T = T} b.state 1 (note_block note) (Err e) new → IsNoteTold (below_of b) → (stored_on new ≡ stored_on b.state) ⊎ (stored_on new ≡ Some note)
  stored_left e w some =
      let told = told_stored b.state some in
      elim (mix_one b.state.image new.image 1 (note_block note) (inside told) (subst (λ (i : Image). IsMix b.state.image 1 i new.image) one (w.failed told))) [
        | inl is ↦ inl (stored_old (w.told told) is told)
        | inr is ↦ inr (stored_new (w.told told) is told)
      ]

  first : 0 < length (disks_of b)
  first = omega arith

  still_told : {T E : Type 0} (result : Result T E) → Writes b.state 1 (note_block note) result new → IsNoteTold (below_of b) → IsTrue (is_some (stored_on new))
  still_told result w some = ap (λ (o : Option (List ℕ)). is_some o) (stored_told new (w.told (told_stored b.state some)))

  pub Writes-noted : {S T E : Type 0} (x : T) → Writes {E = E} b.state 1 (note_block note) (Ok x) new → SetsNote {E = E} S (below_of b) note (Ok x) (below_of (record b { state = new; note = note }))
  Writes-noted {S} {T} {E} x w =
      let r : Result T E = Ok x in
      record {
        images = λ sound. refl;
        sizes = refl;
        steady = steady_same (disks_of b) 0 new b.state first w.steady;
        cause = HasOneCause_at (disks_of b) 0 new b.state first r w.cause w.goes;
        done = refl;
        failed = tt;
        stored = stored_after x w;
        left = λ some. tt;
        told = still_told r w;
        still_armed = map-set_same (λ (d : Seen). d.armed) (disks_of b) 0 new b.state w.still_armed;
        spent = λ all. tt;
      }

  never : false ≡ true → ⊥
  never is = cc

  pub Writes-not_noted : {S T E T' E' : Type 0} (e : E) (r : Result T' E') → IsErr r → Writes {T = T} b.state 1 (note_block note) (Err e) new → SetsNote S (below_of b) note r (below_of (record b { state = new }))
  Writes-not_noted e (Ok x) failed w = absurd (never failed)
  Writes-not_noted {S} {T} {E} {T'} {E'} e (Err e') failed w =
      let r : Result T' E' = Err e' in
      let r' : Result T E = Err e in
      record {
        images = λ sound. refl;
        sizes = refl;
        steady = steady_same (disks_of b) 0 new b.state first w.steady;
        cause = HasOneCause_at (disks_of b) 0 new b.state first r (record { later = w.cause.later; failed = w.cause.failed }) (goes_err b.state new e e' w.goes);
        done = tt;
        failed = inl refl;
        stored = λ some. tt;
        left = stored_left e w;
        told = still_told r' w;
        still_armed = tt;
        spent = λ all. UsesOneTear_at (disks_of b) 0 new b.state first (w.spent (steady_at (disks_of b) 0 new b.state first all));
      }

  -- what is written on the disk
  pub Writes-note : {T E : Type 0} (x : T) → Writes {E = E} b.state 1 (note_block note) (Ok x) new → WritesNote {E = E} b note (Ok x) (record b { state = new; note = note })
  Writes-note x w = record { rest = refl; writes = w }

  pub Writes-no_note : {T E T' E' : Type 0} (e : E) (r : Result T' E') → IsErr r → Writes {T = T} b.state 1 (note_block note) (Err e) new → WritesNote b note r (record b { state = new })
  Writes-no_note e (Ok x) failed w = absurd (never failed)
  Writes-no_note e (Err e') failed w = record {
    rest = refl;
    writes = writes_err b.state new 1 (note_block note) e e' w;
  }
