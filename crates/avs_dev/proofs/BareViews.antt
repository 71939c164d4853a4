-- The same of disks of any type, which contracts see.
use Rattle.std.proofs.Common.{◌≡◌, ◌<◌, ℕ, suc, Bool, not, IsTrue, Some, List, length, map, set, get_or, slice_index_or, slice_set, Result, is_ok, refl, sym, ◌∙◌, ap, subst, arith}
use Rattle.std.proofs.lemmas.List.{get_or-map, map-set, set-get_or, length-map}
use Rattle.std.proofs.lemmas.Option.{slice_get-get_or}
use Rattle.avs_dev.specs.Seen.{Seen, IsRange, Reads, Writes, Arms, with_tear}
use Rattle.avs_dev.specs.declared.disk.Tear.{Tear}
use Rattle.avs_dev.specs.Below.{IsRangeOf, ReadsBelow, WritesBelow, size_of}
use Rattle.avs_dev.specs.Bare.{BareDisks, disks_of, volume_at, below_of, written_on, AddsBlocks, ReadsVolume, WritesVolume, ArmsBare, written_of}
use Rattle.avs_dev.proofs.BareCalls.{is_range, has_blocks, size_is, written_same, Reads-below, Reads-volume, Writes-below, Writes-volume, Writes-adds}

-- disks as contracts see them
abbrev pub seen_as : {A : Type 0} → (A → Seen) → A → List A → List ℕ → BareDisks
seen_as seen state volumes note = record { state = seen state; volumes = map seen volumes; note = note }

module _ {A : Type 0} (seen : A → Seen) (state : A) (volumes : List A) (note : List ℕ) (b : BareDisks) (view : seen_as seen state volumes note ≡ b) (vol : ℕ) (was : A) (value : was ≡ slice_index_or volumes vol was) (there : vol < length (map (λ (d : Seen). d.size) b.volumes)) where
  pub inside : vol < length b.volumes
  inside = omega (arith, length-map b.volumes (λ (d : Seen). d.size), there)

  volumes_are : map seen volumes ≡ b.volumes
  volumes_are = ap (λ (x : BareDisks). x.volumes) view

  inside_volumes : vol < length volumes
  inside_volumes = omega (arith, length-map volumes seen, ap (λ (l : List Seen). length l) volumes_are, inside)

  pub was_is : seen was ≡ volume_at b vol
  was_is = ap seen value ∙ sym (get_or-map seen volumes vol was b.state inside_volumes) ∙ ap (λ (l : List Seen). slice_index_or l vol b.state) volumes_are

  pub size_seen : (seen was).size ≡ size_of (below_of b) vol
  size_seen = ap (λ (d : Seen). d.size) was_is ∙ sym (size_is b vol inside)

  pub range_seen : (at len : ℕ) → IsRangeOf (below_of b) vol at len → IsRange (seen was) at len
  range_seen at len r = subst (λ (d : Seen). IsRange d at len) (sym was_is) (is_range b vol inside at len r)

  module _ (new : A) where
    after_is : record b { volumes = slice_set b.volumes vol (seen new) } ≡ seen_as seen state (set volumes vol new) note
    after_is =
        ap (λ (x : BareDisks). record x { volumes = slice_set x.volumes vol (seen new) }) (sym view)
        ∙ ap (λ (l : List Seen). record (seen_as seen state volumes note) { volumes = l }) (sym (map-set seen volumes vol new))

    module _ {T E : Type 0} {len : ℕ} (at : ℕ) (bytes : List ℕ) (result : Result T E) (range : IsRangeOf (below_of b) vol at len) where
      some : 0 < (volume_at b vol).size
      some = has_blocks b vol inside at len range

      reads_was : Reads (seen was) at bytes result (seen new) → Reads (volume_at b vol) at bytes result (seen new)
      reads_was r = subst (λ (d : Seen). Reads d at bytes result (seen new)) was_is r

      pub reads_below : {S : Type 0} → Reads (seen was) at bytes result (seen new) → ReadsBelow S (below_of b) vol at bytes result (below_of (seen_as seen state (set volumes vol new) note))
      reads_below {S} r = subst (λ (x : BareDisks). ReadsBelow S (below_of b) vol at bytes result (below_of x)) after_is (Reads-below b vol at bytes result (seen new) inside some (reads_was r))

      pub reads_rest : Reads (seen was) at bytes result (seen new) → written_on (seen_as seen state (set volumes vol new) note) ≡ written_on b
      reads_rest r = subst (λ (x : BareDisks). written_on x ≡ written_on b) after_is (written_same b vol (seen new) inside (ap (λ (d : Seen). d.written) (reads_was r).rest))

      pub reads_volume : Reads (seen was) at bytes result (seen new) → ReadsVolume b vol at bytes result (seen_as seen state (set volumes vol new) note)
      reads_volume r = subst (λ (x : BareDisks). ReadsVolume b vol at bytes result x) after_is (Reads-volume b vol at bytes result (seen new) inside some (reads_was r))

      writes_was : Writes (seen was) at bytes result (seen new) → Writes (volume_at b vol) at bytes result (seen new)
      writes_was w = subst (λ (d : Seen). Writes d at bytes result (seen new)) was_is w

      pub writes_below : {S : Type 0} → Writes (seen was) at bytes result (seen new) → WritesBelow S (below_of b) vol at bytes result (below_of (seen_as seen state (set volumes vol new) note))
      writes_below {S} w = subst (λ (x : BareDisks). WritesBelow S (below_of b) vol at bytes result (below_of x)) after_is (Writes-below b vol at bytes result (seen new) inside some (writes_was w))

      pub writes_rest : Writes (seen was) at bytes result (seen new) → AddsBlocks (written_on b) vol at bytes (is_ok result) (written_on (seen_as seen state (set volumes vol new) note))
      writes_rest w = subst (λ (x : BareDisks). AddsBlocks (written_on b) vol at bytes (is_ok result) (written_on x)) after_is (Writes-adds b vol at bytes result (seen new) inside (writes_was w))

      pub writes_volume : Writes (seen was) at bytes result (seen new) → WritesVolume b vol at bytes result (seen_as seen state (set volumes vol new) note)
      writes_volume w = subst (λ (x : BareDisks). WritesVolume b vol at bytes result x) after_is (Writes-volume b vol at bytes result (seen new) inside some (writes_was w))

-- ---- a disk by its number, of which the state disk has 0

module _ {A : Type 0} (seen : A → Seen) (state : A) (volumes : List A) (note : List ℕ) (b : BareDisks) (view : seen_as seen state volumes note ≡ b) (place : ℕ) (was : A) (value : was ≡ slice_index_or volumes place was) (lt : place < length volumes) where
  there_seen : place < length (map (λ (d : Seen). d.size) b.volumes)
  there_seen = omega (arith, length-map b.volumes (λ (d : Seen). d.size), ap (λ (x : BareDisks). length x.volumes) view, length-map volumes seen, lt)

  inside_seen : place < length b.volumes
  inside_seen = inside seen state volumes note b view place was value there_seen

  is_seen : seen was ≡ volume_at b place
  is_seen = was_is seen state volumes note b view place was value there_seen

  pub written_seen : (n disk : ℕ) → n ≡ (seen was).written → disk ≡ suc place → Some n ≡ written_of b disk
  written_seen n disk is at =
      let written : List ℕ = map (λ (d : Seen). d.written) b.volumes in
      let lt' : place < length written = omega (arith, length-map b.volumes (λ (d : Seen). d.written), inside_seen) in
      let same : n ≡ get_or written place 0 = is ∙ ap (λ (d : Seen). d.written) is_seen ∙ sym (get_or-map (λ (d : Seen). d.written) b.volumes place b.state 0 inside_seen) in
      ap (λ (k : ℕ). Some k) same ∙ sym (slice_get-get_or written place 0 lt') ∙ ap (λ (k : ℕ). written_of b k) (sym at)

  module _ (new : A) (tear : Tear) (result : Bool) (arms : Arms (seen was) tear result (seen new)) (sure : IsTrue (seen was).steady → IsTrue result) where
    armed_is : IsTrue result → seen new ≡ with_tear tear (volume_at b place)
    armed_is so = arms.armed so ∙ ap (λ (d : Seen). with_tear tear d) is_seen

    unarmed_is : IsTrue (not result) → record b { volumes = slice_set b.volumes place (seen new) } ≡ b
    unarmed_is not_so =
        ap (λ (d : Seen). record b { volumes = slice_set b.volumes place d }) (arms.unarmed not_so ∙ is_seen)
        ∙ ap (λ (l : List Seen). record b { volumes = l }) (set-get_or b.volumes place b.state)

    arms_place : ArmsBare b (suc place) tear result (record b { volumes = slice_set b.volumes place (seen new) })
    arms_place = record {
      there = λ so. omega (arith, inside_seen);
      answer = λ lt. arms.answer ∙ ap (λ (d : Seen). d.arms) is_seen;
      armed = λ so. ap (λ (d : Seen). slice_set (disks_of b) (suc place) d) (armed_is so);
      unarmed = unarmed_is;
      note = refl;
      sure = λ lt steady. sure (ap (λ (d : Seen). d.steady) is_seen ∙ steady);
    }

    pub arms_seen : (disk : ℕ) → disk ≡ suc place → ArmsBare b disk tear result (seen_as seen state (set volumes place new) note)
    arms_seen disk at =
        subst (λ (k : ℕ). ArmsBare b k tear result (seen_as seen state (set volumes place new) note)) (sym at)
        (subst (λ (x : BareDisks). ArmsBare b (suc place) tear result x) (after_is seen state volumes note b view place was value there_seen new) arms_place)
