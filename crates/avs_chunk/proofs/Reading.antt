-- Reads of the shadow, part by part.
use Rattle.std.proofs.Common.{◌≡◌, ◌≢◌, inl, inr, ℕ, ◌+◌, ◌/◌, ◌<◌, ◌≤◌, Bool, true, false, eqb, List, length, Option, is_some, Result, Ok, Err, OnOk, refl, sym, ◌∙◌, ap, subst, arith}
use Rattle.std.proofs.lemmas.Bool.{false≢true, eqb-true, eq-eqb}
use Rattle.avs_seg.specs.Image.{range, blocks_of}
use Rattle.avs_dev.specs.Seen.{Seen, IsTold, Reads}
use Rattle.avs_flip.specs.Areas.{live}
use Rattle.avs_chunk.specs.ChunkSet.{ChunkSet, shadow_by, disk_of, state_of, chunks_of, shadow_image, IsInStep, IsKnown, IsOnePlace}
use Rattle.avs_dev.proofs.Going.{spared_same, spared_is}
use Rattle.avs_chunk.specs.Disks.{AreSameDisks, AreStillArmed, HasCauses}
use Rattle.avs_chunk.specs.Steps.{ReadsOne}
use Rattle.avs_chunk.specs.Calls.{disks_of, ReadsShadow}
use Rattle.avs_chunk.proofs.SameDisks.{IsSameDisk-same, IsSameDisk-is, IsSameDisk-faults}
use Rattle.avs_chunk.proofs.Images.{range_alone, range_there}
use Rattle.avs_chunk.proofs.Chains.{AreSameDisks-same, AreSameDisks-then, AreSteady-still, AreStillArmed-then, HasCauses-then}

-- what reads that answered Ok leave
pub record ReadsSoFar (a : ChunkSet) (m : Seen) (b : ChunkSet) (m' : Seen) : Type 0 where
  pub rest : b ≡ record a { shadow = b.shadow }
  pub there : is_some b.shadow ≡ is_some a.shadow
  pub shadow : disk_of b.shadow ≡ record (disk_of a.shadow) { faults = (disk_of b.shadow).faults }
  pub master : m' ≡ record m { faults = m'.faults }
  pub disks : AreSameDisks (disks_of a m) (disks_of b m')
  pub spared : AreStillArmed (disks_of a m) (disks_of b m')

pub ReadsSoFar-none : (a : ChunkSet) (m : Seen) → ReadsSoFar a m a m
ReadsSoFar-none a m = record { rest = refl; there = refl; shadow = refl; master = refl; disks = AreSameDisks-same (disks_of a m); spared = record { master = spared_same m; shadow = spared_same (disk_of a.shadow); bitmap = spared_same a.areas.disk } }

module _ (a : ChunkSet) (m : Seen) (b : ChunkSet) (m' : Seen) (p : ReadsSoFar a m b m') where
  pub still_armed : AreStillArmed (disks_of a m) (disks_of b m')
  still_armed = p.spared

  pub same_shown : shadow_image b m'.image ≡ shadow_image a m.image
  same_shown =
      ap (λ (s : ChunkSet). shadow_by s.blocks (live s.areas) (disk_of b.shadow).image m'.image) p.rest
      ∙ ap (λ (d : Seen). shadow_by a.blocks (live a.areas) d.image m'.image) p.shadow
      ∙ ap (λ (d : Seen). shadow_by a.blocks (live a.areas) (disk_of a.shadow).image d.image) p.master

  pub still_known : IsKnown a → IsKnown b
  still_known known = record {
    shadow = p.disks.shadow.told known.shadow;
    bitmap = p.disks.bitmap.told known.bitmap;
    step = subst (λ (s : ChunkSet). IsInStep s) (sym p.rest) (record { each = known.step.each });
  }

  pub SoFar-then : {S F : Type 0} (x : S) (s : ChunkSet) (m'' : Seen) (at : ℕ) (out : List ℕ) → ReadsShadow {E = F} b m' at out (Ok x) s m'' → ReadsSoFar a m s m''
  SoFar-then x s m'' at out q = record {
    rest = q.rest ∙ ap (λ (t : ChunkSet). record t { shadow = s.shadow }) p.rest;
    there = q.there ∙ p.there;
    shadow = q.shadow ∙ ap (λ (d : Seen). record d { faults = (disk_of s.shadow).faults }) p.shadow;
    master = q.master ∙ ap (λ (d : Seen). record d { faults = m''.faults }) p.master;
    disks = AreSameDisks-then (disks_of a m) (disks_of b m') (disks_of s m'') p.disks q.disks;
    spared = AreStillArmed-then (disks_of a m) (disks_of b m') (disks_of s m'') p.spared q.causes.armed;
  }

  -- a part failed
  pub ReadsShadow-failed : {T F : Type 0} (y : F) (s : ChunkSet) (m'' : Seen) (at at' : ℕ) (out out' : List ℕ) → ReadsShadow {T = T} b m' at' out' (Err y) s m'' → ReadsShadow {T = T} a m at out (Err y) s m''
  ReadsShadow-failed y s m'' at at' out out' q = record {
    rest = q.rest ∙ ap (λ (t : ChunkSet). record t { shadow = s.shadow }) p.rest;
    there = q.there ∙ p.there;
    shadow = q.shadow ∙ ap (λ (d : Seen). record d { faults = (disk_of s.shadow).faults }) p.shadow;
    master = q.master ∙ ap (λ (d : Seen). record d { faults = m''.faults }) p.master;
    disks = AreSameDisks-then (disks_of a m) (disks_of b m') (disks_of s m'') p.disks q.disks;
    causes = HasCauses-then (disks_of a m) (disks_of b m') (disks_of s m'') (Err y) p.disks still_armed q.causes;
    sure = λ steady. q.sure (AreSteady-still (disks_of a m) (disks_of b m') p.disks steady);
    shows = λ _ _. tt;
  }

  -- all parts are there
  pub ReadsShadow-done : {T E : Type 0} (x : T) (at : ℕ) (out : List ℕ) → (IsKnown a → IsTold m → blocks_of out ≡ range (shadow_image a m.image) at (length out / 512)) → ReadsShadow {E = E} a m at out (Ok x) b m'
  ReadsShadow-done x at out shown = record {
    rest = p.rest;
    there = p.there;
    shadow = p.shadow;
    master = p.master;
    disks = p.disks;
    causes = record { failed = tt; armed = still_armed; used = λ _. tt };
    sure = λ _. refl;
    shows = shown;
  }

-- ---- one part

module _ (a : ChunkSet) (m m' : Seen) (X : Option Seen) (at : ℕ) (out : List ℕ) (fits : at + length out / 512 ≤ a.blocks)
    (still : is_some X ≡ is_some a.shadow) (one : IsOnePlace a at (length out / 512)) where
  abbrev pub after_read : ChunkSet
  after_read = record a { shadow = X }

  not_zero : (k : ℕ) → eqb k 0 ≡ false → k ≢ 0
  not_zero k away is = false≢true (sym away ∙ eq-eqb k 0 is)

  inside : (i : ℕ) → i < length out / 512 → (at + i) / 64 < chunks_of a
  inside i lt = omega arith

  from_master : {T E : Type 0} (r : Result T E) → eqb (state_of a (at / 64)) 0 ≡ true → disk_of X ≡ disk_of a.shadow → Reads m at out r m' → ReadsShadow a m at out r after_read m'
  from_master r alone same q = record {
    rest = refl;
    there = still;
    shadow = same ∙ ap (λ (n : ℕ). record (disk_of a.shadow) { faults = n }) (sym (ap (λ (d : Seen). d.faults) same));
    master = q.rest;
    disks = record { master = IsSameDisk-faults m m' q.rest q.cause.later; shadow = IsSameDisk-is (disk_of a.shadow) (disk_of X) same; bitmap = IsSameDisk-same a.areas.disk };
    causes = causes r q;
    sure = λ steady. q.sure steady.master;
    shows = λ known told. shows r known (q.shows told);
  }
    where
      causes : {T E : Type 0} (r : Result T E) → Reads m at out r m' → HasCauses (disks_of a m) r (disks_of after_read m')
      causes (Ok x) h = record { failed = tt; armed = record { master = h.goes.done; shadow = spared_is same; bitmap = spared_same a.areas.disk }; used = λ _. tt }
      causes (Err y) h = record { failed = inl h.cause.failed; armed = tt; used = λ steady. absurd (false≢true (h.sure steady.master)) }

      shows : {T E : Type 0} (r : Result T E) → IsKnown a → OnOk r (blocks_of out ≡ range m.image at (length out / 512)) → OnOk r (blocks_of out ≡ range (shadow_image a m.image) at (length out / 512))
      shows (Ok x) known shown = shown ∙ range_alone a.blocks (live a.areas) m.image (disk_of a.shadow).image at (length out / 512) fits (λ i lt. sym (known.step.each ((at + i) / 64) (inside i lt)) ∙ eqb-true (state_of a ((at + i) / 64)) 0 (one.same i lt ∙ alone))
      shows (Err y) known shown = tt

  from_shadow : {T E : Type 0} (r : Result T E) → eqb (state_of a (at / 64)) 0 ≡ false → m' ≡ m → Reads (disk_of a.shadow) at out r (disk_of X) → ReadsShadow a m at out r after_read m'
  from_shadow r away same q = record {
    rest = refl;
    there = still;
    shadow = q.rest;
    master = same ∙ ap (λ (n : ℕ). record m { faults = n }) (sym (ap (λ (d : Seen). d.faults) same));
    disks = record { master = IsSameDisk-is m m' same; shadow = IsSameDisk-faults (disk_of a.shadow) (disk_of X) q.rest q.cause.later; bitmap = IsSameDisk-same a.areas.disk };
    causes = causes r q;
    sure = λ steady. q.sure steady.shadow;
    shows = λ known told. shows r known (q.shows known.shadow);
  }
    where
      causes : {T E : Type 0} (r : Result T E) → Reads (disk_of a.shadow) at out r (disk_of X) → HasCauses (disks_of a m) r (disks_of after_read m')
      causes (Ok x) h = record { failed = tt; armed = record { master = spared_is same; shadow = h.goes.done; bitmap = spared_same a.areas.disk }; used = λ _. tt }
      causes (Err y) h = record { failed = inr (inl h.cause.failed); armed = tt; used = λ steady. absurd (false≢true (h.sure steady.shadow)) }

      shows : {T E : Type 0} (r : Result T E) → IsKnown a → OnOk r (blocks_of out ≡ range (disk_of a.shadow).image at (length out / 512)) → OnOk r (blocks_of out ≡ range (shadow_image a m.image) at (length out / 512))
      shows (Ok x) known shown = shown ∙ range_there a.blocks (live a.areas) m.image (disk_of a.shadow).image at (length out / 512) fits (λ i lt zero. not_zero (state_of a ((at + i) / 64)) (one.same i lt ∙ away) (known.step.each ((at + i) / 64) (inside i lt) ∙ zero))
      shows (Err y) known shown = tt

  pub ReadsShadow-one : {T E : Type 0} (alone : Bool) (r : Result T E) → alone ≡ eqb (state_of a (at / 64)) 0 → ReadsOne alone m (disk_of a.shadow) at out r m' (disk_of X) → ReadsShadow a m at out r after_read m'
  ReadsShadow-one true r is q = from_master r (sym is) (q.shadow_rest refl) (q.from_master refl)
  ReadsShadow-one false r is q = from_shadow r (sym is) (q.master_rest refl) (q.from_shadow refl)
