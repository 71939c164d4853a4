-- What stands of the four disks after a call.
use Rattle.std.proofs.Common.{◌≡◌, ◌≢◌, ◌⊎◌, inl, inr, Result, refl}
use Rattle.avs_dev.specs.Seen.{Seen, GoesOn}
use Rattle.avs_dev.specs.Devices.{AllGoOn}
use Rattle.avs_dev.proofs.Going.{all_go}
use Rattle.avs_compact.specs.Disks.{CompactDisk, Master, Shadow, Bitmap, Over, four}

-- a name is another or the same
master_or : (d : CompactDisk) → (d ≡ Master) ⊎ (d ≢ Master)
master_or Master = inl refl
master_or Shadow = inr (λ e. cc)
master_or Bitmap = inr (λ e. cc)
master_or Over = inr (λ e. cc)

shadow_or : (d : CompactDisk) → (d ≡ Shadow) ⊎ (d ≢ Shadow)
shadow_or Master = inr (λ e. cc)
shadow_or Shadow = inl refl
shadow_or Bitmap = inr (λ e. cc)
shadow_or Over = inr (λ e. cc)

bitmap_or : (d : CompactDisk) → (d ≡ Bitmap) ⊎ (d ≢ Bitmap)
bitmap_or Master = inr (λ e. cc)
bitmap_or Shadow = inr (λ e. cc)
bitmap_or Bitmap = inl refl
bitmap_or Over = inr (λ e. cc)

over_or : (d : CompactDisk) → (d ≡ Over) ⊎ (d ≢ Over)
over_or Master = inr (λ e. cc)
over_or Shadow = inr (λ e. cc)
over_or Bitmap = inr (λ e. cc)
over_or Over = inl refl

-- one of the disks alone
pub master_goes : {T E : Type 0} (m m' s b o : Seen) (r : Result T E) → GoesOn m r m' → AllGoOn (four m s b o) r (four m' s b o)
master_goes m m' s b o r g = all_go (four m s b o) (four m' s b o) Master master_or (λ d ne. other d ne) r g
  where
    other : (d : CompactDisk) → d ≢ Master → four m' s b o d ≡ four m s b o d
    other Master ne = absurd (ne refl)
    other Shadow ne = refl
    other Bitmap ne = refl
    other Over ne = refl

pub shadow_goes : {T E : Type 0} (m s s' b o : Seen) (r : Result T E) → GoesOn s r s' → AllGoOn (four m s b o) r (four m s' b o)
shadow_goes m s s' b o r g = all_go (four m s b o) (four m s' b o) Shadow shadow_or (λ d ne. other d ne) r g
  where
    other : (d : CompactDisk) → d ≢ Shadow → four m s' b o d ≡ four m s b o d
    other Master ne = refl
    other Shadow ne = absurd (ne refl)
    other Bitmap ne = refl
    other Over ne = refl

pub over_goes : {T E : Type 0} (m s b o o' : Seen) (r : Result T E) → GoesOn o r o' → AllGoOn (four m s b o) r (four m s b o')
over_goes m s b o o' r g = all_go (four m s b o) (four m s b o') Over over_or (λ d ne. other d ne) r g
  where
    other : (d : CompactDisk) → d ≢ Over → four m s b o' d ≡ four m s b o d
    other Master ne = refl
    other Shadow ne = refl
    other Bitmap ne = refl
    other Over ne = absurd (ne refl)

pub bitmap_goes : {T E : Type 0} (m s b b' o : Seen) (r : Result T E) → GoesOn b r b' → AllGoOn (four m s b o) r (four m s b' o)
bitmap_goes m s b b' o r g = all_go (four m s b o) (four m s b' o) Bitmap bitmap_or (λ d ne. other d ne) r g
  where
    other : (d : CompactDisk) → d ≢ Bitmap → four m s b' o d ≡ four m s b o d
    other Master ne = refl
    other Shadow ne = refl
    other Bitmap ne = absurd (ne refl)
    other Over ne = refl
