-- What a sender lends of what lies below it.
use Rattle.std.specs.Prelude.{◌≡◌, ℕ, ◌<◌, Bool, true, List, length, Result, OnOk}
use Rattle.avs_dev.specs.Below.{BelowSeen, image_of, size_of}
use Rattle.avs_halves.specs.SetBits.{SetBits, set_at}
use Rattle.avs_sender.specs.Held.{SenderHeld, parts_of}
use Rattle.avs_sender.specs.Meaning.{IsSenderInStep, found_again, sender_of}

-- the note stays, and of each set the volume with its size and, where all was sound, its blocks; other volumes may change, come and
-- go. An answer of Ok leaves it sound
pub record KeepsSets (sound sound_new : Type 0) (ok : Bool) (sets : List SetBits) (old new : BelowSeen) : Type 0 where
  pub note : new.note ≡ old.note
  pub stored : new.stored ≡ old.stored
  pub there : (set : ℕ) → set < length sets → (set_at sets set).vol < length new.sizes
  pub sizes : (set : ℕ) → set < length sets → size_of new (set_at sets set).vol ≡ size_of old (set_at sets set).vol
  pub images : sound → (set : ℕ) → set < length sets → image_of new (set_at sets set).vol ≡ image_of old (set_at sets set).vol
  pub stays : ok ≡ true → sound → sound_new

-- the half stands for what it stood for, and a load of its parts finds what it found before
pub record Lends {T E : Type 0} (sound sound_new : Type 0) (old : SenderHeld) (result : Result T E) (new : SenderHeld) : Type 0 where
  pub half : new.half ≡ old.half
  pub same : sound → sender_of new ≡ sender_of old
  pub step : IsSenderInStep sound old → OnOk result (IsSenderInStep sound_new new)
  pub found : sound → found_again (parts_of new) ≡ found_again (parts_of old)
