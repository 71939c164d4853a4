-- What a sender stands for, and what is found of it.
use Rattle.std.proofs.Common.{◌≡◌, ℕ, Bool, true, false, ◌&&◌, cond, List, [], length, map, get_or, Option, None, Some, ◌∙◌, sym, refl, ap}
use Rattle.std.specs.Prelude.{nat_lt}
use Rattle.std.specs.Option.{option_map_or}
use Rattle.std.proofs.Math.Path.{fun_ext}
use Rattle.avs_seg.specs.Image.{Image}
use Rattle.avs_dev.specs.Below.{BelowSeen}
use Rattle.avs_mirrors.specs.Entries.{Images}
use Rattle.avs_mirrors.specs.Due.{Due, zero_of, zeros}
use Rattle.avs_mirrors.specs.Half.{Logging, no_sets}
use Rattle.avs_sync.specs.Note.{IsNote, note_at}
use Rattle.avs_sync.specs.declared.note.Note.{Note}
use Rattle.avs_sync.proofs.Notes.{note_at-is}
use Rattle.avs_halves.specs.SetBits.{SetBits, AreInStep, set_at, has_bit, part_of}
use Rattle.avs_halves.specs.Over.{IsOver}
use Rattle.avs_halves.specs.Found.{due_found, is_filled, stored_bytes}
use Rattle.avs_halves.proofs.Lying.{found_bit, part_is, there_is}
use Rattle.avs_sender.specs.Held.{SenderHalf, held, parts_of}
use Rattle.avs_sender.specs.Meaning.{freeing_place, places_at, due_of, found_by, found_of, sender_of}

-- ---- what is due of a half that left

zero_one : (b : Bool) (k : ℕ) → zero_of (cond b (Some k) None) ≡ cond b (Some 0) None
zero_one true k = refl
zero_one false k = refl

-- each segment with a bit has place 0
abbrev pub bits_due : List SetBits → Due
bits_due sets set seg = cond (has_bit (set_at sets set) seg) (Some 0) None

pub zeros_are : (h : SenderHalf) → zeros (due_of h) ≡ bits_due h.sets
zeros_are h = fun_ext (λ set. fun_ext (λ seg. zero_one (has_bit (set_at h.sets set) seg) (freeing_place h.session (places_at h set) seg)))

-- ---- images, where those below are the same

abbrev pub images_in : List SetBits → List Image → Images
images_in sets images set = cond (nat_lt set (length sets)) (get_or images (set_at sets set).vol []) []

pub same_images : (sets : List SetBits) (a b : List Image) → a ≡ b → images_in sets a ≡ images_in sets b
same_images sets a b same = ap (images_in sets) same

-- ---- what is found

-- the note on the disk of a half in step
pub again_is : (below : BelowSeen) (bytes : List ℕ) (n : Note) → below.stored ≡ Some bytes → IsNote bytes n → note_at (stored_bytes below) ≡ n
again_is below bytes n stored is = ap (λ (o : Option (List ℕ)). note_at (option_map_or (λ (b : List ℕ). b) o below.note)) stored ∙ note_at-is bytes n is

-- a half is found as it was, but that it has left, where its note is that of the half
pub found_is : (below new : BelowSeen) (h : SenderHalf) (n : Note) → n.session ≡ h.session.number → n.role ≡ h.note.role → n.empty ≡ h.note.empty → new.images ≡ below.images → AreInStep h.sets → IsOver new h.sets
    → found_by n (parts_of (held new h)) ≡ found_of (sender_of (held below h))
found_is below new h n number role empty images step over = λ i. record {
  on = λ set. there_is h.sets set i;
  here = λ set. there_is h.sets set i;
  contents = λ set. there_is h.sets set i && is_filled (empty i) (part_is h.sets set i).slot;
  images = λ set. cond (there_is h.sets set i) (get_or (images i) (part_is h.sets set i).vol []) [];
  number = number i;
  role = role i;
  state = Logging;
  last = 0;
  known = 0;
  taken = 0;
  applied = 0;
  due = due i;
  held = [];
  kept = no_sets;
}
  where
    due : due_found new (map part_of h.sets) ≡ zeros (due_of h)
    due = fun_ext (λ set. fun_ext (λ seg. ap (λ (b : Bool). cond b (Some 0) None) (found_bit new h.sets step over set seg))) ∙ sym (zeros_are h)
