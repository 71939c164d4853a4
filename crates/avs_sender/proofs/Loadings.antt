-- A sender is found on its parts.
use Rattle.std.proofs.Common.{◌≡◌, inl, inr, ℕ, ◌<◌, false, List, length, get_or, ◌∙◌, sym, refl, ap, subst, arith}
use Rattle.std.proofs.lemmas.List.{length-map, length-replicate, get_or_past}
use Rattle.std.proofs.lemmas.List.{get_or-map as within}
use Rattle.std.proofs.lemmas.Bool.{cases_lt}
use Rattle.avs_dev.specs.Seen.{IsTold}
use Rattle.avs_dev.specs.Below.{IsToldAt}
use Rattle.avs_bits.specs.BitSet.{IsInStep}
use Rattle.avs_mqueue.specs.Queue.{Queue}
use Rattle.avs_model.specs.declared.entry.Limits.{Limits}
use Rattle.avs_sync.specs.Note.{IsNote}
use Rattle.avs_sync.specs.Parts.{MirrorSet}
use Rattle.avs_sync.specs.declared.note.Note.{Note}
use Rattle.avs_sync.proofs.Notes.{note_at-is}
use Rattle.avs_halves.specs.SetBits.{SetBits, AreInStep, set_at, part_of, no_set, disk_at}
use Rattle.avs_halves.specs.Loading.{OpensSet}
use Rattle.avs_halves.specs.Over.{IsOver}
use Rattle.avs_halves.specs.Found.{part_at}
use Rattle.avs_halves.proofs.Lying.{loaded_count, loaded_over, loaded_part, loaded_set}
use Rattle.avs_sender.specs.Held.{SenderHalf, SenderParts, SetPlaces, held, parts_of}
use Rattle.avs_sender.specs.Kept.{IsKept, ArePlacesOf}
use Rattle.avs_sender.specs.Meaning.{no_places, sender_of, found_by, found_of}
use Rattle.avs_sender.specs.Places.{no_places_for}
use Rattle.avs_sender.specs.Loading.{IsLoadable, AreToldParts, OpensHalf, Loads, half_found}
use Rattle.avs_sender.proofs.Meanings.{found_is, zeros_are}

module _ (p : SenderParts) (limits : Limits) (n : Note) (sets : List SetBits) (places : List SetPlaces) (queue : Queue) (loadable : IsLoadable p) (is : IsNote p.below.note n) (o : OpensHalf p.below.sizes p.sets limits sets places queue) where
  h : SenderHalf
  h = half_found p.host p.land n sets places queue

  count : length sets ≡ length p.sets
  count = loaded_count p.below p.sets sets o.sets_are

  part_found : (set : ℕ) → part_at p.sets set ≡ part_of (set_at sets set)
  part_found set = loaded_part p.below p.sets sets o.sets_are set

  opened : (set : ℕ) → set < length sets → OpensSet p.below.sizes (part_of (set_at sets set)) (set_at sets set)
  opened set there = loaded_set p.below p.sets sets o.sets_are set there

  pub over : IsOver p.below sets
  over = loaded_over p.below p.sets sets o.sets_are loadable

  in_step : AreToldParts p → AreInStep sets
  in_step told = record { told = told_at; step = step_at }
    where
      told_at : (set : ℕ) → IsTold (disk_at sets set)
      told_at set = subst (λ (m : MirrorSet). IsTold m.bits) (part_found set) (told.bits set)

      step_at : (set : ℕ) → IsInStep (set_at sets set).bits
      step_at set = elim (cases_lt set (length sets)) [
        | inl there ↦ (opened set there).step (told_at set)
        | inr behind ↦ subst (λ (s : SetBits). IsInStep s.bits) (sym (get_or_past sets set no_set behind)) (record { each = λ s low. absurd (none s low) })
      ]
        where
          none : (s : ℕ) → s < 0 → ⊥
          none s low = omega arith

  -- a half that is found in logging is what is found of it
  found_same : found_of (sender_of (held p.below (half_found p.host p.land n sets places queue))) ≡ sender_of (held p.below (half_found p.host p.land n sets places queue))
  found_same = ap (λ due. record (sender_of (held p.below (half_found p.host p.land n sets places queue))) { due = due }) (zeros_are (half_found p.host p.land n sets places queue))

  parts_found : parts_of (held p.below (half_found p.host p.land n sets places queue)) ≡ p
  parts_found = ap (λ (l : List MirrorSet). record p { sets = l }) o.sets_are.as_found

  pub loads : (sound : Type 0) → Loads sound p limits (held p.below (half_found p.host p.land n sets places queue))
  loads sound = record {
    parts_are = parts_found;
    limits_are = o.memory.queue_is.limits_are;
    lie = over;
    note = is;
    session = refl;
    means = λ told. sym found_same
        ∙ sym (found_is p.below p.below (half_found p.host p.land n sets places queue) n refl refl refl refl (in_step told) over)
        ∙ ap (found_by n) parts_found
        ∙ ap (λ (m : Note). found_by m p) (sym (note_at-is p.below.note n is));
    step = λ s told. record {
      sound = s;
      stored = told.stored;
      note = is;
      volumes = λ set there. subst (λ (m : MirrorSet). IsToldAt p.below m.vol) (part_found set) (told.volumes set (omega (arith, there, count)));
      bits = in_step told;
    };
  }

  place_found : (set : ℕ) → set < length sets → get_or places set no_places ≡ no_places_for limits.writes (set_at sets set).bits.segs
  place_found set there = ap (λ (l : List SetPlaces). get_or l set no_places) o.memory.places_are ∙ within (λ (s : SetBits). no_places_for limits.writes s.bits.segs) sets set no_set no_places there

  pub kept : IsKept (half_found p.host p.land n sets places queue)
  kept = record {
    count = ap (λ (l : List SetPlaces). length l) o.memory.places_are ∙ length-map sets (λ s. no_places_for limits.writes s.bits.segs);
    few = omega (arith, count, loadable.few);
    slots = record {
      low = λ set there. subst (λ (m : MirrorSet). m.slot < 16) (part_found set) (loadable.own set (omega (arith, there, count))).slot;
      apart = λ set other there also same. (loadable.own set (omega (arith, there, count))).slots other (omega (arith, also, count)) (ap (λ (m : MirrorSet). m.slot) (part_found other) ∙ same ∙ ap (λ (m : MirrorSet). m.slot) (sym (part_found set)));
    };
    places = λ set there. subst (λ (q : SetPlaces). ArePlacesOf (set_at sets set) queue.limits.writes q) (sym (place_found set there)) (record {
      segs = length-replicate (set_at sets set).bits.segs 0;
      waiting = length-replicate (set_at sets set).bits.segs false;
      room = ap (λ (l : Limits). l.writes) (sym o.memory.queue_is.limits_are);
    });
    note = is.keeps;
    fits = is.fits;
    session = record {
      number = refl;
      reverse = refl;
      sender = refl;
      last = omega arith;
      known = omega arith;
      mark = is.keeps.mark;
      role = λ on. absurd (cc);
      acting = λ on. absurd (cc);
      idle = λ received. refl;
    };
    sends = λ on. absurd (cc);
    away = λ off. o.memory.queue_is.none;
  }
