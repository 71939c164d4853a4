-- Reads of the shadow of one set.
use Rattle.std.proofs.Common.{◌≡◌, inl, inr, ℕ, ◌/◌, ◌<◌, Bool, true, false, ◌&&◌, IsTrue, is_some, Option, None, Some, List, [], length, set, Result, Ok, ◌∙◌, sym, refl, ap, subst, arith}
use Rattle.std.specs.Option.{option_map_or}
use Rattle.std.proofs.lemmas.Bool.{cases_eq}
use Rattle.std.proofs.lemmas.Result.{on_ok_weaker}
use Rattle.std.proofs.lemmas.List.{get_or-set_same, get_or-set_other, length-set}
use Rattle.avs_seg.specs.Image.{Image, block_at, range}
use Rattle.avs_dev.specs.Seen.{Seen, IsTold}
use Rattle.avs_model.specs.ShadowSets.{Standing, Online, Offline, Exported, ShadowState, is_online, is_exported}
use Rattle.avs_model.specs.GroupStates.{shadow_image}
use Rattle.avs_over.specs.Over.{OverSet, slots}
use Rattle.avs_sets.specs.Says.{BlockSays}
use Rattle.avs_sets.specs.Sets.{SetSeen, no_set, chunks_of}
use Rattle.avs_sets.specs.Meaning.{set_of, disk_in, image_in, over_disk, is_enabled, standing_of, read, shadow_over, set_by, contents_by, behind_of, meaning}
use Rattle.avs_sets.specs.Whole.{AreSame, IsStep, IsInStep, IsWhole, IsSettled}
use Rattle.avs_sets.specs.Owners.{EndsThere, OwnsPlaces, IsServed}
use Rattle.avs_sets.specs.Steps.{KeepsRest, IsKnown, ShowsSame, read_over}
use Rattle.avs_sets.proofs.Putting.{find_set}
use Rattle.avs_held.specs.Rooms.{owners_of, Mine, on_disks, KeepsOwned}
use Rattle.avs_held.specs.Calls.{ReadsShadow}
use Rattle.avs_held.proofs.Grouped.{set_stays}
use Rattle.avs_group.specs.Group.{Group, IsKeptGroup, over_disks, over_at, group_of}
use Rattle.avs_group.specs.Named.{IsNamedAt}
use Rattle.avs_group.specs.Reads.{ReadsImage, ReadsSet}
use Rattle.avs_group.proofs.Exits.{does_ok}
use Rattle.avs_group.proofs.OneSet.{with_one, none_same, only_v, now_m, only_o, was_o, owns, one_labels, one_kept}

module _ (old : Group) (inv : IsKeptGroup old) (k : ℕ) (lt : k < length old.sets) (s' : SetSeen) (m' : Seen) (live : is_enabled (group_of old).memory (set_of old.sets k) ≡ true)
    (at : ℕ) (out : List ℕ) {T E : Type 0} (r : Result T E)
    (a : ReadsShadow (on_disks (set_of old.sets k) (disk_in old.volumes (set_of old.sets k).master) (over_at old.overs (set_of old.sets k).over)) at out r
    (on_disks s' m' (over_at old.overs (set_of old.sets k).over))) where
  abbrev s : SetSeen
  s = set_of old.sets k

  abbrev over : OverSet
  over = over_at old.overs (set_of old.sets k).over

  -- of the set only the shadow's disk changes
  only_shadow : (P : SetSeen → Type 0) → P (record (set_of old.sets k) { shadow = s'.shadow }) → P s'
  only_shadow P is = subst P (sym a.reads.rest) is

  keeps : KeepsOwned (on_disks s (disk_in old.volumes s.master) over) (on_disks s' m' over)
  keeps = record {
    served = λ owned served. only_shadow (λ t. IsServed (slots over) t) (record { each = served.each });
    owned = λ owned. only_shadow (λ t. OwnsPlaces (owners_of over) t) (record { apart = owned.apart; taken = owned.taken });
    takes = record { each = λ slot. inl refl };
    label = λ owned told. refl;
  }

  rest : KeepsRest s (over_disk (over_disks old.overs) s.over) s' (over_disk (over_disks old.overs) s.over)
  rest = record {
    there = a.reads.there;
    settled = λ settled. only_shadow (λ t. IsSettled t) (record { kind = settled.kind; each = settled.each });
    label = λ told. ap (λ (t : SetSeen). block_at t.bitmap.image 0) a.reads.rest;
    over_label = λ told. refl;
  }

  shows_same : ShowsSame (group_of old).says (Mine s over) s (disk_in old.volumes s.master) (over_disk (over_disks old.overs) s.over) r s'
      (disk_in (with_one old k s' m').volumes s.master) (over_disk (over_disks old.overs) s.over)
  shows_same = subst (λ (x : Seen). ShowsSame (group_of old).says (Mine s over) s (disk_in old.volumes s.master) x r s' (disk_in (with_one old k s' m').volumes s.master) x) (was_o old inv k lt s' m')
      (subst (λ (x : Seen). ShowsSame (group_of old).says (Mine s over) s (disk_in old.volumes s.master) over.disk r s' x over.disk) (now_m old inv k lt s' m')
      (a.step (owns old inv k lt s' m' live) (group_of old).says))

  step_now : IsInStep (group_of old) → IsInStep (group_of (with_one old k s' m'))
  step_now i = record {
    block = i.block;
    each = λ j l. elim (cases_eq j k) [
      | inl is ↦ subst (λ (t : SetSeen). IsStep (group_of old).memory t) (sym (ap (λ (n : ℕ). set_of (set old.sets k s') n) is ∙ get_or-set_same old.sets k s' no_set lt))
          (only_shadow (λ t. IsStep (group_of old).memory t) (record { area = (i.each k lt).area; chunks = (i.each k lt).chunks }))
      | inr ne ↦ subst (λ (t : SetSeen). IsStep (group_of old).memory t) (sym (get_or-set_other old.sets k j s' no_set ne)) (i.each j (omega (arith, l, length-set old.sets k s')))
    ];
  }

  over_told : IsWhole (group_of old) → (x : Option ℕ) → IsTold (over_disk (over_disks old.overs) x)
  over_told w None = refl
  over_told w (Some o) = w.disks.overs_told o

  step_of : IsInStep (group_of old) → IsStep (group_of old).says s
  step_of i = subst (λ (b : BlockSays). IsStep b s) i.block (i.each k lt)

  live_of : IsInStep (group_of old) → is_enabled (group_of old).says s ≡ true
  live_of i = subst (λ (b : BlockSays). is_enabled b s ≡ true) i.block live

  known : IsWhole (group_of old) → IsInStep (group_of old) → IsKnown (group_of old).says s (disk_in old.volumes s.master) over.disk
  known w i = record {
    master = w.disks.volumes_told s.master;
    shadow = (w.disks.each k lt).shadow;
    bitmap = (w.disks.each k lt).bitmap;
    over_told = subst (λ (d : Seen). IsTold d) (sym (was_o old inv k lt s' m')) (over_told w s.over);
    area = (step_of i).area (live_of i);
    chunks = subst (λ (b : Bool). AreSame (s.area b) s.memory (chunks_of s)) ((step_of i).area (live_of i)) ((step_of i).chunks (live_of i));
  }

  pub reads_set : ReadsSet old k at out r (with_one old k s' m')
  reads_set = record {
    reads = record {
      does = record {
        goes = set_stays (group_of old) inv.kept k lt over (was_o old inv k lt s' m') (on_disks s' m' over) (with_one old k s' m').volumes (over_disks old.overs) (only_v old inv k lt s' m') (only_o old inv k lt s' m')
            (now_m old inv k lt s' m') (was_o old inv k lt s' m') live (inv.slots.owned s.over) keeps r a.step;
        labels = one_labels old inv k lt s' m' (Mine s over) r shows_same.keeps rest;
        state = λ is. is;
      };
      same = on_ok_weaker r (λ is. none_same old inv k lt s' m' is) a.same;
      state = refl;
      step = step_now;
    };
    shows = λ w i. on_ok_weaker r (λ is. is ∙ ap (λ (d : Seen). range (shadow_over (read_over (group_of old).says s d) (image_in old.volumes s.master)) at (length out / 512)) (was_o old inv k lt s' m'))
        (a.shows (group_of old).says (known w i));
  }

  pub reads_kept : EndsThere s' → IsKeptGroup (with_one old k s' m')
  reads_kept ends = one_kept old inv k lt s' m' (Mine s over) r shows_same.keeps rest ends
      (keeps.owned (owns old inv k lt s' m' live)) (keeps.served (owns old inv k lt s' m' live) (inv.slots.served k lt))

-- the image of the shadow of a slot, of a set that is online
never : false ≡ true → ⊥
never e = cc

online_image : (standing : Standing) (image behind : Image) → is_online standing ≡ true → (contents_by standing image behind).image ≡ image
online_image Online image behind on = refl
online_image (Offline need given) image behind on = absurd (never on)
online_image (Exported stamp) image behind on = absurd (never on)

pub shadow_is : (old : Group) → IsKeptGroup old → (k : ℕ) → k < length old.sets → is_enabled (group_of old).says (set_of old.sets k) ≡ true → is_online (standing_of (group_of old).says (set_of old.sets k)) ≡ true
    → shadow_image (meaning (group_of old)) (set_of old.sets k).slot
    ≡ shadow_over (read (group_of old).says (group_of old).overs (set_of old.sets k)) (image_in old.volumes (set_of old.sets k).master)
shadow_is old inv k lt live on =
    ap (λ (o : Option ShadowState). option_map_or (λ set. set.contents.image) o [])
    (find_set (λ t. is_enabled (group_of old).says t) (λ t. set_by (group_of old).says old.volumes (over_disks old.overs) t) (λ t. refl) old.sets k lt live (λ j l same. inv.kept.distinct j k l lt same))
    ∙ online_image (standing_of (group_of old).says (set_of old.sets k)) _ (behind_of (set_of old.sets k)) on

-- so blocks of the shadow of a slot are read, of a set that is online by the memory
pub reads_image : {T U E G : Type 0} (old new : Group) → IsKeptGroup old → (slot k : ℕ) → IsNamedAt (group_of old) slot k → is_online (standing_of (group_of old).memory (set_of old.sets k)) ≡ true
    → (at : ℕ) (out : List ℕ) (x : T) (y : U) → ReadsSet {E = E} old k at out (Ok x) new → ReadsImage {E = G} (λ group. shadow_image group slot) old at out (Ok y) new
reads_image old new inv slot k named on at out x y a = record {
  reads = record { does = does_ok old new [] x y a.reads.does; same = a.reads.same; state = a.reads.state; step = a.reads.step };
  shows = λ w i. a.shows w i ∙ sym (ap (λ (image : Image). range image at (length out / 512))
      (ap (λ (n : ℕ). shadow_image (meaning (group_of old)) n) (sym named.slot_is)
      ∙ shadow_is old inv k named.there (subst (λ (b : BlockSays). is_enabled b (set_of old.sets k) ≡ true) i.block named.enabled) (subst (λ (b : BlockSays). is_online (standing_of b (set_of old.sets k)) ≡ true) i.block on)));
}

-- of a set that is online the shadow's disk is there
pub shadow_there : (old : Group) → IsKeptGroup old → (k : ℕ) → k < length old.sets → is_online (standing_of (group_of old).memory (set_of old.sets k)) ≡ true → IsTrue (is_some (set_of old.sets k).shadow)
shadow_there old inv k lt on = (inv.here.each k lt).there (not_away (is_enabled (group_of old).memory (set_of old.sets k)) (standing_of (group_of old).memory (set_of old.sets k)) on)
  where
    not_away : (b : Bool) (t : Standing) → is_online t ≡ true → (b && is_exported t) ≡ false
    not_away true Online on = refl
    not_away false Online on = refl
    not_away b (Offline need given) on = absurd (never on)
    not_away b (Exported stamp) on = absurd (never on)
