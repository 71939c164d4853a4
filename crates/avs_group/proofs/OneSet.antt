-- A call on one set of a group and its master's disk, by which its overflow volume stays.
use Rattle.std.proofs.Common.{◌≡◌, ◌≢◌, inl, inr, ℕ, ◌<◌, true, Option, None, Some, length, set, get_or, Result, ◌∙◌, sym, refl, ap, subst, arith}
use Rattle.std.proofs.lemmas.Bool.{cases_eq}
use Rattle.std.proofs.lemmas.List.{get_or-set_same, get_or-set_other, length-set, set-get_or}
use Rattle.avs_dev.specs.Seen.{Seen}
use Rattle.avs_over.specs.Over.{slots}
use Rattle.avs_sets.specs.Sets.{SetSeen, no_set, disk_of}
use Rattle.avs_sets.specs.Meaning.{set_of, disk_in, over_disk, is_enabled}
use Rattle.avs_sets.specs.Whole.{IsHeld}
use Rattle.avs_sets.specs.Owners.{EndsThere, OwnsPlaces, AreOwned, IsServed}
use Rattle.avs_sets.specs.Goes.{KeepsLabels}
use Rattle.avs_sets.specs.Steps.{OnlyDisk, KeepsSet, KeepsRest}
use Rattle.avs_sets.proofs.Lifted.{some_is, only_set, set_kept, here_kept, labels}
use Rattle.avs_held.specs.Rooms.{owners_of, OnDisks, on_disks}
use Rattle.avs_group.specs.Group.{Group, IsKeptGroup, over_disks, over_at, group_of}
use Rattle.avs_group.proofs.Adding.{there_lt}
use Rattle.avs_group.proofs.Overs.{over_disk_is}

-- the group behind the call
abbrev pub with_one : Group → ℕ → SetSeen → Seen → Group
with_one old k s' m' = record old { volumes = set old.volumes (set_of old.sets k).master (Some m'); sets = set old.sets k s' }

module _ (old : Group) (inv : IsKeptGroup old) (k : ℕ) (lt : k < length old.sets) (s' : SetSeen) (m' : Seen) where
  held : IsHeld old.volumes (over_disks old.overs) (set_of old.sets k)
  held = inv.kept.held k lt

  pub below : (set_of old.sets k).master < length old.volumes
  below = there_lt old.volumes (set_of old.sets k).master held.master

  pub only_v : OnlyDisk old.volumes (with_one old k s' m').volumes (Some (set_of old.sets k).master)
  only_v = only_set old.volumes (set_of old.sets k).master m' below

  pub now_m : m' ≡ disk_in (with_one old k s' m').volumes (set_of old.sets k).master
  now_m = sym (ap (λ (o : Option Seen). disk_of o) (get_or-set_same old.volumes (set_of old.sets k).master (Some m') None below))

  pub only_o : OnlyDisk (over_disks old.overs) (over_disks old.overs) (set_of old.sets k).over
  only_o = record { long = refl; others = λ n ne. refl; seat = λ n is. held.over n is }

  pub was_o : (over_at old.overs (set_of old.sets k).over).disk ≡ over_disk (over_disks old.overs) (set_of old.sets k).over
  was_o = over_disk_is old.overs (set_of old.sets k).over

  -- its slots of the overflow volume are its own
  pub owns : is_enabled (group_of old).memory (set_of old.sets k) ≡ true → OwnsPlaces (owners_of (over_at old.overs (set_of old.sets k).over)) (set_of old.sets k)
  owns live = (inv.slots.owned (set_of old.sets k).over).owned k lt live refl

  -- nothing is done
  pub none_same : on_disks s' m' (over_at old.overs (set_of old.sets k).over) ≡ on_disks (set_of old.sets k) (disk_in old.volumes (set_of old.sets k).master) (over_at old.overs (set_of old.sets k).over)
      → with_one old k s' m' ≡ old
  none_same same = λ p. record old { volumes = disks p; sets = sets p }
    where
      disks : set old.volumes (set_of old.sets k).master (Some m') ≡ old.volumes
      disks = ap (λ (x : OnDisks). set old.volumes (set_of old.sets k).master (Some x.master)) same
          ∙ ap (λ (x : Option Seen). set old.volumes (set_of old.sets k).master x) (sym (some_is (get_or old.volumes (set_of old.sets k).master None) held.master))
          ∙ set-get_or old.volumes (set_of old.sets k).master None

      sets : set old.sets k s' ≡ old.sets
      sets = ap (λ (x : OnDisks). set old.sets k x.set) same ∙ set-get_or old.sets k no_set

  module _ (mine : ℕ → Type 0) {T E : Type 0} (r : Result T E)
      (st : KeepsSet (group_of old).says mine (set_of old.sets k) (disk_in old.volumes (set_of old.sets k).master) (over_disk (over_disks old.overs) (set_of old.sets k).over) r s'
      (disk_in (with_one old k s' m').volumes (set_of old.sets k).master) (over_disk (over_disks old.overs) (set_of old.sets k).over))
      (kr : KeepsRest (set_of old.sets k) (over_disk (over_disks old.overs) (set_of old.sets k).over) s' (over_disk (over_disks old.overs) (set_of old.sets k).over)) where
    pub one_labels : KeepsLabels (group_of old) (group_of (with_one old k s' m'))
    one_labels = labels (group_of old) inv.kept k lt s' (with_one old k s' m').volumes (over_disks old.overs) only_v only_o mine r st kr

    module _ (ends : EndsThere s') (owned : OwnsPlaces (owners_of (over_at old.overs (set_of old.sets k).over)) s')
        (served : IsServed (slots (over_at old.overs (set_of old.sets k).over)) s') where
      here : set_of (set old.sets k s') k ≡ s'
      here = get_or-set_same old.sets k s' no_set lt

      there : (j : ℕ) → j ≢ k → set_of (set old.sets k s') j ≡ set_of old.sets j
      there j ne = get_or-set_other old.sets k j s' no_set ne

      low : (j : ℕ) → j < length (set old.sets k s') → j < length old.sets
      low j l = omega (arith, l, length-set old.sets k s')

      all_owned : (over : Option ℕ) → AreOwned (group_of (with_one old k s' m')) over (owners_of (over_at old.overs over))
      all_owned over = record {
        ends = λ j l. elim (cases_eq j k) [
          | inl is ↦ subst (λ (t : SetSeen). EndsThere t) (sym (ap (λ (n : ℕ). set_of (set old.sets k s') n) is ∙ here)) ends
          | inr ne ↦ subst (λ (t : SetSeen). EndsThere t) (sym (there j ne)) ((inv.slots.owned over).ends j (low j l))
        ];
        owned = λ j l. elim (cases_eq j k) [
          | inl is ↦ subst (λ (t : SetSeen). is_enabled (group_of old).memory t ≡ true → t.over ≡ over → OwnsPlaces (owners_of (over_at old.overs over)) t)
              (sym (ap (λ (n : ℕ). set_of (set old.sets k s') n) is ∙ here))
              (λ live at. subst (λ (x : Option ℕ). OwnsPlaces (owners_of (over_at old.overs x)) s') (sym st.same.over ∙ at) owned)
          | inr ne ↦ subst (λ (t : SetSeen). is_enabled (group_of old).memory t ≡ true → t.over ≡ over → OwnsPlaces (owners_of (over_at old.overs over)) t)
              (sym (there j ne)) ((inv.slots.owned over).owned j (low j l))
        ];
      }

      all_served : (j : ℕ) → j < length (set old.sets k s') → IsServed (slots (over_at old.overs (set_of (set old.sets k s') j).over)) (set_of (set old.sets k s') j)
      all_served j l = elim (cases_eq j k) [
        | inl is ↦ subst (λ (t : SetSeen). IsServed (slots (over_at old.overs t.over)) t) (sym (ap (λ (n : ℕ). set_of (set old.sets k s') n) is ∙ here))
            (subst (λ (x : Option ℕ). IsServed (slots (over_at old.overs x)) s') (sym st.same.over) served)
        | inr ne ↦ subst (λ (t : SetSeen). IsServed (slots (over_at old.overs t.over)) t) (sym (there j ne)) (inv.slots.served j (low j l))
      ]

      pub one_kept : IsKeptGroup (with_one old k s' m')
      one_kept = record {
        kept = set_kept (group_of old) inv.kept k lt s' (with_one old k s' m').volumes (over_disks old.overs) only_v only_o mine r st;
        here = here_kept (group_of old) inv.kept k lt s' (with_one old k s' m').volumes (over_disks old.overs) only_v only_o mine r st kr inv.here;
        slots = record { owned = all_owned; served = all_served };
        count = omega (arith, inv.count, length-set old.volumes (set_of old.sets k).master (Some m'));
      }
