-- A volume more behind the others.
use Rattle.std.proofs.Common.{◌≡◌, ◌≢◌, inl, inr, ℕ, ◌+◌, ◌-◌, ◌^◌, ◌<◌, true, false, IsTrue, is_some, Option, None, Some, List, [], ◌∷◌, ◌++◌, length, map, filter, get_or, ◌∙◌, sym, refl, ap, subst, arith}
use Rattle.std.specs.List.{range_with_len}
use Rattle.std.specs.Option.{option_map}
use Rattle.std.proofs.lemmas.Bool.{cases_lt, cases_eq}
use Rattle.std.proofs.lemmas.List.{length-append, get_or_append_left, get_or-append_right, get_or_past}
use Rattle.std.proofs.lemmas.List.FromFn.{map-range_with_len_more}
use Rattle.avs_seg.specs.Image.{Image, block_at}
use Rattle.avs_seg.proofs.Blocks.{length-tabulate, block_at-tabulate, same_images}
use Rattle.avs_dev.specs.Seen.{Seen, IsTold, shown}
use Rattle.avs_dev.proofs.Going.{shown_told}
use Rattle.avs_model.specs.GroupStates.{with_new_volume}
use Rattle.avs_sets.specs.Says.{BlockSays}
use Rattle.avs_sets.specs.Sets.{SetSeen, IsAlike, disk_of}
use Rattle.avs_sets.specs.Meaning.{set_of, disk_in, is_enabled, read, picked, pick, volume_by, behind_of, slot_of, state_of, set_by, over_by, group_by}
use Rattle.avs_sets.specs.Whole.{AreWhole, IsKept}
use Rattle.avs_sets.proofs.Lift.{same_row, none_back, pick_none}
use Rattle.avs_sets.proofs.Lists.{keeps_all}
use Rattle.avs_group.specs.Group.{Group, IsKeptGroup, over_disks, group_of}
use Rattle.avs_group.specs.Calls.{Adds}

-- what is there has its number below the count
pub there_lt : (V : List (Option Seen)) (v : ℕ) → IsTrue (is_some (get_or V v None)) → v < length V
there_lt V v is = elim (cases_lt v (length V)) [
  | inl lt ↦ lt
  | inr le ↦ absurd (never (sym (ap (λ (o : Option Seen). is_some o) (get_or_past V v None le)) ∙ is))
]
  where
    never : false ≡ true → ⊥
    never e = cc

module _ (V O : List (Option Seen)) (S : List SetSeen) (d : Seen) (kept : IsKept V O S) where
  abbrev more : List (Option Seen)
  more = V ++ Some d ∷ []

  before : (v : ℕ) → v < length V → get_or more v None ≡ get_or V v None
  before v lt = get_or_append_left V (Some d ∷ []) None v lt

  last : get_or more (length V) None ≡ Some d
  last = get_or-append_right V (Some d ∷ []) (length V) (length V) None refl (omega arith) ∙ ap (λ (k : ℕ). get_or (Some d ∷ []) k None) (minus (length V))
    where
      minus : (n : ℕ) → n - n ≡ 0
      minus n = omega arith

  master_lt : (k : ℕ) → k < length S → (set_of S k).master < length V
  master_lt k lt = there_lt V (set_of S k).master (kept.held k lt).master

  master_same : (k : ℕ) → k < length S → get_or more (set_of S k).master None ≡ get_or V (set_of S k).master None
  master_same k lt = before (set_of S k).master (master_lt k lt)

  pub kept_more : IsKept more O S
  kept_more = record {
    few = kept.few;
    held = λ k lt. record {
      slot = (kept.held k lt).slot;
      master = subst (λ (o : Option Seen). IsTrue (is_some o)) (sym (master_same k lt)) (kept.held k lt).master;
      blocks = ap (λ (o : Option Seen). (disk_of o).size) (master_same k lt) ∙ (kept.held k lt).blocks;
      over = (kept.held k lt).over;
    };
    distinct = kept.distinct;
  }

  module _ (says : BlockSays) where
    volume_before : (v : ℕ) → v < length V → volume_by says more O S v ≡ volume_by says V O S v
    volume_before v lt = ap (λ (o : Option Seen). option_map (λ disk. picked says O S v (shown disk)) o) (before v lt)

    as_it_stands : (image : Image) → picked says O S (length V) image ≡ image
    as_it_stands image = same_images (picked says O S (length V) image) image (length-tabulate (length image) _) (λ i lt. each i (omega (arith, lt, length-tabulate (length image) (λ i. pick says O S (length V) i (block_at image i)))))
      where
        less : (n : ℕ) → n < n → ⊥
        less n lt = omega arith

        each : (i : ℕ) → i < length image → block_at (picked says O S (length V) image) i ≡ block_at image i
        each i lt = block_at-tabulate (length image) (λ i. pick says O S (length V) i (block_at image i)) i lt
            ∙ pick_none says O S (length V) i (block_at image i) (λ j l. none_back says (set_of S j) (length V) i (λ live is. absurd (less (length V) (subst (λ (n : ℕ). n < length V) is (master_lt j l)))))

    volume_last : IsTold d → volume_by says more O S (length V) ≡ Some d.image
    volume_last told = ap (λ (o : Option Seen). option_map (λ disk. picked says O S (length V) (shown disk)) o) last
        ∙ ap (λ (image : Image). Some image) (as_it_stands (shown d) ∙ shown_told d told)

    volumes_more : IsTold d → map (λ v. volume_by says more O S v) (range_with_len 0 (length more)) ≡ map (λ v. volume_by says V O S v) (range_with_len 0 (length V)) ++ Some d.image ∷ []
    volumes_more told =
        ap (λ (n : ℕ). map (λ v. volume_by says more O S v) (range_with_len 0 n)) (length-append V (Some d ∷ []))
        ∙ map-range_with_len_more (λ v. volume_by says more O S v) 0 (length V) (length V) (omega arith)
        ∙ ap (λ (front : List (Option Image)). front ++ volume_by says more O S (length V) ∷ []) (same_row None (length V) _ _ volume_before)
        ∙ ap (λ (one : Option Image). map (λ v. volume_by says V O S v) (range_with_len 0 (length V)) ++ one ∷ []) (volume_last told)

    sets_more : map (λ s. set_by says more O s) (filter (λ s. is_enabled says s) S) ≡ map (λ s. set_by says V O s) (filter (λ s. is_enabled says s) S)
    sets_more = keeps_all (λ s. is_enabled says s) (λ s. set_by says V O s) (λ s. set_by says more O s) S (λ j lt live.
        ap (λ (o : Option Seen). state_of (set_of S j) (slot_of says (set_of S j)) (read says O (set_of S j)) (shown (disk_of o)) (behind_of (set_of S j))) (master_same j lt))

    pub group_more : IsTold d → group_by says more O S ≡ with_new_volume (group_by says V O S) d.image
    group_more told = λ p. record { volumes = volumes_more told p; overs = map (λ o. over_by says O S o) (range_with_len 0 (length O)); sets = sets_more p; note = says.note; sequence = says.sequence }

    told_more : IsTold d → ((v : ℕ) → IsTold (disk_in V v)) → (v : ℕ) → IsTold (disk_in more v)
    told_more told all v = elim (cases_lt v (length V)) [
      | inl lt ↦ subst (λ (o : Option Seen). IsTold (disk_of o)) (sym (before v lt)) (all v)
      | inr le ↦ elim (cases_eq v (length V)) [
        | inl is ↦ subst (λ (o : Option Seen). IsTold (disk_of o)) (sym (ap (λ (n : ℕ). get_or more n None) is ∙ last)) told
        | inr ne ↦ subst (λ (o : Option Seen). IsTold (disk_of o)) (sym (get_or_past more v None (omega (arith, le, ne, length-append V (Some d ∷ []))))) refl
      ]
    ]

    pub whole_more : IsTold d → AreWhole says V O S → AreWhole says more O S
    whole_more told w = record {
      volumes_told = told_more told w.volumes_told;
      overs_told = w.overs_told;
      each = λ k lt.
          let old = w.each k lt in
          record {
            shadow = old.shadow;
            bitmap = old.bitmap;
            kind = old.kind;
            off = old.off;
            placed = old.placed;
            alike = λ live on. subst (λ (o : Option Seen). IsAlike (read says O (set_of S k)) (shown (disk_of o))) (sym (master_same k lt)) (old.alike live on);
          };
      apart = w.apart;
      slots_apart = w.slots_apart;
    }

-- ---- the group with a volume more

pub adds : (old : Group) → IsKeptGroup old → (d : Seen) → Adds old d (record old { volumes = old.volumes ++ Some d ∷ [] })
adds old inv d = record {
  is = refl;
  means = λ told. group_more old.volumes (over_disks old.overs) old.sets d inv.kept (group_of old).says told;
  whole = λ told w. record { state = w.state; disks = whole_more old.volumes (over_disks old.overs) old.sets d inv.kept (group_of old).says told w.disks };
  step = λ i. record { block = i.block; each = i.each };
}

pub adds_kept : (old : Group) → IsKeptGroup old → (d : Seen) → length old.volumes + 1 < 2 ^ 32 → IsKeptGroup (record old { volumes = old.volumes ++ Some d ∷ [] })
adds_kept old inv d room = record {
  kept = kept_more old.volumes (over_disks old.overs) old.sets d inv.kept;
  here = inv.here;
  slots = record { owned = λ over. record { ends = (inv.slots.owned over).ends; owned = (inv.slots.owned over).owned }; served = inv.slots.served };
  count = omega (arith, room, length-append old.volumes (Some d ∷ []));
}

pub room_more : (long number : ℕ) → number ≡ long → long < 2 ^ 32 → number ≢ 4294967295 → long + 1 < 2 ^ 32
room_more long number is less other = omega (arith, other)
