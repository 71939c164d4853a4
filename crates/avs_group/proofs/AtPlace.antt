-- A set in chunks and its master's disk, as they are held at their places.
use Rattle.std.proofs.Common.{◌≡◌, ℕ, ◌+◌, ◌/◌, ◌<◌, ◌≤◌, Bool, true, false, ◌&&◌, IsTrue, is_some, Option, None, Some, List, length, map, set, get_or, Result, ◌∙◌, sym, refl, ap, subst, arith}
use Rattle.std.specs.Option.{option_map}
use Rattle.std.proofs.lemmas.List.{get_or-map, map-set, length-map}
use Rattle.avs_dev.specs.Seen.{Seen, IsRange, Reads}
use Rattle.avs_model.specs.ShadowSets.{is_exported}
use Rattle.avs_over.specs.Over.{OverSet}
use Rattle.avs_sets.specs.Sets.{SetSeen, disk_of}
use Rattle.avs_sets.specs.Meaning.{set_of, disk_in, is_enabled, standing_of}
use Rattle.avs_state.specs.StateDisk.{StateSeen}
use Rattle.avs_held.specs.Held.{Held, seen_of}
use Rattle.avs_held.specs.Rooms.{on_disks}
use Rattle.avs_held.specs.Calls.{CopiesOne, ReadsShadow}
use Rattle.avs_held.proofs.Grouped.{chunks_end}
use Rattle.avs_group.specs.Group.{Group, GroupData, IsKeptGroup, over_at, group_of, seen}
use Rattle.avs_group.specs.Calls.{CopiesAt}
use Rattle.avs_group.specs.Reads.{ReadsSet, ReadsDisk, IsVolumeRange}
use Rattle.avs_group.proofs.Adding.{there_lt}
use Rattle.avs_group.proofs.ByName.{set_is, place_lt}
use Rattle.avs_group.proofs.OneSet.{with_one}
use Rattle.avs_group.proofs.NextChunk.{copies, copies_kept}
use Rattle.avs_group.proofs.ReadSets.{reads_set, reads_kept}
use Rattle.avs_group.proofs.Picks.{with_volume_disk, reads_disk, disk_kept}

module _ {D : Type 0} (see : D → Seen) (state : StateSeen) (V : List (Option D)) (O : List (Option OverSet)) (S : List Held) where
  abbrev pub data_of : GroupData
  data_of = record { state = state; volumes = map (λ v. option_map see v) V; overs = O; sets = S }

  module _ (inv : IsKeptGroup (seen data_of)) (k : ℕ) (lt : k < length (map seen_of S)) (h : Held) (value : h ≡ get_or S k h) (master : ℕ) (is_master : master ≡ (seen_of h).master) where
    set_at : set_of (map seen_of S) k ≡ seen_of h
    set_at = set_is S k h (place_lt S k lt) value

    master_at : master ≡ (set_of (map seen_of S) k).master
    master_at = is_master ∙ ap (λ (s : SetSeen). s.master) (sym set_at)

    seat : IsTrue (is_some (get_or (map (λ v. option_map see v) V) master None))
    seat = subst (λ (n : ℕ). IsTrue (is_some (get_or (map (λ v. option_map see v) V) n None))) (sym master_at) (inv.kept.held k lt).master

    pub master_lt : master < length V
    master_lt = omega (arith, there_lt (map (λ v. option_map see v) V) master seat, length-map V (λ v. option_map see v))

    module _ (o : Option D) (at_value : o ≡ get_or V master o) where
      disk_at : get_or (map (λ v. option_map see v) V) master None ≡ option_map see o
      disk_at = get_or-map (λ v. option_map see v) V master o None master_lt ∙ ap (λ (v : Option D). option_map see v) (sym at_value)

      pub not_none : o ≡ None → ⊥
      not_none is = never (sym (ap (λ (v : Option Seen). is_some v) (disk_at ∙ ap (λ (v : Option D). option_map see v) is)) ∙ seat)
        where
          never : false ≡ true → ⊥
          never e = cc

      module _ (d : D) (is_some_d : o ≡ Some d) where
        disk_is : see d ≡ disk_in (map (λ v. option_map see v) V) (set_of (map seen_of S) k).master
        disk_is = sym (ap (λ (n : ℕ). disk_in (map (λ v. option_map see v) V) n) (sym master_at) ∙ ap (λ (v : Option Seen). disk_of v) (disk_at ∙ ap (λ (v : Option D). option_map see v) is_some_d))

        pub blocks_at : (see d).size ≡ h.chunks.blocks
        blocks_at = ap (λ (x : Seen). x.size) disk_is ∙ (inv.kept.held k lt).blocks ∙ ap (λ (s : SetSeen). s.size.blocks) set_at

        pub there_at : is_exported (standing_of (group_of (seen data_of)).memory (set_of (map seen_of S) k)) ≡ false → IsTrue (is_some h.chunks.shadow)
        there_at here = subst (λ (s : SetSeen). IsTrue (is_some s.shadow)) set_at ((inv.here.each k lt).there (and_false (is_enabled (group_of (seen data_of)).memory (set_of (map seen_of S) k)) _ here))
          where
            and_false : (a b : Bool) → b ≡ false → (a && b) ≡ false
            and_false true b is = is
            and_false false b is = refl

        module _ (live : is_enabled (group_of (seen data_of)).memory (set_of (map seen_of S) k) ≡ true) (h' : Held) (d' : D) where
          abbrev new : GroupData
          new = record { state = state; volumes = map (λ v. option_map see v) (set V master (Some d')); overs = O; sets = set S k h' }

          behind_is : seen new ≡ with_one (seen data_of) k (seen_of h') (see d')
          behind_is = λ p. record {
            state = state;
            volumes = (map-set (λ v. option_map see v) V master (Some d') ∙ ap (λ (n : ℕ). set (map (λ v. option_map see v) V) n (Some (see d'))) master_at) p;
            overs = O;
            sets = map-set seen_of S k h' p;
          }

          on_old : (P : SetSeen → Seen → Type 0) → P (seen_of h) (see d) → P (set_of (map seen_of S) k) (disk_in (map (λ v. option_map see v) V) (set_of (map seen_of S) k).master)
          on_old P is = subst (λ (s : SetSeen). P s (disk_in (map (λ v. option_map see v) V) (set_of (map seen_of S) k).master)) (sym set_at) (subst (λ (x : Seen). P (seen_of h) x) disk_is is)

          abbrev over : OverSet
          over = over_at O (set_of (map seen_of S) k).over

          module _ {E : Type 0} (r : Result (Option ℕ) E) (a : (o : OverSet) → CopiesOne (on_disks (seen_of h) (see d) o) r (on_disks (seen_of h') (see d') o)) where
            one : CopiesOne (on_disks (set_of (map seen_of S) k) (disk_in (map (λ v. option_map see v) V) (set_of (map seen_of S) k).master) over) r (on_disks (seen_of h') (see d') over)
            one = on_old (λ s m. CopiesOne (on_disks s m over) r (on_disks (seen_of h') (see d') over)) (a over)

            pub copies_at : CopiesAt (seen data_of) k r (seen new)
            copies_at = subst (λ (n : Group). CopiesAt (seen data_of) k r n) (sym behind_is) (copies (seen data_of) inv k lt (seen_of h') (see d') live r one)

            pub copied_kept : IsKeptGroup (seen new)
            copied_kept = subst (λ (n : Group). IsKeptGroup n) (sym behind_is) (copies_kept (seen data_of) inv k lt (seen_of h') (see d') live r one (chunks_end h'.seat h'.chunks))

          module _ (at : ℕ) (out : List ℕ) {T E : Type 0} (r : Result T E) (a : (o : OverSet) → ReadsShadow (on_disks (seen_of h) (see d) o) at out r (on_disks (seen_of h') (see d') o)) where
            shadow : ReadsShadow (on_disks (set_of (map seen_of S) k) (disk_in (map (λ v. option_map see v) V) (set_of (map seen_of S) k).master) over) at out r (on_disks (seen_of h') (see d') over)
            shadow = on_old (λ s m. ReadsShadow (on_disks s m over) at out r (on_disks (seen_of h') (see d') over)) (a over)

            pub reads_at : ReadsSet (seen data_of) k at out r (seen new)
            reads_at = subst (λ (n : Group). ReadsSet (seen data_of) k at out r n) (sym behind_is) (reads_set (seen data_of) inv k lt (seen_of h') (see d') live at out r shadow)

            pub read_kept : IsKeptGroup (seen new)
            read_kept = subst (λ (n : Group). IsKeptGroup n) (sym behind_is) (reads_kept (seen data_of) inv k lt (seen_of h') (see d') live at out r shadow (chunks_end h'.seat h'.chunks))

-- ---- the disk of a volume

module _ {D : Type 0} (see : D → Seen) (state : StateSeen) (V : List (Option D)) (O : List (Option OverSet)) (S : List Held) (inv : IsKeptGroup (seen (data_of see state V O S)))
    (v : ℕ) (seat : IsTrue (is_some (get_or (map (λ one. option_map see one) V) v None))) where
  pub volume_lt : v < length V
  volume_lt = omega (arith, there_lt (map (λ one. option_map see one) V) v seat, length-map V (λ one. option_map see one))

  module _ (o : Option D) (at_value : o ≡ get_or V v o) where
    volume_at : get_or (map (λ one. option_map see one) V) v None ≡ option_map see o
    volume_at = get_or-map (λ one. option_map see one) V v o None volume_lt ∙ ap (λ (one : Option D). option_map see one) (sym at_value)

    pub volume_not_none : o ≡ None → ⊥
    volume_not_none is = never (sym (ap (λ (one : Option Seen). is_some one) (volume_at ∙ ap (λ (one : Option D). option_map see one) is)) ∙ seat)
      where
        never : false ≡ true → ⊥
        never e = cc

    module _ (d : D) (is : o ≡ Some d) where
      pub volume_is : disk_in (map (λ one. option_map see one) V) v ≡ see d
      volume_is = ap (λ (one : Option Seen). disk_of one) (volume_at ∙ ap (λ (one : Option D). option_map see one) is)

      pub volume_range : (at len : ℕ) → IsVolumeRange (seen (data_of see state V O S)) v at len → IsRange (see d) at len
      volume_range at len r = record { some = r.some; whole = r.whole; inside = subst (λ (x : Seen). at + len / 512 ≤ x.size) volume_is r.inside }

      module _ (d' : D) (at : ℕ) (out : List ℕ) {T E : Type 0} (r : Result T E) (a : Reads (see d) at out r (see d')) where
        abbrev behind : GroupData
        behind = record { state = state; volumes = map (λ one. option_map see one) (set V v (Some d')); overs = O; sets = S }

        volume_behind : seen behind ≡ with_volume_disk (seen (data_of see state V O S)) v (see d')
        volume_behind = λ p. record { state = state; volumes = map-set (λ one. option_map see one) V v (Some d') p; overs = O; sets = map seen_of S }

        reads_v : Reads (disk_in (map (λ one. option_map see one) V) v) at out r (see d')
        reads_v = subst (λ (x : Seen). Reads x at out r (see d')) (sym volume_is) a

        pub volume_read : ReadsDisk (seen (data_of see state V O S)) v at out r (seen behind)
        volume_read = subst (λ (n : Group). ReadsDisk (seen (data_of see state V O S)) v at out r n) (sym volume_behind) (reads_disk (seen (data_of see state V O S)) inv v seat (see d') at out r reads_v)

        pub volume_kept : IsKeptGroup (seen behind)
        volume_kept = subst (λ (n : Group). IsKeptGroup n) (sym volume_behind) (disk_kept (seen (data_of see state V O S)) inv v seat (see d') at out r reads_v)
