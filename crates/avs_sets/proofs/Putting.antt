-- A write to a volume, or to a shadow, is the last stage of its call.
use Rattle.std.proofs.Common.{◌≡◌, ◌≢◌, ◌⊎◌, inl, inr, ℕ, zero, suc, ◌/◌, ◌<◌, Bool, true, false, cond, IsTrue, Option, None, Some, is_some, List, [], ◌∷◌, length, map, filter, find, set, get_or, Result, ◌∙◌, sym, refl, ap, subst, arith}
use Rattle.std.specs.Option.{option_map_or}
use Rattle.std.proofs.lemmas.Bool.{cases_eq, eq-eqb, ne_eqb}
use Rattle.std.proofs.lemmas.Result.{on_ok_weaker, on_err_weaker}
use Rattle.avs_seg.specs.Image.{Image, block_at, blocks_of, put, IsMix, ChangesWithin}
use Rattle.avs_seg.proofs.Exits.{ok_exit}
use Rattle.avs_seg.proofs.Bytes.{length-blocks_of}
use Rattle.avs_dev.specs.Seen.{Seen, IsTold, shown, Writes}
use Rattle.avs_dev.specs.Devices.{AllGoOn}
use Rattle.avs_dev.proofs.Going.{shown_told, all_go}
use Rattle.avs_model.specs.ShadowSets.{SetSize, Standing, Online, Offline, Exported, is_online, is_offline, ShadowState}
use Rattle.avs_model.specs.GroupStates.{has_slot, shadow_image, with_shadow}
use Rattle.avs_model.specs.GroupStages.{PutVolume, PutShadow, after_stage}
use Rattle.avs_model.specs.GroupWork.{GroupSpot, StateDisk, VolumeDisk, ShadowDisk, BitmapDisk, OverDisk}
use Rattle.avs_sets.specs.Says.{BlockSays}
use Rattle.avs_sets.specs.Sets.{SetSeen, disk_of, chunks_of}
use Rattle.avs_sets.specs.Meaning.{GroupSeen, set_of, disk_in, disk_at, over_disk, slot_of, is_enabled, standing_of, chunks_by, contents_by, lists_by, shadow_over, behind_of, set_by, meaning}
use Rattle.avs_sets.specs.Whole.{IsFree, IsWhole, IsStep, IsInStep, IsKept}
use Rattle.avs_sets.specs.Goes.{is_labelled, KeepsLabels, Goes}
use Rattle.avs_sets.specs.Steps.{OnlyDisk, read_over, AreSaved, PutsShadow}
use Rattle.avs_sets.proofs.Marks.{lists_same}
use Rattle.avs_sets.proofs.Chains.{same_set}
use Rattle.avs_sets.proofs.Lifted.{some_is, number_is, with_step, stays, disks}
use Rattle.avs_sets.proofs.Settling.{state_was, state_now, KnownThen, known_then, lift, whole_now, step_now}
use Rattle.avs_sets.proofs.Put.{AreSavedOn, put_done, put_part, put_whole}

-- ---- a volume

number_of : (a b : ℕ) → VolumeDisk a ≡ VolumeDisk b → a ≡ b
number_of a b e = cc

volume_or_not : (v : ℕ) (m : GroupSpot) → (m ≡ VolumeDisk v) ⊎ (m ≢ VolumeDisk v)
volume_or_not v StateDisk = inr (λ e. never e)
  where
    never : StateDisk ≡ VolumeDisk v → ⊥
    never e = cc
volume_or_not v (VolumeDisk w) = elim (cases_eq w v) [
  | inl same ↦ inl (ap (λ (x : ℕ). VolumeDisk x) same)
  | inr ne ↦ inr (λ e. ne (number_of w v e))
]
volume_or_not v (ShadowDisk w) = inr (λ e. never e)
  where
    never : ShadowDisk w ≡ VolumeDisk v → ⊥
    never e = cc
volume_or_not v (BitmapDisk w) = inr (λ e. never e)
  where
    never : BitmapDisk w ≡ VolumeDisk v → ⊥
    never e = cc
volume_or_not v (OverDisk w) = inr (λ e. never e)
  where
    never : OverDisk w ≡ VolumeDisk v → ⊥
    never e = cc

module _ (g : GroupSeen) (inv : IsKept g.volumes g.overs g.sets) (v : ℕ) (there : v < length g.volumes) (seat : IsTrue (is_some (get_or g.volumes v None))) (V' : List (Option Seen))
    (only : OnlyDisk g.volumes V' (Some v)) (at : ℕ) (bytes : List ℕ) {T E : Type 0} (r : Result T E) (wr : Writes (disk_in g.volumes v) at bytes r (disk_in V' v)) (saved : AreSaved g v at (length bytes / 512)) where
  abbrev new : GroupSeen
  new = record g { volumes = V' }

  others : (w : ℕ) → w ≢ v → get_or V' w None ≡ get_or g.volumes w None
  others w ne = only.others w (λ e. ne (number_is w v e))

  same : (m : GroupSpot) → m ≢ VolumeDisk v → disk_at new m ≡ disk_at g m
  same StateDisk ne = refl
  same (VolumeDisk w) ne = ap (λ (d : Option Seen). disk_of d) (others w (λ e. ne (ap (λ (x : ℕ). VolumeDisk x) e)))
  same (ShadowDisk w) ne = refl
  same (BitmapDisk w) ne = refl
  same (OverDisk w) ne = refl

  pub put_disks : AllGoOn (disk_at g) r (disk_at new)
  put_disks = all_go (disk_at g) (disk_at new) (VolumeDisk v) (volume_or_not v) same r wr.goes

  module _ (w : IsWhole g) (i : IsInStep g) where
    told : IsTold (disk_in g.volumes v)
    told = w.disks.volumes_told v

    told_now : IsTold (disk_in V' v)
    told_now = wr.told told

    shown_was : shown (disk_in g.volumes v) ≡ (disk_in g.volumes v).image
    shown_was = shown_told (disk_in g.volumes v) told

    shown_now : shown (disk_in V' v) ≡ (disk_in V' v).image
    shown_now = shown_told (disk_in V' v) told_now

    changes : ChangesWithin at (length (blocks_of bytes)) (shown (disk_in g.volumes v)) (shown (disk_in V' v))
    changes = subst (λ (n : ℕ). ChangesWithin at n (shown (disk_in g.volumes v)) (shown (disk_in V' v))) (sym (length-blocks_of bytes))
        (subst (λ (x : Image). ChangesWithin at (length bytes / 512) x (shown (disk_in V' v))) (sym shown_was)
        (subst (λ (x : Image). ChangesWithin at (length bytes / 512) (disk_in g.volumes v).image x) (sym shown_now) (wr.within told)))

    fits : (k : ℕ) → k < length g.sets → (set_of g.sets k).master ≡ v → (set_of g.sets k).size.blocks ≡ length (shown (disk_in g.volumes v))
    fits k lt is = sym (inv.held k lt).blocks ∙ ap (λ (x : ℕ). (disk_in g.volumes x).size) is ∙ sym told ∙ ap (λ (x : Image). length x) (sym shown_was)

    by_disk : (k : ℕ) → k < length g.sets → is_enabled g.says (set_of g.sets k) ≡ true → (c : ℕ) → c < chunks_of (set_of g.sets k) → (set_of g.sets k).memory.state c ≡ (chunks_by g.says (set_of g.sets k)).state c
    by_disk k lt live c l =
        let step = subst (λ (b : BlockSays). IsStep b (set_of g.sets k)) i.block (i.each k lt) in
        (step.chunks live).state c l ∙ ap (λ (b : Bool). ((set_of g.sets k).area b).state c) (step.area live)

    saved_on : AreSavedOn g.says g.sets v at (length (blocks_of bytes))
    saved_on = record {
      online = λ k lt live on is j l low high.
          sym (by_disk k lt live (j / 64) (omega (arith, l)))
          ∙ saved.online k lt (subst (λ (b : BlockSays). is_enabled b (set_of g.sets k) ≡ true) (sym i.block) live) (subst (λ (b : BlockSays). is_offline (standing_of b (set_of g.sets k)) ≡ false) (sym i.block) on) is
          (j / 64) (omega (arith, low)) (omega (arith, high, length-blocks_of bytes)) (omega (arith, l));
      none = λ k lt live is j l low high e.
          saved.none k lt (subst (λ (b : BlockSays). is_enabled b (set_of g.sets k) ≡ true) (sym i.block) live) is
          (j / 64) (omega (arith, low)) (omega (arith, high, length-blocks_of bytes)) (omega (arith, l)) (by_disk k lt live (j / 64) (omega (arith, l)) ∙ e);
    }

    done_now : (disk_in V' v).image ≡ put (disk_in g.volumes v).image at (blocks_of bytes) → meaning new ≡ after_stage (meaning g) (PutVolume v at (blocks_of bytes))
    done_now is = put_done g.says g.volumes V' g.overs g.sets v (disk_in g.volumes v) (disk_in V' v) there (some_is _ seat) (some_is _ (only.seat v refl)) others only.long at (blocks_of bytes) changes fits saved_on
        (shown_now ∙ is ∙ ap (λ (x : Image). put x at (blocks_of bytes)) (sym shown_was))

  put_label : (spot : GroupSpot) → is_labelled spot ≡ true → IsTold (disk_at g spot) → block_at (disk_at new spot).image 0 ≡ block_at (disk_at g spot).image 0
  put_label StateDisk is told = refl
  put_label (VolumeDisk w) is told = absurd (never is)
    where
      never : false ≡ true → ⊥
      never e = cc
  put_label (ShadowDisk slot) is told = refl
  put_label (BitmapDisk slot) is told = refl
  put_label (OverDisk o) is told = refl

  pub put_labels : KeepsLabels g new
  put_labels = record { each = put_label }

  pub put_goes : Goes g (PutVolume v at (blocks_of bytes) ∷ []) r new
  put_goes = record {
    stays = record { volumes = only.long; overs = refl; sets = refl; each = λ k lt. same_set (set_of g.sets k) };
    disks = put_disks;
    whole = λ w i. record {
      state = w.state;
      disks = put_whole g.says g.volumes V' g.overs g.sets v (disk_in g.volumes v) (disk_in V' v) there (some_is _ seat) (some_is _ (only.seat v refl)) others only.long at (blocks_of bytes) (changes w i) (fits w i) (saved_on w i) w.disks
          (λ x. (put_disks.lasts (VolumeDisk x)).told (w.disks.volumes_told x));
    };
    step = λ w i. ok_exit r (record { block = i.block; each = i.each });
    done = λ w i. on_ok_weaker r (λ is. done_now w i is) (wr.done (told w i));
    stopped = λ w i. on_err_weaker r (λ mix. inr (inl (put_part g.says g.volumes V' g.overs g.sets v (disk_in g.volumes v) (disk_in V' v) there (some_is _ seat) (some_is _ (only.seat v refl)) others only.long at (blocks_of bytes) (changes w i) (fits w i) (saved_on w i)
        (subst (λ (x : Image). IsMix x at (blocks_of bytes) (shown (disk_in V' v))) (sym (shown_was w i)) (subst (λ (x : Image). IsMix (disk_in g.volumes v).image at (blocks_of bytes) x) (sym (shown_now w i)) mix))))) (wr.failed (told w i));
  }

-- ---- a shadow

-- the set of a slot among the states of those that are enabled
pub find_set : (p : SetSeen → Bool) (f : SetSeen → ShadowState) → ((t : SetSeen) → (f t).slot ≡ t.slot) → (S : List SetSeen) (k : ℕ) → k < length S → p (set_of S k) ≡ true
    → ((j : ℕ) → j < length S → (set_of S j).slot ≡ (set_of S k).slot → j ≡ k) → find (λ t. has_slot (set_of S k).slot t) (map f (filter p S)) ≡ Some (f (set_of S k))
find_set p f slot_is [] k lt live distinct = elim (none k lt) [ ]
  where
    none : (k : ℕ) → k < 0 → ⊥
    none k lt = omega arith
find_set p f slot_is (t ∷ S) zero lt live distinct =
    ap (λ (b : Bool). find (λ x. has_slot t.slot x) (map f (cond b (t ∷ filter p S) (filter p S)))) live
    ∙ ap (λ (b : Bool). cond b (Some (f t)) (find (λ x. has_slot t.slot x) (map f (filter p S)))) (eq-eqb (f t).slot t.slot (slot_is t))
find_set p f slot_is (t ∷ S) (suc k) lt live distinct = go (find_set p f slot_is S k (omega (arith, lt)) live (λ j l e. less j k (distinct (suc j) (omega (arith, l)) e))) (p t)
  where
    never : (k : ℕ) → 0 ≡ suc k → ⊥
    never k e = omega (arith, e)

    less : (j k : ℕ) → suc j ≡ suc k → j ≡ k
    less j k e = omega (arith, e)

    go : find (λ x. has_slot (set_of S k).slot x) (map f (filter p S)) ≡ Some (f (set_of S k)) → (b : Bool) → find (λ x. has_slot (set_of S k).slot x) (map f (cond b (t ∷ filter p S) (filter p S))) ≡ Some (f (set_of S k))
    go rest true = ap (λ (b : Bool). cond b (Some (f t)) (find (λ x. has_slot (set_of S k).slot x) (map f (filter p S)))) (ne_eqb (f t).slot (set_of S k).slot (λ e. never k (distinct 0 (omega arith) (sym (slot_is t) ∙ e)))) ∙ rest
    go rest false = rest

-- what a set that is online shows
shows : (standing : Standing) (image image' behind : Image) → is_online standing ≡ true → contents_by standing image' behind ≡ record (contents_by standing image behind) { image = image' }
shows Online image image' behind on = refl
shows (Offline need slots) image image' behind on = elim (never on) [ ]
  where
    never : false ≡ true → ⊥
    never e = cc
shows (Exported stamp) image image' behind on = elim (never on) [ ]
  where
    never : false ≡ true → ⊥
    never e = cc

shown_image : (standing : Standing) (image behind : Image) → is_online standing ≡ true → (contents_by standing image behind).image ≡ image
shown_image standing image behind on = ap (λ contents. contents.image) (shows standing image image behind on)

module _ (g : GroupSeen) (inv : IsKept g.volumes g.overs g.sets) (k : ℕ) (lt : k < length g.sets) (s' : SetSeen) (V' O' : List (Option Seen))
    (only_v : OnlyDisk g.volumes V' (Some (set_of g.sets k).master)) (only_o : OnlyDisk g.overs O' (set_of g.sets k).over) (mine : ℕ → Type 0)
    {T E : Type 0} (r : Result T E) (live : is_enabled g.memory (set_of g.sets k) ≡ true) (on : is_online (standing_of g.memory (set_of g.sets k)) ≡ true)
    (free : IsWhole g → IsInStep g → (j : ℕ) → j < length g.sets → j ≢ k → (slot : ℕ) → mine slot → IsFree g.says (set_of g.sets j) (set_of g.sets k).over slot)
    (at : ℕ) (bs : Image)
    (st : PutsShadow g.says mine (set_of g.sets k) (disk_in g.volumes (set_of g.sets k).master) (over_disk g.overs (set_of g.sets k).over) at bs r s' (disk_in V' (set_of g.sets k).master) (over_disk O' (set_of g.sets k).over)) where
  abbrev image_was : Image
  image_was = shadow_over (read_over g.says (set_of g.sets k) (over_disk g.overs (set_of g.sets k).over)) (shown (disk_in g.volumes (set_of g.sets k).master))

  abbrev image_now : Image
  image_now = shadow_over (read_over g.says s' (over_disk O' (set_of g.sets k).over)) (shown (disk_in V' (set_of g.sets k).master))

  abbrev with_image : Image → ShadowState → ShadowState
  with_image image set = record set { contents = record set.contents { image = image } }

  module _ (w : IsWhole g) (i : IsInStep g) where
    kn : KnownThen g inv k lt s' V' O' only_v only_o mine r live free
    kn = known_then g inv k lt s' V' O' only_v only_o mine r live free st.keeps w i

    on_disk : is_online (standing_of g.says (set_of g.sets k)) ≡ true
    on_disk = subst (λ (b : BlockSays). is_online (standing_of b (set_of g.sets k)) ≡ true) i.block on

    own : state_now g inv k lt s' V' O' only_v only_o mine r live free ≡ with_image image_now (state_was g inv k lt s' V' O' only_v only_o mine r live free)
    own = λ p. record {
      slot = st.keeps.same.slot p;
      kind = st.keeps.same.kind p;
      master = st.keeps.same.master p;
      size = st.keeps.same.size p;
      over = st.keeps.same.over p;
      lists = lists p;
      standing = standing_of g.says (set_of g.sets k);
      contents = (ap (λ (x : Image). contents_by (standing_of g.says (set_of g.sets k)) image_now x) (st.keeps.read kn).behind ∙ shows (standing_of g.says (set_of g.sets k)) image_was image_now (behind_of (set_of g.sets k)) on_disk) p;
    }
      where
        lists : (state_now g inv k lt s' V' O' only_v only_o mine r live free).lists ≡ (state_was g inv k lt s' V' O' only_v only_o mine r live free).lists
        lists = (λ p. lists_by (st.keeps.same.kind p) (ap (λ (x : SetSize). x.blocks) st.keeps.same.size p) (chunks_by g.says s').state (slot_of g.says (set_of g.sets k)).stopped)
            ∙ lists_same (set_of g.sets k).kind (set_of g.sets k).size.blocks (slot_of g.says (set_of g.sets k)).stopped (chunks_by g.says (set_of g.sets k)).state (chunks_by g.says s').state (st.same kn).each

    live_disk : is_enabled g.says (set_of g.sets k) ≡ true
    live_disk = subst (λ (b : BlockSays). is_enabled b (set_of g.sets k) ≡ true) i.block live

    -- the group shows the image
    image_is : shadow_image (meaning g) (set_of g.sets k).slot ≡ image_was
    image_is = ap (λ (o : Option ShadowState). option_map_or (λ t. t.contents.image) o []) (find_set (λ t. is_enabled g.says t) (λ t. set_by g.says g.volumes g.overs t) (λ t. refl) g.sets k lt live_disk (λ j l e. inv.distinct j k l lt e))
        ∙ shown_image (standing_of g.says (set_of g.sets k)) image_was (behind_of (set_of g.sets k)) on_disk

    made : meaning (with_step g V' O' k s') ≡ with_shadow (meaning g) (set_of g.sets k).slot image_now
    made = lift g inv k lt s' V' O' only_v only_o mine r live free st.keeps w i (λ t. with_image image_now t) own

  pub shadow_goes : Goes g (PutShadow (set_of g.sets k).slot at bs ∷ []) r (with_step g V' O' k s')
  shadow_goes = record {
    stays = stays g inv k lt s' V' O' only_v only_o mine r st.keeps;
    disks = disks g inv k lt s' V' O' only_v only_o mine r st.keeps;
    whole = whole_now g inv k lt s' V' O' only_v only_o mine r live free st.keeps;
    step = step_now g inv k lt s' V' O' only_v only_o mine r live free st.keeps;
    done = λ w i. on_ok_weaker r (λ is. made w i ∙ ap (λ (x : Image). with_shadow (meaning g) (set_of g.sets k).slot x) (is ∙ ap (λ (x : Image). put x at bs) (sym (image_is w i)))) (st.done (kn w i));
    stopped = λ w i. on_err_weaker r (λ mix. inr (inl (image_now, subst (λ (x : Image). IsMix x at bs image_now) (sym (image_is w i)) mix, made w i))) (st.stopped (kn w i));
  }
