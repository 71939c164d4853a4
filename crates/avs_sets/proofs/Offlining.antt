-- Sets go offline: the block says so, and nothing else changes but the number of the block.
use Rattle.std.proofs.Common.{◌≡◌, ◌≢◌, ℕ, suc, ◌/◌, ◌<◌, Bool, true, false, cond, eqb, ◌&&◌, Option, None, Some, List, [], ◌∷◌, length, map, find, get_or, Result, ◌∙◌, sym, refl, ap, subst, arith}
use Rattle.std.specs.List.{filter_map}
use Rattle.std.specs.Option.{option_map, option_map_or}
use Rattle.std.proofs.Math.Path.{fun_ext}
use Rattle.avs_seg.specs.Image.{Image, Block, block_at, tabulate}
use Rattle.avs_dev.specs.Seen.{Seen, shown}
use Rattle.avs_model.specs.ShadowSets.{no_chunks, together, apart_from, ChunkLists, Standing, Online, Offline, Exported, is_online, is_offline, is_compact, is_independent, lists_overwritten, overwritten, gone_offline, ShadowState}
use Rattle.avs_model.specs.GroupStates.{GroupState, has_master}
use Rattle.avs_model.specs.Room.{Gone}
use Rattle.avs_model.specs.GroupStages.{Change, GoesOffline, Commit, change_of, offline_first, sets_gone, is_to_master, as_other, changed_by, changed_image, new_set, goes_offline, after_stage}
use Rattle.avs_model.specs.declared.shadow.Kind.{Kind}
use Rattle.avs_sets.specs.Says.{SlotSays, BlockSays}
use Rattle.avs_sets.specs.Sets.{SetSeen, shadow_disk, ChunkMap, read_from, IsAlike}
use Rattle.avs_sets.specs.Meaning.{GroupSeen, set_of, image_in, over_image, slot_of, is_enabled, standing_of, chunks_by, read, pick, volume_by, contents_by, shadow_over, behind_of, state_of, set_by, group_by}
use Rattle.avs_sets.specs.Whole.{AreWhole, IsStep, IsInStep}
use Rattle.avs_sets.specs.Goes.{gone_at, offline_slot, PutsOffline, Goes, Commits}
use Rattle.avs_sets.proofs.Commits.{commit_goes}
use Rattle.avs_sets.proofs.Changes.{makes}

-- ---- the changes

abbrev offline_change : Gone → Change
offline_change one = GoesOffline one.need one.slots

change_is : (gone : List Gone) (slot : ℕ) → change_of (map goes_offline gone) slot ≡ option_map offline_change (gone_at gone slot)
change_is [] slot = refl
change_is (one ∷ gone) slot = go (change_is gone slot) (eqb one.slot slot)
  where
    go : change_of (map goes_offline gone) slot ≡ option_map offline_change (gone_at gone slot) → (b : Bool)
        → option_map (λ x. x.1) (cond b (Some (goes_offline one)) (find (λ x. eqb x.0 slot) (map goes_offline gone))) ≡ option_map offline_change (cond b (Some one) (gone_at gone slot))
    go rest true = refl
    go rest false = rest

no_source : (gone : List Gone) (slot : ℕ) → is_to_master (change_of (map goes_offline gone) slot) ≡ false
no_source gone slot = ap (λ c. is_to_master c) (change_is gone slot) ∙ none (gone_at gone slot)
  where
    none : (o : Option Gone) → is_to_master (option_map offline_change o) ≡ false
    none None = refl
    none (Some one) = refl

none_found : (gone : List Gone) (volume : ℕ) (sets : List ShadowState) → find (λ set. has_master volume set && is_to_master (change_of (map goes_offline gone) set.slot)) sets ≡ None
none_found gone volume [] = refl
none_found gone volume (set ∷ sets) =
    ap (λ (b : Bool). cond (has_master volume set && b) (Some set) (find (λ x. has_master volume x && is_to_master (change_of (map goes_offline gone) x.slot)) sets)) (no_source gone set.slot)
    ∙ ap (λ (b : Bool). cond b (Some set) (find (λ x. has_master volume x && is_to_master (change_of (map goes_offline gone) x.slot)) sets)) (and_false (has_master volume set))
    ∙ none_found gone volume sets
  where
    and_false : (b : Bool) → (b && false) ≡ false
    and_false true = refl
    and_false false = refl

none_new : (gone : List Gone) (before : GroupState) → filter_map (λ one. new_set before one) (map goes_offline gone) ≡ []
none_new [] before = refl
none_new (one ∷ gone) before = none_new gone before

-- a set whose master is written in no chunk is as before
same_lists : (kind : Kind) (lists : ChunkLists) → lists_overwritten kind no_chunks lists ≡ lists
same_lists kind lists = λ p. record lists {
  touched = touched (is_independent kind) p;
  moved = fun_ext {f = together no_chunks lists.moved} {g = lists.moved} (λ c. refl) p;
  left = fun_ext {f = apart_from no_chunks lists.left} {g = lists.left} (λ c. refl) p;
  back = fun_ext {f = apart_from no_chunks lists.back} {g = lists.back} (λ c. refl) p;
}
  where
    touched : (b : Bool) → cond b lists.touched (together no_chunks lists.touched) ≡ lists.touched
    touched true = refl
    touched false = fun_ext {f = together no_chunks lists.touched} {g = lists.touched} (λ c. refl)

same_other : (gone : List Gone) (before : GroupState) (set : ShadowState) → as_other (map goes_offline gone) before set ≡ set
same_other gone before set =
    ap (λ (o : Option ShadowState). overwritten (option_map_or (λ from. from.lists.moved) o no_chunks) set) (none_found gone set.master before.sets)
    ∙ go (is_offline set.standing)
  where
    go : (b : Bool) → cond b set (record set { lists = lists_overwritten set.kind no_chunks set.lists }) ≡ set
    go true = refl
    go false = λ p. record set { lists = same_lists set.kind set.lists p }

-- ---- what the block says then

same_enabled : (o : Option Gone) (x : SlotSays) → (offline_slot o x).enabled ≡ x.enabled
same_enabled None x = refl
same_enabled (Some one) x = refl

same_area : (o : Option Gone) (x : SlotSays) → (offline_slot o x).area_b ≡ x.area_b
same_area None x = refl
same_area (Some one) x = refl

same_kind : (o : Option Gone) (x : SlotSays) → (offline_slot o x).kind ≡ x.kind
same_kind None x = refl
same_kind (Some one) x = refl

stays_on : (o : Option Gone) (x : SlotSays) → is_offline (offline_slot o x).standing ≡ false → is_offline x.standing ≡ false
stays_on None x on = on
stays_on (Some one) x on = elim (never on) [ ]
  where
    never : true ≡ false → ⊥
    never e = cc

stays_online : (o : Option Gone) (x : SlotSays) → is_online (offline_slot o x).standing ≡ true → is_online x.standing ≡ true
stays_online None x on = on
stays_online (Some one) x on = elim (never on) [ ]
  where
    never : false ≡ true → ⊥
    never e = cc

no_image : (standing : Standing) (need slots : ℕ) (image behind : Image) → is_online standing ≡ true → contents_by (Offline need slots) image behind ≡ record (contents_by standing image behind) { image = [] }
no_image Online need slots image behind on = refl
no_image (Offline a b) need slots image behind on = elim (never on) [ ]
  where
    never : false ≡ true → ⊥
    never e = cc
no_image (Exported stamp) need slots image behind on = elim (never on) [ ]
  where
    never : false ≡ true → ⊥
    never e = cc

module _ (says block : BlockSays) (V O : List (Option Seen)) (S : List SetSeen) (gone : List Gone) (puts : PutsOffline says block S gone) where
  enabled_same : (k : ℕ) → k < length S → is_enabled block (set_of S k) ≡ is_enabled says (set_of S k)
  enabled_same k lt = ap (λ (x : SlotSays). x.enabled) (puts.slots k lt) ∙ same_enabled (gone_at gone (set_of S k).slot) (slot_of says (set_of S k))

  area_same : (k : ℕ) → k < length S → (slot_of block (set_of S k)).area_b ≡ (slot_of says (set_of S k)).area_b
  area_same k lt = ap (λ (x : SlotSays). x.area_b) (puts.slots k lt) ∙ same_area (gone_at gone (set_of S k).slot) (slot_of says (set_of S k))

  chunks_same : (k : ℕ) → k < length S → chunks_by block (set_of S k) ≡ chunks_by says (set_of S k)
  chunks_same k lt = ap (λ (b : Bool). (set_of S k).area b) (area_same k lt)

  on_before : (k : ℕ) → k < length S → is_offline (standing_of block (set_of S k)) ≡ false → is_offline (standing_of says (set_of S k)) ≡ false
  on_before k lt on = stays_on (gone_at gone (set_of S k).slot) (slot_of says (set_of S k)) (ap (λ (x : SlotSays). is_offline x.standing) (sym (puts.slots k lt)) ∙ on)

  online_before : (k : ℕ) → k < length S → is_online (standing_of block (set_of S k)) ≡ true → is_online (standing_of says (set_of S k)) ≡ true
  online_before k lt on = stays_online (gone_at gone (set_of S k).slot) (slot_of says (set_of S k)) (ap (λ (x : SlotSays). is_online x.standing) (sym (puts.slots k lt)) ∙ on)

  -- a set, by what its slot says
  abbrev state_at : SetSeen → SlotSays → ShadowState
  state_at t slot = state_of t slot (read_from (t.area slot.area_b) t.size.blocks (shown (shadow_disk t)) (over_image O t.over)) (image_in V t.master) (behind_of t)

  abbrev before : GroupState
  before = sets_gone (map goes_offline gone) (group_by says V O S)

  abbrev changed_with : Option Change → ShadowState → Option ShadowState
  changed_with change set = changed_by (map goes_offline gone) before (change_of (map goes_offline gone) (offline_first change set).slot) (offline_first change set)

  set_changed : (k : ℕ) → k < length S → is_enabled says (set_of S k) ≡ true → changed_with (change_of (map goes_offline gone) (set_of S k).slot) (set_by says V O (set_of S k)) ≡ Some (set_by block V O (set_of S k))
  set_changed k lt live =
      ap (λ (c : Option Change). changed_with c (set_by says V O (set_of S k))) (change_is gone (set_of S k).slot)
      ∙ go (gone_at gone (set_of S k).slot) refl
      ∙ ap (λ (x : SlotSays). Some (state_at (set_of S k) x)) (sym (puts.slots k lt))
    where
      go : (o : Option Gone) → gone_at gone (set_of S k).slot ≡ o → changed_with (option_map offline_change o) (set_by says V O (set_of S k)) ≡ Some (state_at (set_of S k) (offline_slot (gone_at gone (set_of S k).slot) (slot_of says (set_of S k))))
      go None is =
          ap (λ (c : Option Change). changed_by (map goes_offline gone) before c (set_by says V O (set_of S k))) (change_is gone (set_of S k).slot ∙ ap (λ (o : Option Gone). option_map offline_change o) is)
          ∙ ap (λ (set : ShadowState). Some set) (same_other gone before (set_by says V O (set_of S k)))
          ∙ ap (λ (o : Option Gone). Some (state_at (set_of S k) (offline_slot o (slot_of says (set_of S k))))) (sym is)
      go (Some one) is =
          ap (λ (c : Option Change). changed_by (map goes_offline gone) before c (gone_offline one.need one.slots (set_by says V O (set_of S k)))) (change_is gone (set_of S k).slot ∙ ap (λ (o : Option Gone). option_map offline_change o) is)
          ∙ ap (λ (set : ShadowState). Some set) (same_other gone before (gone_offline one.need one.slots (set_by says V O (set_of S k))))
          ∙ (λ p. Some (record (set_by says V O (set_of S k)) { standing = Offline one.need one.slots; contents = sym (no_image (standing_of says (set_of S k)) one.need one.slots (shadow_over (read says O (set_of S k)) (image_in V (set_of S k).master)) (behind_of (set_of S k)) (puts.online k lt live one is)) p }))
          ∙ ap (λ (o : Option Gone). Some (state_at (set_of S k) (offline_slot o (slot_of says (set_of S k))))) (sym is)

  pick_same : (T : List SetSeen) → ((j : ℕ) → j < length T → (is_enabled block (set_of T j) ≡ is_enabled says (set_of T j)) × (chunks_by block (set_of T j) ≡ chunks_by says (set_of T j))) → (v i : ℕ) (d : Block) → pick block O T v i d ≡ pick says O T v i d
  pick_same [] same v i d = refl
  pick_same (t ∷ T) same v i d =
      let here = same 0 (omega arith) in
      λ p. cond ((here.0 p) && (eqb t.master v && eqb ((here.1 p).state (i / 64)) 3)) ((read_from (here.1 p) t.size.blocks (shown (shadow_disk t)) (over_image O t.over)).stands i) (pick_same T (λ j l. same (suc j) (omega (arith, l))) v i d p)

  volume_same : (v : ℕ) → volume_by block V O S v ≡ volume_by says V O S v
  volume_same v = ap (λ (f : Image → Image). option_map (λ disk. f (shown disk)) (get_or V v None)) (λ p img. tabulate (length img) (λ i. pick_same S (λ j l. (enabled_same j l, chunks_same j l)) v i (block_at img i) p))

  -- the group stands for the stage by the new block
  pub offline_makes : group_by block V O S ≡ after_stage (group_by says V O S) (Commit (map goes_offline gone) None)
  offline_makes = makes says block V O S (map goes_offline gone) None (record {
    note_is = puts.note;
    sequence_is = puts.sequence;
    none_new = none_new gone before;
    each = λ j l. record {
      stays = λ was is. set_changed j l was;
      goes = λ was is. absurd (never (sym was ∙ sym (enabled_same j l) ∙ is));
      comes = λ was. enabled_same j l ∙ was;
    };
    images = λ v l. volume_same v ∙ sym (unchanged v (volume_by says V O S v));
  })
    where
      never : true ≡ false → ⊥
      never e = cc

      unchanged : (v : ℕ) (o : Option Image) → option_map (λ image. changed_image (map goes_offline gone) before v image) o ≡ o
      unchanged v None = refl
      unchanged v (Some image) = ap (λ (s : Option ShadowState). Some (option_map_or (λ from. from.contents.image) s image)) (none_found gone v before.sets)

  -- and is whole by it
  pub offline_whole : AreWhole says V O S → AreWhole block V O S
  offline_whole w = record {
    volumes_told = w.volumes_told;
    overs_told = w.overs_told;
    each = λ k lt. record {
      shadow = (w.each k lt).shadow;
      bitmap = (w.each k lt).bitmap;
      kind = λ live. ap (λ (x : SlotSays). x.kind) (puts.slots k lt) ∙ same_kind (gone_at gone (set_of S k).slot) (slot_of says (set_of S k)) ∙ (w.each k lt).kind (sym (enabled_same k lt) ∙ live);
      off = λ live off. compact k lt (sym (enabled_same k lt) ∙ live) off (gone_at gone (set_of S k).slot) refl;
      placed = λ live. record { each = subst (λ (c : ChunkMap). (a b : ℕ) → a ≢ b → c.state a ≢ 0 → c.state b ≢ 0 → c.place a ≢ c.place b) (sym (chunks_same k lt)) ((w.each k lt).placed (sym (enabled_same k lt) ∙ live)).each };
      alike = λ live on. subst (λ (c : ChunkMap). IsAlike (read_from c (set_of S k).size.blocks (shown (shadow_disk (set_of S k))) (over_image O (set_of S k).over)) (image_in V (set_of S k).master)) (sym (chunks_same k lt))
          ((w.each k lt).alike (sym (enabled_same k lt) ∙ live) (online_before k lt on));
    };
    apart = λ j k lj lk ne. record {
      splits = λ live live' on same c l three.
          ap (λ (x : ChunkMap). x.state c) (chunks_same k lk)
          ∙ (w.apart j k lj lk ne).splits (sym (enabled_same j lj) ∙ live) (sym (enabled_same k lk) ∙ live') (on_before k lk on) same c l (ap (λ (x : ChunkMap). x.state c) (sym (chunks_same j lj)) ∙ three);
      alone = λ live live' same c l three e.
          (w.apart j k lj lk ne).alone (sym (enabled_same j lj) ∙ live) (sym (enabled_same k lk) ∙ live') same c l (ap (λ (x : ChunkMap). x.state c) (sym (chunks_same j lj)) ∙ three) (ap (λ (x : ChunkMap). x.state c) (sym (chunks_same k lk)) ∙ e);
    };
    slots_apart = λ j k lj lk ne. record {
      each = λ live live' same c d slot some at other there.
          (w.slots_apart j k lj lk ne).each (sym (enabled_same j lj) ∙ live) (sym (enabled_same k lk) ∙ live') same c d slot
          (λ e. some (ap (λ (x : ChunkMap). x.state c) (chunks_same j lj) ∙ e)) (ap (λ (x : ChunkMap). x.place c) (sym (chunks_same j lj)) ∙ at)
          (λ e. other (ap (λ (x : ChunkMap). x.state d) (chunks_same k lk) ∙ e)) (ap (λ (x : ChunkMap). x.place d) (sym (chunks_same k lk)) ∙ there);
    };
  }
    where
      compact : (k : ℕ) → k < length S → is_enabled says (set_of S k) ≡ true → is_offline (standing_of block (set_of S k)) ≡ true → (o : Option Gone) → gone_at gone (set_of S k).slot ≡ o → is_compact (set_of S k).kind ≡ true
      compact k lt live off None is = (w.each k lt).off live (sym (ap (λ (x : SlotSays). is_offline x.standing) (puts.slots k lt ∙ ap (λ (o : Option Gone). offline_slot o (slot_of says (set_of S k))) is)) ∙ off)
      compact k lt live off (Some one) is = puts.compact k lt live one is

-- the commit by which sets go offline is its stage
pub offline_goes : (g : GroupSeen) (block : BlockSays) (gone : List Gone) → PutsOffline g.memory block g.sets gone → {T E : Type 0} (r : Result T E) (new : GroupSeen) → Commits g block r new → Goes g (Commit (map goes_offline gone) None ∷ []) r new
offline_goes g block gone puts r new cm = commit_goes g block (Commit (map goes_offline gone) None) r new cm
    (λ w i. offline_makes g.says block g.volumes g.overs g.sets gone (on_disk i))
    (λ w i. offline_whole g.says block g.volumes g.overs g.sets gone (on_disk i) w.disks)
    (λ w i k lt. record {
      area = λ live. (step i k lt).area (sym (enabled_same g.says block g.volumes g.overs g.sets gone (on_disk i) k lt) ∙ live) ∙ sym (area_same g.says block g.volumes g.overs g.sets gone (on_disk i) k lt);
      chunks = λ live. (step i k lt).chunks (sym (enabled_same g.says block g.volumes g.overs g.sets gone (on_disk i) k lt) ∙ live);
    })
  where
    on_disk : IsInStep g → PutsOffline g.says block g.sets gone
    on_disk i = subst (λ (b : BlockSays). PutsOffline b block g.sets gone) i.block puts

    step : IsInStep g → (k : ℕ) → k < length g.sets → IsStep g.says (set_of g.sets k)
    step i k lt = subst (λ (b : BlockSays). IsStep b (set_of g.sets k)) i.block (i.each k lt)
